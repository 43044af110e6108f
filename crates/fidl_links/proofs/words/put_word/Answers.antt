use Rattle.std.proofs.Common.{◌≡◌, ◌*◌, ◌+◌, ◌/◌, ◌<◌, ◌≤◌, arith, rules}
use Rattle.std.proofs.lemmas.Slice.{overwrites}
use Rattle.std.proofs.lemmas.List.{places}
use Rattle.fidl_links.proofs.Parts.{number_at_place, other_word}
use Rattle.fidl_links.proofs.words.put_word.Goals as goal

pub returns-clause-put : goal.returns-clause-put
returns-clause-put c =
    let eights : c.args.place ≡ 8 * (c.args.place / 8) = omega (arith, c.requires.aligned) in
    record {
      len = search (rules, places);
      number = number_at_place _ c.args.place c.args.number c.requires.aligned (search (rules, overwrites)) c.ranges.number.fits;
      words = λ j ne room. other_word _ c.args.bytes.now (c.args.place / 8) j (search (rules, places)) room ne (λ k lt. let below : k < c.args.place = omega (arith, lt, eights) in search (rules, places))
          (λ k ge. let above : c.args.place + 8 ≤ k = omega (arith, ge, eights) in search (rules, places));
      tail = λ k ge. let above : c.args.place + 8 ≤ k = omega (arith, ge, eights) in search (rules, places);
    }
