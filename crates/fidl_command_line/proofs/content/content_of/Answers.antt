use Rattle.std.proofs.Common.{◌≡◌, ◌∷◌, List, ℕ, refl, subst, arith, rules}
use Rattle.std.specs.Prelude.{MatchOption, Option}
use Rattle.std.proofs.lemmas.Str.Pattern.{strip_prefix_char}
use Rattle.fidl_command_line.proofs.content.content_of.Goals as goal

pub returns-in-None-2 : goal.returns-in-None-2
returns-in-None-2 c =
    let none = strip_prefix_char 64 c.args.text.now c.strip_prefix.result c.strip_prefix.ensures.cases (omega arith) in
    let other = c.if-eq.false in
    let same = c.eq.ensures in (
      record {
        no_input = search (rules, other, same);
        no_file = subst (λ (r : Option _). MatchOption r ((rest : List ℕ) → c.args.text.now ≡ 64 ∷ rest → ⊥) (λ x. c.args.text.now ≡ 64 ∷ x.now)) c.in-None-2.is none;
      },
      refl,
    )
