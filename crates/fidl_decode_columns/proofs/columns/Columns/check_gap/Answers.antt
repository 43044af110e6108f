use Rattle.std.proofs.Common.{◌≡◌, ℕ, ◌+◌, ◌-◌, ◌*◌, ◌≤◌, subst, arith}
use Rattle.fidl_wire.specs.Encoding.{zeros}
use Rattle.fidl_wire.specs.Standing.{Stands}
use Rattle.fidl_decode_model.specs.Breaks.{IsPadding}
use Rattle.fidl_decode_columns.specs.Columns.{right_before, IsFirstWrong}
use Rattle.fidl_decode_columns.proofs.Raw.{fewer_free}
use Rattle.fidl_decode_columns.proofs.Sizes.{fewer_room, gaps_cost}
use Rattle.fidl_decode_columns.proofs.columns.Columns.check_gap.Goals as goal

few : (limit known n : ℕ) → limit ≡ known → known ≤ n → limit ≤ n
few limit known n is le = omega (arith, is, le)

pub first_gap-requires : goal.first_gap-requires
first_gap-requires c =
    let le = few c.right_before-limit.result (right_before c.args.structs.now.count c.args.known) c.args.structs.now.count c.right_before-limit.ensures c.requires.known in
    record {
      room = record {
        within = fewer_room c.args.structs.now.base c.args.structs.now.entry.size c.right_before-limit.result c.args.structs.now.count _ le c.requires.within;
        free = fewer_free c.args.self.now.links.now c.args.structs.now.base c.args.structs.now.entry.size c.right_before-limit.result c.args.structs.now.count le c.requires.free;
        member = omega (arith, c.requires.order, c.requires.end);
      };
    }

pub returns-clause-value : goal.returns-clause-value
returns-clause-value c =
    let bytes = c.args.self.now.links.now.came in
    let at : ℕ → ℕ = λ k. c.args.structs.now.base + c.args.structs.now.entry.size * k + c.args.from in
    (c.first_gap.result, c.first_of.ensures, subst (λ n. IsFirstWrong (λ k. Stands bytes (at k) (zeros (c.args.to - c.args.from))) (λ k. IsPadding bytes (at k) (at k + (c.args.to - c.args.from))) n c.first_gap.result) c.right_before-limit.ensures c.first_gap.ensures)

pub returns-clause-cost : goal.returns-clause-cost
returns-clause-cost c =
    let le = few c.right_before-limit.result (right_before c.args.structs.now.count c.args.known) c.args.structs.now.count c.right_before-limit.ensures c.requires.known in
    let same : c.from.result ≡ c.right_before-limit.result = c.from.ensures in
    omega (arith, gaps_cost c.from.result c.args.structs.now.count (c.args.to - c.args.from) (few c.from.result c.right_before-limit.result c.args.structs.now.count same le))
