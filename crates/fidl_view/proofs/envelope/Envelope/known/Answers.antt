use Rattle.fidl_wire.specs.Term.{resolve}
use Rattle.std.specs.Option.{option_map}
use Rattle.std.proofs.Common.{◌≡◌, ℕ, ◌<◌, List, ap, sym, subst, ◌∙◌}
use Rattle.std.specs.Prelude.{Some, None}
use Rattle.fidl_wire.specs.Term.{find}
use Rattle.fidl_wire.specs.Term as ty
use Rattle.fidl_table_format.specs.Section.{header_of}
use Rattle.fidl_table_format.specs.Terms.{declarations_of, members_of}
use Rattle.fidl_view.specs.Shows.{type_of}
use Rattle.fidl_view.specs.Views.{type_shown}
use Rattle.fidl_decode_model.specs.Model.{Shown}
use Rattle.fidl_view.specs.Members.{term_at}
use Rattle.fidl_view.proofs.Raw as raw
use Rattle.fidl_view.proofs.envelope.Envelope.known.Goals as goal

pub part-requires : goal.part-requires
part-requires c =
    let d = c.args.self.decoded.now in
    let i = c.args.self.index in
    let o = c.args.self.ordinal in
    let row = c.in-Some.row in
    record {
      below = subst (λ (b : List ℕ). row.entry < (header_of b).entries) c.table.ensures c.in-Some.ensures.entry_below;
      known = subst (λ (b : List ℕ). find (members_of b i) o ≡ Some (ty.named row.entry)) c.table.ensures c.in-Some.ensures.some;
    }

pub returns-clause-part : goal.returns-clause-part
returns-clause-part c x h = c.part.ensures.part x h

pub returns-clause-typed : goal.returns-clause-typed
returns-clause-typed c =
    let d = c.args.self.decoded.now in
    let i = c.args.self.index in
    let o = c.args.self.ordinal in
    let row = c.in-Some.row in
    let is : term_at d i o ≡ Some (ty.named row.entry) = subst (λ (b : List ℕ). find (members_of b i) o ≡ Some (ty.named row.entry)) c.table.ensures c.in-Some.ensures.some in
    let mine : Some (type_shown c.part.result) ≡ Some (type_of d row.entry)
    = ap (λ (s : Shown). Some (type_of s c.part.result.index)) c.part.ensures.message ∙ ap (λ k. Some (type_of d k)) c.part.ensures.entry in
    mine ∙ sym (ap (option_map (resolve (declarations_of d.table).terms)) is)

pub returns-in_default-clause-part : goal.returns-in_default-clause-part
returns-in_default-clause-part c x h =
    let d = c.args.self.decoded.now in
    let i = c.args.self.index in
    let o = c.args.self.ordinal in
    raw.unknown_no_value d i o c.args.self.place (subst (λ (b : List ℕ). find (members_of b i) o ≡ None) c.table.ensures c.in_default.ensures.none) x h
