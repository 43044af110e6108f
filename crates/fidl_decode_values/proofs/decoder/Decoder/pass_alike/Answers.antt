use Rattle.fidl_decode_values.specs.Reading.{message}
use Rattle.fidl_decode_values.proofs.Fitting.{lt_le}
use Rattle.fidl_decode_values.proofs.Unchanged.{same_le}
use Rattle.std.proofs.Common.{◌≡◌, ◌<◌, arith, ℕ, List, refl, sym, ap, subst, ◌∙◌, inl, inr, add-one}
use Rattle.std.specs.Prelude.{Some}
use Rattle.fidl_wire.specs.Term.{find}
use Rattle.fidl_table_format.specs.declared.kind.EntryKind.{EntryKind}
use Rattle.fidl_table_format.specs.declared.kind.EntryKind.TheVariants.{Int32, Int64, Uint32, Uint64}
use Rattle.fidl_table_format.specs.Kind.{kind_of}
use Rattle.fidl_table_format.specs.Section.{header_of, entry_at}
use Rattle.fidl_table_format.specs.Terms.{members_of}
use Rattle.fidl_decode_values.specs.Body.{BodyFine, rest_of}
use Rattle.fidl_decode_model.specs.Machine.{at_of}
use Rattle.fidl_decode_columns.proofs.Leaves.{turns_stay}
use Rattle.fidl_decode_values.proofs.BodyTurns.{body_found, free_of}
use Rattle.fidl_decode_values.proofs.decoder.Decoder.pass_alike.Goals as goal

pub row-row-requires-clause-body : goal.row-row-requires-clause-body
row-row-requires-clause-body c = subst (λ t. BodyFine t c.args.body.now) (sym c.requires.body.table) c.requires.body

pub pass_run-requires-clause-how : goal.pass_run-requires-clause-how
pass_run-requires-clause-how c =
    let t = c.args.self.now.table.now in
    let e = c.row-row.result.entry in
    let number : c.kind_of.result ≡ (entry_at t e).kind = c.kind_of.ensures ∙ ap (λ (u : List ℕ). (entry_at u e).kind) c.requires.body.table in
    let is : kind_of (entry_at t e).kind ≡ Some c.in-Some.kind = ap kind_of (sym number) ∙ sym c.from_number.ensures ∙ c.in-Some.is in
    elim c.in-Int32.is [
      | inl k ↦ free_of t c.args.self.now.fine e (subst (λ u. e < (header_of u).entries) c.requires.body.table c.row-row.ensures.entry) Int32 (is ∙ ap (λ (k : EntryKind). Some k) k) refl 4 refl
      | inr k ↦ free_of t c.args.self.now.fine e (subst (λ u. e < (header_of u).entries) c.requires.body.table c.row-row.ensures.entry) Uint32 (is ∙ ap (λ (k : EntryKind). Some k) k) refl 4 refl
    ]

pub pass_run-requires-in-Int64-clause-how : goal.pass_run-requires-in-Int64-clause-how
pass_run-requires-in-Int64-clause-how c =
    let t = c.args.self.now.table.now in
    let e = c.row-row.result.entry in
    let number : c.kind_of.result ≡ (entry_at t e).kind = c.kind_of.ensures ∙ ap (λ (u : List ℕ). (entry_at u e).kind) c.requires.body.table in
    let is : kind_of (entry_at t e).kind ≡ Some c.in-Some.kind = ap kind_of (sym number) ∙ sym c.from_number.ensures ∙ c.in-Some.is in
    elim c.in-Int64.is [
      | inl k ↦ free_of t c.args.self.now.fine e (subst (λ u. e < (header_of u).entries) c.requires.body.table c.row-row.ensures.entry) Int64 (is ∙ ap (λ (k : EntryKind). Some k) k) refl 8 refl
      | inr k ↦ free_of t c.args.self.now.fine e (subst (λ u. e < (header_of u).entries) c.requires.body.table c.row-row.ensures.entry) Uint64 (is ∙ ap (λ (k : EntryKind). Some k) k) refl 8 refl
    ]

pub pass_one-requires : goal.pass_one-requires
pass_one-requires c =
    let t = c.args.self.now.table.now in
    let e = c.row-row.result.entry in
    let number : c.kind_of.result ≡ (entry_at t e).kind = c.kind_of.ensures ∙ ap (λ (u : List ℕ). (entry_at u e).kind) c.requires.body.table in
    let is : kind_of (entry_at t e).kind ≡ Some c.in-Some.kind = ap kind_of (sym number) ∙ sym c.from_number.ensures ∙ c.in-Some.is in
    let found = body_found t c.args.body.now c.requires.body c.args.from.read c.requires.more c.row-row.result c.row-row.ensures.value c.if-row-from.false in
    record {
      holds = c.requires.holds;
      body = c.requires.body;
      more = c.requires.more;
      at = c.requires.at;
      found = ap (λ n. find (members_of t c.args.body.now.entry) n) (add-one c.args.from.read) ∙ found;
      entry = subst (λ u. e < (header_of u).entries) c.requires.body.table c.row-row.ensures.entry;
      kind = is;
      frame = c.requires.frame;
      state = c.requires.state;
      ready = c.requires.ready;
      budget = c.requires.budget;
    }

pub row-row-requires-clause-more : goal.row-row-requires-clause-more
row-row-requires-clause-more c = c.requires.more

pub returns-then-row-from-clause-order : goal.returns-then-row-from-clause-order
returns-then-row-from-clause-order c = same_le _

pub returns-then-row-from-clause-grows : goal.returns-then-row-from-clause-grows
returns-then-row-from-clause-grows c = same_le _

pub returns-then-row-from-clause-pays : goal.returns-then-row-from-clause-pays
returns-then-row-from-clause-pays c = same_le _

pub pass_run-requires-clause-body : goal.pass_run-requires-clause-body
pass_run-requires-clause-body c = c.requires.body

pub pass_run-requires-clause-frame : goal.pass_run-requires-clause-frame
pass_run-requires-clause-frame c = c.requires.frame

pub pass_run-requires-clause-state : goal.pass_run-requires-clause-state
pass_run-requires-clause-state c = c.requires.state

pub pass_run-requires-clause-budget : goal.pass_run-requires-clause-budget
pass_run-requires-clause-budget c = c.requires.budget

pub pass_run-requires-in-Int64-clause-body : goal.pass_run-requires-in-Int64-clause-body
pass_run-requires-in-Int64-clause-body c = c.requires.body

pub pass_run-requires-in-Int64-clause-frame : goal.pass_run-requires-in-Int64-clause-frame
pass_run-requires-in-Int64-clause-frame c = c.requires.frame

pub pass_run-requires-in-Int64-clause-state : goal.pass_run-requires-in-Int64-clause-state
pass_run-requires-in-Int64-clause-state c = c.requires.state

pub pass_run-requires-in-Int64-clause-budget : goal.pass_run-requires-in-Int64-clause-budget
pass_run-requires-in-Int64-clause-budget c = c.requires.budget

pub kind_of-requires-clause-body : goal.kind_of-requires-clause-body
kind_of-requires-clause-body c = subst (λ t. BodyFine t c.args.body.now) (sym c.requires.body.table) c.requires.body

pub pass_run-requires-clause-more : goal.pass_run-requires-clause-more
pass_run-requires-clause-more c = lt_le _ _ c.requires.more

pub pass_run-requires-in-Int64-clause-more : goal.pass_run-requires-in-Int64-clause-more
pass_run-requires-in-Int64-clause-more c = lt_le _ _ c.requires.more

pub returns-in-Int32-clause-turns : goal.returns-in-Int32-clause-turns
returns-in-Int32-clause-turns c = c.pass_run.ensures.turns

pub returns-in-Int64-clause-turns : goal.returns-in-Int64-clause-turns
returns-in-Int64-clause-turns c = c.pass_run-in-Int64.ensures.turns

pub returns-in-Int32-clause-order : goal.returns-in-Int32-clause-order
returns-in-Int32-clause-order c = c.pass_run.ensures.order

pub returns-in-Int64-clause-order : goal.returns-in-Int64-clause-order
returns-in-Int64-clause-order c = c.pass_run-in-Int64.ensures.order

pub returns-in-Int32-clause-few : goal.returns-in-Int32-clause-few
returns-in-Int32-clause-few c = c.pass_run.ensures.few

pub returns-in-Int64-clause-few : goal.returns-in-Int64-clause-few
returns-in-Int64-clause-few c = c.pass_run-in-Int64.ensures.few

pub returns-in-Int32-clause-grows : goal.returns-in-Int32-clause-grows
returns-in-Int32-clause-grows c = c.pass_run.ensures.grows

pub returns-in-Int64-clause-grows : goal.returns-in-Int64-clause-grows
returns-in-Int64-clause-grows c = c.pass_run-in-Int64.ensures.grows

pub returns-in-Int32-clause-pays : goal.returns-in-Int32-clause-pays
returns-in-Int32-clause-pays c = c.pass_run.ensures.pays

pub returns-in-Int64-clause-pays : goal.returns-in-Int64-clause-pays
returns-in-Int64-clause-pays c = c.pass_run-in-Int64.ensures.pays

pub unreachable-requires : goal.unreachable-requires
unreachable-requires c =
    let t = c.args.self.now.table.now in
    let e = c.row-row.result.entry in
    let number : c.kind_of.result ≡ (entry_at t e).kind = c.kind_of.ensures ∙ ap (λ (u : List ℕ). (entry_at u e).kind) c.requires.body.table in
    let fine = c.args.self.now.fine.each e (subst (λ u. e < (header_of u).entries) c.requires.body.table c.row-row.ensures.entry) in
    c.in_default.not-Some fine.0 (c.from_number.ensures ∙ ap kind_of number ∙ fine.1.is)

pub returns-then-row-from-clause-turns : goal.returns-then-row-from-clause-turns
returns-then-row-from-clause-turns c = turns_stay c.args.self.now.table.now (message c.args.self.now) (rest_of c.args.body.now c.args.from.read) (at_of c.args.state.now) c.requires.frame c.requires.state _ (omega arith)
