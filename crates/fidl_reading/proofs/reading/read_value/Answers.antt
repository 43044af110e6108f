use Rattle.std.proofs.Common.{sym, subst, ◌∙◌}
use Rattle.fidl_wire.specs.Term as ty
use Rattle.fidl_wire.specs.Views.{value_view}
use Rattle.fidl_wire.specs.Value.{Value}
use Rattle.fidl_table_format.specs.Terms.{declarations_of}
use Rattle.fidl_spelling.specs.Spells.{Spelled}
use Rattle.fidl_reading.specs.declared.fault.NotationFault.TheVariants.{Memory}
use Rattle.fidl_reading.specs.Cuts.{texts_of}
use Rattle.fidl_reading.specs.Reads.{StandsNot, IfJudged, type_at}
use Rattle.fidl_reading.proofs.Handing.{handed_on, refused, judged}
use Rattle.fidl_reading.proofs.Named.{single_at}
use Rattle.fidl_reading.proofs.Whole as whole
use Rattle.fidl_reading.proofs.Written.{written_spells, one_written, only_memory, refused_for_memory}
use Rattle.std.specs.Prelude.{List, ℕ}
use Rattle.fidl_spelling.specs.Spells.{SpellsWithin}
use Rattle.fidl_reading.specs.declared.word.Word.{Word}
use Rattle.fidl_reading.proofs.reading.read_value.Goals.{then-cut-text-via-then-cut-text, then-cut-text-via-else-cut-text+then-not-is_empty}
use Rattle.fidl_reading.proofs.reading.read_value.Goals as goal

pub returns-in_err-cut-clause-fault_is_true : goal.returns-in_err-cut-clause-fault_is_true
returns-in_err-cut-clause-fault_is_true c =
    let ds = declarations_of c.args.table.now in
    handed_on c.from_residual.result c.in_err-cut.field-0.0 _ c.from_residual.ensures.1 (whole.no_words ds (ty.named c.args.entry) c.args.text.now c.in_err-cut.field-0.0 c.in_err-cut.ensures.fault_is_true)

pub returns-in_err-indexed-clause-fault_is_true : goal.returns-in_err-indexed-clause-fault_is_true
returns-in_err-indexed-clause-fault_is_true c = handed_on c.from_residual-in_err-indexed.result Memory _ c.from_residual-in_err-indexed.ensures.1 tt

pub returns-in_err-value-clause-fault_is_true : goal.returns-in_err-value-clause-fault_is_true
returns-in_err-value-clause-fault_is_true c =
    let b = c.args.table.now in
    let ds = declarations_of b in
    let P : List Word → Type 0 = λ ws. (v : Value) → StandsNot (Spelled ds (type_at b c.args.entry) v) (texts_of ws) in
    let says = subst (λ (u : List ℕ). IfJudged ((v : Value) → StandsNot (Spelled (declarations_of u) (type_at u c.args.entry) v) (texts_of c.deref.result.now)) c.in_err-value.field-0.0) c.in_ok-indexed.ensures.value c.in_err-value.ensures.fault_is_true in
    refused c.from_residual-in_err-value.result c.in_err-value.field-0.0 (P c.deref.result.now) _ c.from_residual-in_err-value.ensures.1 says
    (λ h. whole.no_value ds (ty.named c.args.entry) c.args.text.now c.in_ok-cut.cut c.in_ok-cut.ensures.cut (subst P c.deref.ensures.value h))

pub returns-then-cut-text-clause-fault_is_true : goal.returns-then-cut-text-clause-fault_is_true
returns-then-cut-text-clause-fault_is_true c =
    let b = c.args.table.now in
    let ds = declarations_of b in
    let text = c.args.text.now in
    let cut = c.in_ok-cut.cut in
    let is = c.in_ok-cut.ensures.cut in
    let v = value_view c.in_ok-value.value in
    let rest = texts_of c.in_ok-value.rest.now in
    let found = subst (λ (u : List ℕ). Spelled (declarations_of u) (type_at u c.args.entry) v (texts_of c.deref.result.now) rest) c.in_ok-indexed.ensures.value c.in_ok-value.ensures.ok in
    let read = subst (λ (ws : List Word). Spelled ds (type_at b c.args.entry) v (texts_of ws) rest) c.deref.ensures.value found in
    judged _ c.syntax.result (elim c.then-cut-text.branch as (λ x. (u : Value) → ¬ (SpellsWithin ds (ty.named c.args.entry) text u)) [
      | then-cut-text-via-then-cut-text w ↦ whole.cut_short ds (ty.named c.args.entry) text cut is w.if-cut-text.true
      | then-cut-text-via-else-cut-text+then-not-is_empty w ↦ whole.words_left ds (ty.named c.args.entry) text cut is (single_at b c.entries-entries.ensures.well_formed c.args.entry) v rest read (whole.some_left c.in_ok-value.rest.now (sym w.is_empty.ensures ∙ w.if-not-is_empty.true))
    ])

pub returns-clause-ok : goal.returns-clause-ok
returns-clause-ok c =
    let b = c.args.table.now in
    let ds = declarations_of b in
    let v = value_view c.in_ok-value.value in
    let rest = texts_of c.in_ok-value.rest.now in
    let found = subst (λ (u : List ℕ). Spelled (declarations_of u) (type_at u c.args.entry) v (texts_of c.deref.result.now) rest) c.in_ok-indexed.ensures.value c.in_ok-value.ensures.ok in
    let read = subst (λ (ws : List Word). Spelled ds (type_at b c.args.entry) v (texts_of ws) rest) c.deref.ensures.value found in
    whole.spelled ds (ty.named c.args.entry) c.args.text.now c.in_ok-cut.cut c.in_ok-cut.ensures.cut c.if-cut-text.false c.in_ok-cut.ensures.utf8 c.in_ok-cut.ensures.within v rest (whole.none_left c.in_ok-value.rest.now (sym c.is_empty.ensures ∙ c.if-not-is_empty.false)) read

pub returns-in_err-cut-clause-written : goal.returns-in_err-cut-clause-written
returns-in_err-cut-clause-written c distinct v is =
    let b = c.args.table.now in
    refused_for_memory c.from_residual.result c.in_err-cut.field-0.0 _ (SpellsWithin (declarations_of b) (ty.named c.args.entry) c.args.text.now) v c.from_residual.ensures.1
    (written_spells b c.entries-entries.ensures.well_formed c.args.entry c.args.text.now v distinct is) (returns-in_err-cut-clause-fault_is_true c)

pub returns-in_err-indexed-clause-written : goal.returns-in_err-indexed-clause-written
returns-in_err-indexed-clause-written c distinct v is =
    let b = c.args.table.now in
    refused_for_memory c.from_residual-in_err-indexed.result Memory _ (SpellsWithin (declarations_of b) (ty.named c.args.entry) c.args.text.now) v c.from_residual-in_err-indexed.ensures.1
    (written_spells b c.entries-entries.ensures.well_formed c.args.entry c.args.text.now v distinct is) (returns-in_err-indexed-clause-fault_is_true c)

pub returns-in_err-value-clause-written : goal.returns-in_err-value-clause-written
returns-in_err-value-clause-written c distinct v is =
    let b = c.args.table.now in
    refused_for_memory c.from_residual-in_err-value.result c.in_err-value.field-0.0 _ (SpellsWithin (declarations_of b) (ty.named c.args.entry) c.args.text.now) v c.from_residual-in_err-value.ensures.1
    (written_spells b c.entries-entries.ensures.well_formed c.args.entry c.args.text.now v distinct is) (returns-in_err-value-clause-fault_is_true c)

pub returns-then-cut-text-clause-written : goal.returns-then-cut-text-clause-written
returns-then-cut-text-clause-written c distinct v is =
    let b = c.args.table.now in
    only_memory (SpellsWithin (declarations_of b) (ty.named c.args.entry) c.args.text.now) v c.syntax.result
    (written_spells b c.entries-entries.ensures.well_formed c.args.entry c.args.text.now v distinct is) (returns-then-cut-text-clause-fault_is_true c)

pub returns-clause-written : goal.returns-clause-written
returns-clause-written c distinct v is =
    one_written c.args.table.now c.entries-entries.ensures.well_formed c.args.entry c.args.text.now v distinct is (value_view c.in_ok-value.value) (returns-clause-ok c)
