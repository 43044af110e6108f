use Rattle.std.proofs.Common.{◌≡◌, sym, ap, subst, ◌∙◌}
use Rattle.fidl_table_format.specs.Terms.{members_of}
use Rattle.fidl_reading.specs.Cuts.{texts_of}
use Rattle.std.proofs.Common.{◌∷◌}
use Rattle.std.specs.Prelude.{Some}
use Rattle.fidl_wire.specs.Term.{find}
use Rattle.fidl_wire.specs.Term as ty
use Rattle.fidl_spelling.specs.Spells.{Means}
use Rattle.fidl_reading.proofs.Handing.{handed_so}
use Rattle.fidl_reading.proofs.Keyed.{no_member, no_colon, no_row, means_name, name_no_number, row_means, row_found}
use Rattle.fidl_reading.proofs.reader.Reader.read_key.Goals as goal

pub returns-in_default-clause-fault_is_true : goal.returns-in_default-clause-fault_is_true
returns-in_default-clause-fault_is_true c =
    let b = c.args.self.now.table.now in
    let word = c.in_ok-word.word.text.now in
    let none = c.in_default.ensures.none in
    no_member (members_of b c.args.index) (texts_of c.args.words.now) word (texts_of c.in_ok-word.behind.now) c.in_ok-word.ensures.ok
    (no_row b c.entries-entries.ensures.well_formed c.args.index c.requires.entry c.requires.kind word none)
    (name_no_number word (sym c.is_name.ensures ∙ c.if-is_name.true))

pub returns-in_err-rest-clause-fault_is_true : goal.returns-in_err-rest-clause-fault_is_true
returns-in_err-rest-clause-fault_is_true c =
    handed_so c.from_residual-in_err-rest.result c.in_err-rest.field-0.0 _ c.from_residual-in_err-rest.ensures.1
    (no_colon (members_of c.args.self.now.table.now c.args.index) (texts_of c.args.words.now) c.in_ok-word.word.text.now (texts_of c.in_ok-word.behind.now) c.in_ok-word.ensures.ok c.in_err-rest.ensures.fault_is_true)

pub returns-then-is_name-clause-ok : goal.returns-then-is_name-clause-ok
returns-then-is_name-clause-ok c =
    let b = c.args.self.now.table.now in
    let index = c.args.index in
    let word = c.in_ok-word.word.text.now in
    let row = c.in-Some.row in
    let w = c.entries-entries.ensures.well_formed in
    let x = c.in-Some.ensures.some in
    let means = row_means b w index c.requires.entry c.requires.kind word row x.0 x.1 x.2 x.3 x.4 in
    let found = row_found b w index c.requires.entry c.requires.kind row x.0 x.1 x.2 in
    let key : row.key ≡ c.from.result = sym c.from.ensures in (
      word,
      (sym c.is_name.ensures ∙ c.if-is_name.true, subst (λ n. Means (members_of b index) n word) key means, subst (λ n. find (members_of b index) n ≡ Some (ty.named row.entry)) key found),
      c.in_ok-word.ensures.ok ∙ ap (λ l. word ∷ l) c.in_ok-rest.ensures.ok,
    )

pub returns-in_err-ordinal-clause-fault_is_true : goal.returns-in_err-ordinal-clause-fault_is_true
returns-in_err-ordinal-clause-fault_is_true c =
    let b = c.args.self.now.table.now in
    let word = c.in_ok-word.word.text.now in
    let rest = texts_of c.in_ok-word.behind.now in
    let e = c.in_ok-word.ensures.ok in
    handed_so c.from_residual-in_err-ordinal.result c.in_err-ordinal.field-0.0 _ c.from_residual-in_err-ordinal.ensures.1
    (no_member (members_of b c.args.index) (texts_of c.args.words.now) word rest e (means_name b c.entries-entries.ensures.well_formed c.args.index c.requires.entry c.requires.kind word (sym c.is_name.ensures ∙ c.if-is_name.false))
    (λ o h. c.in_err-ordinal.ensures.fault_is_true o rest (word, h, e)))
