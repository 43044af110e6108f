use Rattle.std.proofs.Common.{◌≡◌, ◌∙◌, map, ap, sym}
use Rattle.std.proofs.lemmas.Option.{same_Some}
use Rattle.fidl_wire.specs.Term.{Term, nothing, resolve}
use Rattle.fidl_wire.specs.Term as ty
use Rattle.fidl_equivalence.specs.Alike.{IsNumbered}
use Rattle.fidl_ir.specs.Terms.{term_view, definition_view, definitions_view}
use Rattle.fidl_reachable_types.specs.Growing.{reference_view}
use Rattle.fidl_table_format.specs.Section.{header_of, entry_at}
use Rattle.fidl_table_format.specs.Terms.{term_of}
use Rattle.fidl_table_check.proofs.Levels.{level}
use Rattle.fidl_table_check.proofs.entries.entry_is.Goals as goal

pub returns-in-Some-definition_at : goal.returns-in-Some-definition_at
returns-in-Some-definition_at c = λ is t at.
    let types = map reference_view c.args.types.now in
    let bytes = c.args.table.now in
    let terms = definitions_view c.args.definitions.now in
    let R : Term → Term → Type 0 = λ t u. IsNumbered types t u in
    let one = definition_view c.in-Some-definition_at.definition.now in
    let declared = term_of bytes (header_of bytes) c.entry-entry.result in
    let own : t ≡ ty.named c.in-Some-layout_number.layout = sym (same_Some (reference_view c.in-Some.of) t (c.in-Some.ensures ∙ at)) ∙ c.in-Some-layout_number.ensures.some in
    level R (resolve terms t) (term_of bytes (header_of bytes) (entry_at bytes c.args.number)) one declared (ap (resolve terms) own ∙ c.in-Some-definition_at.ensures) (sym (ap (term_of bytes (header_of bytes)) c.entry-entry.ensures.value)) (c.definition_is.ensures is)

pub returns-in-Of : goal.returns-in-Of
returns-in-Of c = λ is t at.
    let types = map reference_view c.args.types.now in
    let bytes = c.args.table.now in
    let terms = definitions_view c.args.definitions.now in
    let R : Term → Term → Type 0 = λ t u. IsNumbered types t u in
    let own : t ≡ term_view c.in-Of.of.now = sym (same_Some (reference_view c.in-Some.of) t (c.in-Some.ensures ∙ at)) ∙ ap reference_view c.in-Of.is in
    level R (resolve terms t) (term_of bytes (header_of bytes) (entry_at bytes c.args.number)) (resolve terms (term_view c.in-Of.of.now)) (term_of bytes (header_of bytes) c.entry-entry.result)
    (ap (resolve terms) own) (sym (ap (term_of bytes (header_of bytes)) c.entry-entry.ensures.value)) (c.type_is.ensures is terms bytes (header_of bytes))
