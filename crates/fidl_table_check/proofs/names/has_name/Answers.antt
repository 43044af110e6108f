use Rattle.std.proofs.Common.{◌≡◌, ◌∙◌, ◌<◌, ℕ, List, Vec, Global, Some, length, slice_get, map, refl, ap, sym, subst}
use Rattle.std.specs.Option.{option_map}
use Rattle.std.specs.Cmp.Lexicographic.{bytes_decides}
use Rattle.std.proofs.lemmas.Option.{same_Some, slice_get-map, slice_get_read}
use Rattle.fidl_wire.specs.Term.{Term}
use Rattle.fidl_wire.specs.Term as ty
use Rattle.fidl_reachable_types.specs.Growing.{reference_view}
use Rattle.fidl_table_format.specs.declared.record.Entry.{Entry}
use Rattle.fidl_table_format.specs.Section.{header_of, name_at}
use Rattle.fidl_table_check.specs.Numbered.{entry_name}
use Rattle.fidl_table_check.proofs.names.has_name.Goals as goal

same_number : (i j : ℕ) → ty.named i ≡ ty.named j → i ≡ j
same_number i j e = cc

pub returns : goal.returns
returns c = λ is i at.
    let bytes = c.args.table.now in
    let names = c.args.names.now in
    let layout = c.in-Some-layout_number.layout in
    let bytes_of : Vec ℕ Global → List ℕ = λ name. name.items in
    let look = c.in-Some-get.ensures.lookup in
    let number : layout ≡ i = same_number layout i (sym c.in-Some-layout_number.ensures.some ∙ same_Some (reference_view c.in-Some.of) (ty.named i) (c.in-Some.ensures ∙ at)) in
    let within : layout < length names = look.3.0 in
    let there : slice_get names layout ≡ Some c.in-Some-get.name.now = slice_get_read names (length names) layout c.in-Some-get.name.now refl within look.1 in
    let same : c.entry_name.result.now ≡ c.as_slice.result.now = (bytes_decides c.entry_name.result.now c.as_slice.result.now).0 (sym c.eq.ensures ∙ is) in
    let own : c.entry_name.result.now ≡ entry_name bytes c.args.number = c.entry_name.ensures ∙ ap (λ (e : Entry). name_at bytes (header_of bytes) e.name_place e.name_length) c.entry-entry.ensures.value in
    let named : slice_get (map bytes_of names) layout ≡ Some (entry_name bytes c.args.number) =
    slice_get-map bytes_of names layout ∙ ap (option_map bytes_of) there ∙ ap Some (sym c.as_slice.ensures.value ∙ sym same ∙ own) in
    subst (λ k. slice_get (map bytes_of names) k ≡ Some (entry_name bytes c.args.number)) number named
