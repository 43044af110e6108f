use Rattle.std.proofs.Common.{◌≡◌, ◌∙◌, ◌<◌, ℕ, List, Vec, Global, Some, length, slice_get, refl, ap, sym}
use Rattle.std.specs.Option.{option_map}
use Rattle.std.specs.Cmp.Lexicographic.{bytes_decides}
use Rattle.std.proofs.lemmas.Option.{slice_get-map, slice_get_read}
use Rattle.fidl_table_build.proofs.shown_roots.is_named.Goals as goal

pub returns-in-Some : goal.returns-in-Some
returns-in-Some c = λ is.
    let names = c.args.names.now in
    let bytes_of : Vec ℕ Global → List ℕ = λ name. name.items in
    let look = c.in-Some.ensures.lookup in
    let within : c.args.definition < length names = look.3.0 in
    let there : slice_get names c.args.definition ≡ Some c.in-Some.own.now = slice_get_read names (length names) c.args.definition c.in-Some.own.now refl within look.1 in
    let same : c.as_slice.result.now ≡ c.args.name.now = (bytes_decides c.as_slice.result.now c.args.name.now).0 (sym c.eq.ensures ∙ is) in
    slice_get-map bytes_of names c.args.definition ∙ ap (option_map bytes_of) there ∙ ap Some (sym c.as_slice.ensures.value ∙ same)
