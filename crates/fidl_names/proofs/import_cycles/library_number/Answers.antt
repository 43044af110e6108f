use Rattle.std.proofs.Common.{ℕ, List, sym, subst, ◌∙◌, ap, true≢false}
use Rattle.std.specs.Prelude.{is_some}
use Rattle.fidl_named.specs.Names.{IsOneOf}
use Rattle.fidl_named.specs.Imports.{IsEntry}
use Rattle.fidl_named.specs.NameMaps.{seen, names_of}
use Rattle.fidl_named.proofs.Taken.{taken, found_entry}
use Rattle.fidl_names.proofs.import_cycles.library_number.Goals as goal

pub unreachable-requires : goal.unreachable-requires
unreachable-requires c =
    let es = c.args.libraries.now.entries in
    let name = c.in_ok-name.name.items in
    let there = subst (IsOneOf (names_of (seen es))) (sym c.in_ok-name.ensures) c.requires in
    true≢false (sym ((taken es name).1 there) ∙ ap is_some (sym c.in-None.ensures.value))

pub returns : goal.returns
returns c =
    let es = c.args.libraries.now.entries in
    let number = c.in-Some.number.now in
    subst (λ (n : List ℕ). IsEntry (seen es) n number) c.in_ok-name.ensures (found_entry es c.in_ok-name.name.items number (sym c.in-Some.ensures.value))
