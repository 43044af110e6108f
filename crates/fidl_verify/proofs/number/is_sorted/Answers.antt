use Rattle.std.proofs.Common.{◌≡◌, true, false, Some, ap, ◌∙◌, subst}
use Rattle.std.specs.Option.{option_map_or}
use Rattle.fidl_table_format.specs.declared.kind.EntryKind.TheVariants.{Enum}
use Rattle.fidl_table_format.specs.Uses.{uses_ordinals}
use Rattle.fidl_table_format.specs.Entry.{IsOf}
use Rattle.fidl_verify.proofs.number.is_sorted.Goals as goal

pub returns-in-Enum : goal.returns-in-Enum
returns-in-Enum c =
    let is : IsOf Enum c.args.entry.now = c.requires.of_kind ∙ ap Some c.in-Enum.is in (
      λ t. record {
        ordinals = λ uses. absurd (let never : false ≡ true = subst (λ o. option_map_or uses_ordinals o false ≡ true) is uses in cc);
        values = λ of. c.are_enum_ranges.ensures.0 t;
      },
      λ s. c.are_enum_ranges.ensures.1 (s.values is),
    )
