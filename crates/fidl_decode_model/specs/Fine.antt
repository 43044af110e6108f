-- That a table is fine in one way alone, as the decoder's ghost field asks.
use Rattle.std.specs.Prelude.{ℕ, zero, suc, List, Option}
use Rattle.std.specs.Option.{option_map_or}
use Rattle.std.specs.Coded.{Coded-set, coded_option, Unit-prop}
use Rattle.fidl_table_format.specs.declared.record.Entry.{Entry}
use Rattle.fidl_table_format.specs.declared.kind.EntryKind.{EntryKind}
use Rattle.fidl_table_format.specs.declared.kind.EntryKind.TheVariants.{Bits, Vector, Array, Box}
use Rattle.fidl_table_format.specs.declared.kind.EntryKind.TheVariants.{Struct}
use Rattle.fidl_table_format.specs.contracts.kind.EntryKind as kind
use Rattle.fidl_decode_model.specs.Invariants.{Keys, ContentFine, EntryFine, IsFine}
use denote.Struct.Props.{props}
use mathlib.Core.Path.{sym, ap, ◌∙◌}
use mathlib.Core.HLevel.{Σ_prop_path}

keys_prop : (t : List ℕ) (first n from : ℕ) → IsProp (Keys t first n from)
keys_prop t first zero from = Unit-prop
keys_prop t first (suc n) from = hlevel (props, keys_prop t (suc first) n)

kind_set : IsSet (Option EntryKind)
kind_set = Coded-set (coded_option kind.the_row.coded)

content_prop : (t : List ℕ) (e : Entry) (k : EntryKind) → IsProp (ContentFine t e k)
content_prop t e Bits = hlevel props
content_prop t e Vector = hlevel props
content_prop t e Array = hlevel props
content_prop t e Box = hlevel (props, kind_set)
content_prop t e Struct = hlevel (props, keys_prop)
content_prop t e k = Unit-prop

entry_prop : (t : List ℕ) (e : Entry) (k : EntryKind) → IsProp (EntryFine t e k)
entry_prop t e k = hlevel (props, kind_set, content_prop)

-- an entry has one kind
kinds_prop : (t : List ℕ) (e : Entry) → IsProp ((k : EntryKind) × EntryFine t e k)
kinds_prop t e x y =
    Σ_prop_path (entry_prop t e)
    (ap (λ (o : Option EntryKind). option_map_or (λ (k : EntryKind). k) o x.0)
    (sym x.1.is ∙ y.1.is))

pub fine_prop : (t : List ℕ) → IsProp (IsFine t)
fine_prop t = hlevel (props, kinds_prop t)
