-- The type of a member, by the entry that it is named by, and the rows of an entry.
use Rattle.std.proofs.Common.{◌≡◌, ℕ, ◌+◌, ◌<◌, ◌≤◌, List, sym, subst}
use Rattle.std.specs.Prelude.{Option, Some, None, IfNone, IsTrue, false}
use Rattle.std.specs.Option.{option_map_or}
use Rattle.fidl_table_format.specs.declared.kind.EntryKind.{EntryKind}
use Rattle.fidl_table_format.specs.Section.{header_of, entry_at}
use Rattle.fidl_table_format.specs.Entry.{IsOf}
use Rattle.fidl_table_format.specs.Uses.{uses_rows}
use Rattle.fidl_table_format.specs.WellFormed.{WellFormed}
use Rattle.fidl_wire.specs.Term.{Term, named}
use Rattle.fidl_members.specs.Entries.{entry_named}

pub is_named : (o : Option Term) (entry : ℕ) → entry_named o ≡ Some entry → o ≡ Some (named entry)
is_named (Some (named own)) entry e = cc
is_named (Some _) entry e = cc
is_named None entry e = cc

-- the rows of an entry of a kind that has some lie in the table
pub rows_within : (t : List ℕ) → WellFormed t → (i : ℕ) → i < (header_of t).entries → (k : EntryKind) → IsOf k (entry_at t i) → IsTrue (uses_rows k)
    → (entry_at t i).first + (entry_at t i).count ≤ (header_of t).rows
rows_within t w i lt k is rows = (w.entries i lt).children.within (subst (λ (o : Option EntryKind). IsTrue (option_map_or uses_rows o false)) (sym is) rows)

-- a type that is not there is named by no entry
pub no_entry : (o : Option Term) (entry : ℕ) → o ≡ None → entry_named o ≡ Some entry → ⊥
no_entry None entry none e = cc
no_entry (Some t) entry none e = cc

-- what is so where there is no answer
pub if_none : {A P Q : Type 0} (o : Option A) → IfNone o P → (P → Q) → IfNone o Q
if_none None p f = f p
if_none (Some a) p f = tt
