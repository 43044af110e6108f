-- What the refusals of the rules, one by one, say of resolving.
use Rattle.std.proofs.Common.{ℕ, List, Option, Some, None, inl, inr, sym, subst}
use Rattle.fidl_tree.specs.Syntax.{Path, Value}
use Rattle.fidl_tree.specs.declared.file.File.{File}
use Rattle.fidl_named.specs.declared.fault.NameFault.{NameFault}
use Rattle.fidl_named.specs.declared.fault.NameFault.TheVariants.{DuplicateName, UnknownLibrary, UnknownName, AmbiguousName, AliasCycle, ImportCycle, BadImport, Memory}
use Rattle.fidl_named.specs.declared.meaning.Wanted.{Wanted}
use Rattle.fidl_named.specs.declared.meaning.Meaning.{Meaning}
use Rattle.fidl_named.specs.Paths.{IsTrueOfPath}
use Rattle.fidl_names.specs.Refusals.{IsTrueOfOne}
use Rattle.fidl_named.specs.Places.{NamePlace}
use Rattle.fidl_named.specs.Constraints.{path_alone, name_or_value_fails, ItemsFail}
use Rattle.fidl_named.specs.Scopes.{IsMemoryOr}
use Rattle.fidl_names.specs.Resolved.{PlaceFails, NameFails, IsTrueOfResolving}

-- the refusals of a name
abbrev IsOfName : NameFault → Type 0
IsOfName (UnknownName place) = Unit {0}
IsOfName (AmbiguousName place) = Unit {0}
IsOfName Memory = Unit {0}
IsOfName (DuplicateName place) = ⊥
IsOfName (UnknownLibrary place) = ⊥
IsOfName (AliasCycle place) = ⊥
IsOfName (ImportCycle place) = ⊥
IsOfName (BadImport place) = ⊥

module _ (fs : List File) where
  of_reading : (f : File) (number : ℕ) (kind : Wanted) (p : Path) (fault : NameFault) → IsTrueOfPath fs f number kind p fault → IsOfName fault
  of_reading f number kind p (UnknownName place) h = tt
  of_reading f number kind p (AmbiguousName place) h = tt
  of_reading f number kind p Memory h = tt
  of_reading f number kind p (DuplicateName place) h = h
  of_reading f number kind p (UnknownLibrary place) h = h
  of_reading f number kind p (AliasCycle place) h = h
  of_reading f number kind p (ImportCycle place) h = h
  of_reading f number kind p (BadImport place) h = h

  of_item : (f : File) (number : ℕ) (end : Option Meaning) (rank : ℕ) (v : Value) (fault : NameFault) (alone : Option Path) → name_or_value_fails fs f number end rank v fault alone → IsOfName fault
  of_item f number end rank v fault (Some p) h = of_reading f number _ p fault h.fails
  of_item f number end rank v fault None h = of_reading f number _ h.path fault h.fails

  of_items : (f : File) (number : ℕ) (end : Option Meaning) (cs : List Value) (fault : NameFault) → ItemsFail fs f number end cs fault → IsOfName fault
  of_items f number end cs fault h = of_item f number end h.rank h.value fault (path_alone h.value) h.fails

  of_place : (f : File) (number : ℕ) (fault : NameFault) (x : NamePlace) → PlaceFails fs f number fault x → IsOfName fault
  of_place f number fault x (PlaceFails.of_name kind p h) = of_reading f number kind p fault h
  of_place f number fault x (PlaceFails.of_type argument_of p cs kind wants h) = of_reading f number kind p fault h
  of_place f number fault x (PlaceFails.of_constraint argument_of p cs kind m end wants means resolved h) = of_items f number (Some end) cs fault h
  of_place f number fault x (PlaceFails.of_layout cs h) = of_items f number None cs fault h
  of_place f number fault x (PlaceFails.of_members keyword underlying members h) = of_reading f number _ h.fails.path fault h.fails.fails

  of_one : (fault : NameFault) → IsTrueOfOne fs (NameFails fs) fault → IsOfName fault
  of_one fault h = of_place h.file h.file_index fault h.says.fails.place h.says.fails.fails

  names_say : (fault : NameFault) → IsTrueOfOne fs (NameFails fs) fault → IsTrueOfResolving fs fault
  names_say (UnknownName place) h = h
  names_say (AmbiguousName place) h = h
  names_say Memory h = tt
  names_say (DuplicateName place) h = absurd (of_one (DuplicateName place) h)
  names_say (UnknownLibrary place) h = absurd (of_one (UnknownLibrary place) h)
  names_say (AliasCycle place) h = absurd (of_one (AliasCycle place) h)
  names_say (ImportCycle place) h = absurd (of_one (ImportCycle place) h)
  names_say (BadImport place) h = absurd (of_one (BadImport place) h)

  -- a name at a place is refused
  pub reported_names : (fault : NameFault) → IsMemoryOr (IsTrueOfOne fs (NameFails fs)) fault → IsTrueOfResolving fs fault
  reported_names fault (inl is) = subst (IsTrueOfResolving fs) (sym is) tt
  reported_names fault (inr h) = names_say fault h
