-- What a look-up in a set's names finds.
use Rattle.std.proofs.Common.{◌≡◌, ℕ, List, Some, None, sym, subst}
use Rattle.std.specs.Global.{Vec}
use Rattle.std.specs.Map.{lookup}
use Rattle.fidl_tree.specs.declared.file.File.{File}
use Rattle.fidl_tree.specs.declared.declaration.Declaration.{Declaration}
use Rattle.fidl_named.specs.declared.place.DeclarationId.{DeclarationId}
use Rattle.fidl_named.specs.Names.{all_entries, AreDistinct}
use Rattle.fidl_named.specs.NameMaps.{seen, names_of}
use Rattle.fidl_named.specs.Imports.{IsEntry}
use Rattle.fidl_named.specs.Names.{full_name}
use Rattle.fidl_named.specs.Constraints.{IsDeclarationAt}
use Rattle.fidl_named.specs.FullNames.{IsDeclared}
use Rattle.fidl_named.proofs.PropertyMembers.{file_same, declaration_same}
use Rattle.fidl_named.proofs.Taken.{same_text, found_entry, no_entry}
use Rattle.fidl_named.proofs.FullNames.{Declaration_of, entry_declared, declared_entry, one_entry}

-- the names of a set
module _ (fs : List File) (es : List (Vec ℕ × DeclarationId)) (entries : seen es ≡ all_entries fs 0) (full : List ℕ) where
  pub found_declared : (p : DeclarationId) → lookup (same_text full) es ≡ Some p → Declaration_of fs full p
  found_declared p is = entry_declared fs full p (subst (λ es. IsEntry es full p) entries (found_entry es full p is))

  pub found_only : (p : DeclarationId) → AreDistinct (names_of (seen es)) → lookup (same_text full) es ≡ Some p → (q : DeclarationId) (f : File) (d : Declaration) → IsDeclared fs full q f d → q ≡ p
  found_only p distinct is q f d h =
      one_entry (seen es) full q p distinct (subst (λ es. IsEntry es full q) (sym entries) (declared_entry fs full q f d h)) (found_entry es full p is)

  pub found_none : lookup (same_text full) es ≡ None → (q : DeclarationId) (f : File) (d : Declaration) → IsDeclared fs full q f d → ⊥
  found_none none q f d h = no_entry es full q none (subst (λ es. IsEntry es full q) (sym entries) (declared_entry fs full q f d h))

  -- the declaration of the id that a look-up finds
  pub stands_declared : (p : DeclarationId) → lookup (same_text full) es ≡ Some p → (f : File) (d : Declaration) → IsDeclarationAt fs p f d → IsDeclared fs full p f d
  stands_declared p is f d h =
      let r = found_declared p is in
      let there : IsDeclarationAt fs p r.file r.declaration = record { file_at = r.declared.file_at; stands = r.declared.stands } in
      record {
        file_at = h.file_at;
        stands = h.stands;
        name_is = subst (λ (g : File). full_name g d ≡ full) (file_same fs p r.file f r.declaration d there h) (subst (λ (e : Declaration). full_name r.file e ≡ full) (declaration_same fs p r.file f r.declaration d there h) r.declared.name_is);
      }
