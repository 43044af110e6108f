-- What the text of a root spells.
use Rattle.std.proofs.Common.{◌≡◌, ℕ, List, sym, subst}
use Rattle.fidl_wire.specs.Term as ty
use Rattle.fidl_table_format.specs.Section.{header_of}
use Rattle.fidl_table_format.specs.Terms.{declarations_of}
use Rattle.fidl_bench.specs.declared.failure.Failure.{Failure}
use Rattle.fidl_bench.specs.declared.failure.Failure.TheVariants.{BadTable, NoRoot, NoMemory, Refused, OtherShape, OtherSum, NoRoom}
use Rattle.fidl_bench.specs.Failures.{IsRootOf}
use Rattle.fidl_bench.specs.Spelled.{IsSpelled, IsWhyUnspelled, SpellsOneOf, IsWhyNone}
use Rattle.fidl_bench.proofs.Roots.{one_entry}

-- a text that spells a value of the entry spells one of the root
pub spelled_of_root : (file table root text : List ℕ) (entry : ℕ) → table ≡ file → IsRootOf file root entry
    → IsSpelled (declarations_of table) (ty.named entry) text → SpellsOneOf file root text
spelled_of_root file table root text entry t r x = record {
  entry = entry;
  of_root = r;
  spelled = subst (λ (b : List ℕ). IsSpelled (declarations_of b) (ty.named entry) text) t x;
}

spelled_of_entry : (file table root text : List ℕ) (entry : ℕ) → table ≡ file → IsRootOf file root entry
    → SpellsOneOf file root text → IsSpelled (declarations_of table) (ty.named entry) text
spelled_of_entry file table root text entry t r x =
    subst (λ (b : List ℕ). IsSpelled (declarations_of b) (ty.named entry) text) (sym t)
    (subst (λ k. IsSpelled (declarations_of file) (ty.named k) text)
    (one_entry file (header_of file) root x.entry entry x.of_root.root_entry r.root_entry) x.spelled)

-- why a text of the entry spells none is why one of the root does not
pub none_of_root : (file table root text : List ℕ) (entry : ℕ) (f : Failure) → table ≡ file → IsRootOf file root entry
    → IsWhyUnspelled (declarations_of table) (ty.named entry) text f → IsWhyNone file root text f
none_of_root file table root text entry BadTable t r x = absurd x
none_of_root file table root text entry NoRoot t r x = absurd x
none_of_root file table root text entry NoMemory t r x = (entry, r)
none_of_root file table root text entry Refused t r x =
    ((entry, r), λ some. x (spelled_of_entry file table root text entry t r some))
none_of_root file table root text entry OtherShape t r x = absurd x
none_of_root file table root text entry OtherSum t r x = absurd x
none_of_root file table root text entry NoRoom t r x = absurd x
