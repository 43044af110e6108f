-- The entry of a root, and what is said of a table that was verified.
use Rattle.std.proofs.Common.{◌≡◌, ℕ, ◌<◌, List, [], sym, ap, subst, ◌∙◌, inl, inr}
use Rattle.std.specs.Prelude.{◌⊎◌}
use Rattle.std.proofs.lemmas.Bool.{cases_order}
use Rattle.fidl_wire.specs.Value.{Value}
use Rattle.fidl_wire.specs.Term as ty
use Rattle.fidl_wire.specs.Message.{Encodes, IsEncoding}
use Rattle.fidl_table_format.specs.declared.record.Header.{Header}
use Rattle.fidl_table_format.specs.Section.{header_of, root_at}
use Rattle.fidl_table_format.specs.Terms.{declarations_of}
use Rattle.fidl_table_format.specs.Root.{IsRootEntry, HasNoRoot}
use Rattle.fidl_table_format.specs.WellFormed.{WellFormed}
use Rattle.fidl_bench.specs.declared.failure.Failure.{Failure}
use Rattle.fidl_bench.specs.declared.failure.Failure.TheVariants.{BadTable, NoRoot, NoMemory, Refused, OtherShape, OtherSum, NoRoom}
use Rattle.fidl_bench.specs.Failures.{IsRootOf, LacksRoot, IsValueOf, IsMessageOf, IsWhy, IsWhyUnread}

pub root_of_file : (file table root : List ℕ) (entry : ℕ) → table ≡ file → WellFormed file → IsRootEntry table (header_of table) root entry → IsRootOf file root entry
root_of_file file table root entry t w h = record {
  well_formed = w;
  root_entry = subst (λ (b : List ℕ). IsRootEntry b (header_of b) root entry) t h;
}

pub lacks_of_file : (file table root : List ℕ) → table ≡ file → WellFormed file → HasNoRoot table (header_of table) root → LacksRoot file root
lacks_of_file file table root t w h = record {
  well_formed = w;
  none = subst (λ (b : List ℕ). HasNoRoot b (header_of b) root) t h;
}

-- a name has one first root, so one entry
module _ (b : List ℕ) (h : Header) (name : List ℕ) (e f : ℕ) (x : IsRootEntry b h name e) (y : IsRootEntry b h name f) where
  one_by_order : (x.0 ≡ y.0) ⊎ ((x.0 < y.0) ⊎ (y.0 < x.0)) → e ≡ f
  one_by_order (inl same) = x.2 ∙ ap (λ k. (root_at b h k).entry) same ∙ sym y.2
  one_by_order (inr (inl less)) = absurd (y.1.first x.0 less x.1.named)
  one_by_order (inr (inr more)) = absurd (x.1.first y.0 more y.1.named)

  pub one_entry : e ≡ f
  one_entry = one_by_order (cases_order x.0 y.0)

-- a message that encodes a value of the entry encodes one of the root
pub value_of_root : (file table root message : List ℕ) (entry : ℕ) (v : Value) → table ≡ file → IsRootOf file root entry → Encodes (declarations_of table) (ty.named entry) v message [] → IsValueOf file root message v
value_of_root file table root message entry v t r x = record {
  entry = entry;
  of_root = r;
  encodes = subst (λ (b : List ℕ). Encodes (declarations_of b) (ty.named entry) v message []) t x;
}

-- and the other way round
pub value_of_entry : (file table root message : List ℕ) (entry : ℕ) (v : Value) → table ≡ file → IsRootOf file root entry → IsValueOf file root message v → Encodes (declarations_of table) (ty.named entry) v message []
value_of_entry file table root message entry v t r x =
    subst (λ (b : List ℕ). Encodes (declarations_of b) (ty.named entry) v message []) (sym t)
    (subst (λ k. Encodes (declarations_of file) (ty.named k) v message [])
    (one_entry file (header_of file) root x.entry entry x.of_root.root_entry r.root_entry) x.encodes)

pub message_of_root : (file table root message : List ℕ) (entry : ℕ) → table ≡ file → IsRootOf file root entry → IsEncoding (declarations_of table) (ty.named entry) message [] → IsMessageOf file root message
message_of_root file table root message entry t r x = (x.0, value_of_root file table root message entry x.0 t r x.1)

pub no_message_of_root : (file table root message : List ℕ) (entry : ℕ) → table ≡ file → IsRootOf file root entry → ¬ IsEncoding (declarations_of table) (ty.named entry) message [] → ¬ IsMessageOf file root message
no_message_of_root file table root message entry t r none x = none (x.0, value_of_entry file table root message entry x.0 t r x.1)

-- why a message is not read says so of the root
pub why_of_root : (file table root message : List ℕ) (entry : ℕ) (f : Failure) → table ≡ file → IsRootOf file root entry → IsWhyUnread (declarations_of table) (ty.named entry) message f → IsWhy file root message f
why_of_root file table root message entry BadTable t r x = absurd x
why_of_root file table root message entry NoRoot t r x = absurd x
why_of_root file table root message entry NoMemory t r x = (entry, r)
why_of_root file table root message entry Refused t r x = ((entry, r), no_message_of_root file table root message entry t r x)
why_of_root file table root message entry OtherShape t r x = message_of_root file table root message entry t r x
why_of_root file table root message entry OtherSum t r x = message_of_root file table root message entry t r x
why_of_root file table root message entry NoRoom t r x = message_of_root file table root message entry t r x
