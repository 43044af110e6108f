-- A type is read back from its words, so types of the same words are the same.
use Rattle.std.proofs.Common.{◌≡◌, ◌∙◌, ℕ, zero, suc, Bool, true, false, List, [], ◌∷◌, refl, ap, sym}
use Rattle.fidl_wire.specs.Term.{Term, Kind, nothing}
use Rattle.fidl_wire.specs.Term as ty
use Rattle.fidl_ir.specs.declared.term.«Type».{«Type»}
use Rattle.fidl_ir.specs.declared.term.«Type».TheVariants as Types
use Rattle.fidl_ir.specs.Terms.{number_kind_view, term_view}
use Rattle.fidl_reachable_types.specs.declared.list.TypeRef.{TypeRef}
use Rattle.fidl_reachable_types.specs.declared.list.TypeRef.TheVariants.{Of, Layout}
use Rattle.fidl_reachable_types.specs.Keys.{flag, rank, words}
use Rattle.fidl_reachable_types.specs.Growing.{reference_view}

abbrev flagged : ℕ → Bool
flagged zero = false
flagged (suc n) = true

abbrev kind : ℕ → Kind
kind zero = ty.int8
kind (suc zero) = ty.int16
kind (suc (suc zero)) = ty.int32
kind (suc (suc (suc zero))) = ty.int64
kind (suc (suc (suc (suc zero)))) = ty.uint8
kind (suc (suc (suc (suc (suc zero))))) = ty.uint16
kind (suc (suc (suc (suc (suc (suc zero)))))) = ty.uint32
kind _ = ty.uint64

abbrev read : List ℕ → Term
read (zero ∷ []) = ty.bool
read ((suc zero) ∷ k ∷ []) = ty.number (kind k)
read ((suc (suc zero)) ∷ o ∷ subtype ∷ rights ∷ []) = ty.handle (flagged o) subtype rights
read ((suc (suc (suc zero))) ∷ o ∷ bound ∷ []) = ty.string (flagged o) bound
read ((suc (suc (suc (suc zero)))) ∷ o ∷ bound ∷ ws) = ty.vector (flagged o) bound (read ws)
read ((suc (suc (suc (suc (suc zero))))) ∷ n ∷ ws) = ty.array (read ws) n
read ((suc (suc (suc (suc (suc (suc zero)))))) ∷ ws) = ty.box (read ws)
read ((suc (suc (suc (suc (suc (suc (suc zero))))))) ∷ i ∷ []) = ty.named i
read _ = nothing

flagged_back : (b : Bool) → flagged (flag b) ≡ b
flagged_back true = refl
flagged_back false = refl

kind_back : (k : Kind) → kind (rank k) ≡ k
kind_back ty.int8 = refl
kind_back ty.int16 = refl
kind_back ty.int32 = refl
kind_back ty.int64 = refl
kind_back ty.uint8 = refl
kind_back ty.uint16 = refl
kind_back ty.uint32 = refl
kind_back ty.uint64 = refl

read_back : (t : «Type») → read (words (term_view t)) ≡ term_view t
read_back Types.Bool = refl
read_back (Types.Number k) = ap ty.number (kind_back (number_kind_view k))
read_back (Types.Handle optional subtype rights) = ap (λ b. ty.handle b subtype rights) (flagged_back optional)
read_back (Types.Text optional bound) = ap (λ b. ty.string b bound) (flagged_back optional)
read_back (Types.Vector' optional bound p t) = ap (λ b. ty.vector b bound (read (words (term_view t)))) (flagged_back optional) ∙ ap (ty.vector optional bound) (read_back t)
read_back (Types.Array' p t n) = ap (λ u. ty.array u n) (read_back t)
read_back (Types.Box i) = refl
read_back (Types.Named i) = refl

ref_back : (r : TypeRef) → read (words (reference_view r)) ≡ reference_view r
ref_back (Of t) = read_back t.now
ref_back (Layout i) = refl

pub same_type : (r s : TypeRef) → words (reference_view r) ≡ words (reference_view s) → reference_view r ≡ reference_view s
same_type r s e = sym (ref_back r) ∙ ap read e ∙ ref_back s
