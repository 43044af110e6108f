-- Relations whose types are alike level by level are within the greatest one, which is such a relation itself.
use Rattle.std.proofs.Common.{◌≡◌, ℕ, zero, suc, Bool, ◌≤◌, ◌<◌, List, length, map, get_or, Option, Some, slice_get, refl, ap, sym, ◌∙◌, subst, arith}
use Rattle.std.proofs.Math.ListN.{get_or-map}
use Rattle.std.proofs.lemmas.List.{ext_get_or, length-map}
use Rattle.std.proofs.lemmas.Option.{get_or_from_slice_get, slice_get-get_or}
use Rattle.fidl_wire.specs.declared.handle.HandleInfo.{HandleInfo}
use Rattle.fidl_limits.specs.declared.limits.TheConstants.{MAX_DEPTH}
use Rattle.fidl_wire.specs.Encoding.{object}
use Rattle.fidl_wire.specs.Message.{Encodes}
use Rattle.fidl_wire.specs.Value.{Value}
use Rattle.fidl_wire.specs.Term.{Term, Fields, Rows, resolve, nothing}
use Rattle.fidl_wire.specs.Term as ty
use Rattle.fidl_wire.specs.Figure.{Declarations, IsLaidOut, figure_of, figure}
use Rattle.fidl_equivalence.specs.Alike.{Alike, AlikeMember, AlikeFields, AlikeRows, AlikeTo, AreAlike, IsOne, missing, there, IsNumbered, AreNumbered}
use Rattle.fidl_equivalence.specs.Alike as like
use Rattle.fidl_equivalence.proofs.Types.{one_type, figure_level, figure_of-resolve}

-- over a wider relation of the parts
module _ {R S : Term → Term → Type 0} (f : (t u : Term) → R t u → S t u) where
  wider_member : {o p : Option Term} → AlikeMember R o p → AlikeMember S o p
  wider_member missing = missing
  wider_member (there r) = there (f _ _ r)

  wider_fields : {fs gs : Fields} → AlikeFields R fs gs → AlikeFields S fs gs
  wider_fields like.no_fields = like.no_fields
  wider_fields (like.field name r fs) = like.field name (f _ _ r) (wider_fields fs)

  wider_rows : {rows others : Rows} → AlikeRows R rows others → AlikeRows S rows others
  wider_rows h = record { names = h.names; members = λ ordinal. wider_member (h.members ordinal) }

  pub wider : {a b : Term} → Alike R a b → Alike S a b
  wider like.bool = like.bool
  wider (like.number k) = like.number k
  wider (like.bits k m) = like.bits k m
  wider (like.enum k zs) = like.enum k zs
  wider (like.handle o s r) = like.handle o s r
  wider (like.string o n) = like.string o n
  wider (like.vector o n r) = like.vector o n (f _ _ r)
  wider (like.array r n) = like.array (f _ _ r) n
  wider (like.box r) = like.box (f _ _ r)
  wider (like.struct fs) = like.struct (wider_fields fs)
  wider (like.table h) = like.table (wider_rows h)
  wider (like.union o s h) = like.union o s (wider_rows h)

-- over each relation of a row, so over all of them
module _ (R : ℕ → Term → Term → Type 0) where
  abbrev All : Term → Term → Type 0
  All t u = (n : ℕ) → R n t u

  element : {S : Term → Term → Type 0} {o p : Bool} {m n : ℕ} {t u : Term} → Alike S (ty.vector o m t) (ty.vector p n u) → S t u
  element (like.vector o n r) = r

  item : {S : Term → Term → Type 0} {m n : ℕ} {t u : Term} → Alike S (ty.array t m) (ty.array u n) → S t u
  item (like.array r n) = r

  boxed : {S : Term → Term → Type 0} {t u : Term} → Alike S (ty.box t) (ty.box u) → S t u
  boxed (like.box r) = r

  fields : {S : Term → Term → Type 0} {fs gs : Fields} → Alike S (ty.struct fs) (ty.struct gs) → AlikeFields S fs gs
  fields (like.struct fs) = fs

  table_rows : {S : Term → Term → Type 0} {rows others : Rows} → Alike S (ty.table rows) (ty.table others) → AlikeRows S rows others
  table_rows (like.table h) = h

  union_rows : {S : Term → Term → Type 0} {o p s q : Bool} {rows others : Rows} → Alike S (ty.union o s rows) (ty.union p q others) → AlikeRows S rows others
  union_rows (like.union o s h) = h

  head : {S : Term → Term → Type 0} {x y : List ℕ} {t u : Term} {fs gs : Fields} → AlikeFields S (ty.field x t fs) (ty.field y u gs) → S t u
  head (like.field name r fs) = r

  tail : {S : Term → Term → Type 0} {x y : List ℕ} {t u : Term} {fs gs : Fields} → AlikeFields S (ty.field x t fs) (ty.field y u gs) → AlikeFields S fs gs
  tail (like.field name r fs) = fs

  held : {S : Term → Term → Type 0} {t u : Term} → AlikeMember S (Some t) (Some u) → S t u
  held (there r) = r

  all_member : {o p : Option Term} → AlikeMember (R 0) o p → ((n : ℕ) → AlikeMember (R n) o p) → AlikeMember All o p
  all_member missing h = missing
  all_member (there r) h = there (λ n. held (h n))

  all_fields : {fs gs : Fields} → AlikeFields (R 0) fs gs → ((n : ℕ) → AlikeFields (R n) fs gs) → AlikeFields All fs gs
  all_fields like.no_fields h = like.no_fields
  all_fields (like.field name r fs) h = like.field name (λ n. head (h n)) (all_fields fs (λ n. tail (h n)))

  all_rows : {rows others : Rows} → ((n : ℕ) → AlikeRows (R n) rows others) → AlikeRows All rows others
  all_rows h = record { names = (h 0).names; members = λ ordinal. all_member ((h 0).members ordinal) (λ n. (h n).members ordinal) }

  all_levels : {a b : Term} → Alike (R 0) a b → ((n : ℕ) → Alike (R n) a b) → Alike All a b
  all_levels like.bool h = like.bool
  all_levels (like.number k) h = like.number k
  all_levels (like.bits k m) h = like.bits k m
  all_levels (like.enum k zs) h = like.enum k zs
  all_levels (like.handle o s r) h = like.handle o s r
  all_levels (like.string o n) h = like.string o n
  all_levels (like.vector o n r) h = like.vector o n (λ n. element (h n))
  all_levels (like.array r n) h = like.array (λ n. item (h n)) n
  all_levels (like.box r) h = like.box (λ n. boxed (h n))
  all_levels (like.struct fs) h = like.struct (all_fields fs (λ n. fields (h n)))
  all_levels (like.table rows) h = like.table (all_rows (λ n. table_rows (h n)))
  all_levels (like.union o s rows) h = like.union o s (all_rows (λ n. union_rows (h n)))

-- each relation that goes on level by level is within the greatest
pub within : (R : Term → Term → Type 0) (ds es : Declarations) → ((t u : Term) → R t u → Alike R (resolve ds.terms t) (resolve es.terms u)) → (t u : Term) → R t u → AreAlike ds es t u
within R ds es next t u r zero = tt
within R ds es next t u r (suc n) = wider (λ t u r. within R ds es next t u r n) (next t u r)

pub alike_types : (ds es : Declarations) → IsLaidOut ds → IsLaidOut es → (t u : Term) → AreAlike ds es t u → (v : Value) → IsOne ds es t u v
alike_types ds es laid_ds laid_es =
    one_type (λ t u. AreAlike ds es t u) ds es (λ t u r. all_levels (λ n t u. AlikeTo ds es n t u) (r 1) (λ n. r (suc n))) laid_ds laid_es

pub numbered_types : (ds es : Declarations) (types : List Term) → AreNumbered ds es types → (number : ℕ) (t : Term) → slice_get types number ≡ Some t → AreAlike ds es t (ty.named number)
numbered_types ds es types h number t at = within (λ t u. IsNumbered types t u) ds es go t (ty.named number) (number, at, refl)
  where
    go : (t u : Term) → IsNumbered types t u → Alike (λ t u. IsNumbered types t u) (resolve ds.terms t) (resolve es.terms u)
    go t u r = subst (λ u. Alike (λ t u. IsNumbered types t u) (resolve ds.terms t) (resolve es.terms u)) (sym r.2) (h r.0 t r.1)

-- figures that are copied from the types of the list solve the equations of the declarations that are numbered so
pub numbered_figures : (ds es : Declarations) (types : List Term) → IsLaidOut ds → AreNumbered ds es types → length es.terms ≡ length types → es.figures ≡ map (figure_of ds.figures) types → IsLaidOut es
numbered_figures ds es types laid_ds h lengths figures = ext_get_or (figure 1 1 0) _ _ (omega (arith, length-map es.terms (figure_of es.figures), length-map types (figure_of ds.figures), ap length figures, lengths)) at
  where
    stated : (number : ℕ) (t : Term) → slice_get types number ≡ Some t → get_or es.figures number (figure 1 1 0) ≡ figure_of ds.figures t
    stated number t e = ap (λ fs. get_or fs number (figure 1 1 0)) figures ∙ get_or-map (figure_of ds.figures) types number (ty.bool) ∙ ap (figure_of ds.figures) (get_or_from_slice_get types number t ty.bool e)

    parts : (t u : Term) → IsNumbered types t u → figure_of ds.figures t ≡ figure_of es.figures u
    parts t u r = sym (stated r.0 t r.1) ∙ sym (ap (figure_of es.figures) r.2)

    here : (number : ℕ) (t : Term) → slice_get types number ≡ Some t → get_or (map (figure_of es.figures) es.terms) number (figure 1 1 0) ≡ get_or es.figures number (figure 1 1 0)
    here number t e =
        let a = resolve ds.terms t in
        get_or-map (figure_of es.figures) es.terms number nothing
        ∙ sym (figure_level (λ t u. IsNumbered types t u) ds es (figure_of ds.figures a).nest (λ t u r k. parts t u r) (h number t e) (omega arith))
        ∙ figure_of-resolve ds laid_ds t ∙ sym (stated number t e)

    at : (i : ℕ) → i < length (map (figure_of es.figures) es.terms) → get_or (map (figure_of es.figures) es.terms) i (figure 1 1 0) ≡ get_or es.figures i (figure 1 1 0)
    at i k = here i (get_or types i nothing) (slice_get-get_or types i nothing (omega (arith, k, length-map es.terms (figure_of es.figures), lengths)))

-- of types that are one the same bytes and handles encode the same values
pub one_message : (ds es : Declarations) (t u : Term) (v : Value) → IsOne ds es t u v → (bytes : List ℕ) (handles : List HandleInfo) → Encodes ds t v bytes handles → Encodes es u v bytes handles
one_message ds es t u v one bytes handles h = record {
  typed = one.typed.0 h.typed;
  shallow = subst (λ n. n ≤ MAX_DEPTH) one.depth h.shallow;
  message = sym (ap (λ e. (object e, e.handles)) one.encoding) ∙ h.message;
  short = h.short;
  few = h.few;
}
