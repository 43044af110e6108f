-- What is told by a name, of types whose members can be told by their names.
use Rattle.std.proofs.Common.{◌≡◌, ℕ, zero, suc, Bool, true, false, cond, ◌==◌, List, [], ◌∷◌, get_or, Option, Some, None, refl, sym, ap, subst, arith, inl, inr}
use Rattle.std.proofs.lemmas.Bool.{eqb-true}
use Rattle.std.specs.List.{AllByRecursion}
use Rattle.fidl_wire.specs.Term.{Term, Fields, Rows, no_rows, row, resolve, find, fields_of, nothing}
use Rattle.fidl_wire.specs.Term as ty
use Rattle.fidl_wire.specs.Encoding.{term_or}
use Rattle.fidl_wire.specs.Text.{name_at}
use Rattle.fidl_spelling.specs.Words.{IsRun}
use Rattle.fidl_spelling.specs.Spells.{Bears, Means}
use Rattle.fidl_spelling.specs.Readable.{HasNames, FieldsHaveNames, RowsHaveNames, AreNamesDistinct}

readable_at : (rule : Rows → Type 0) (terms : List Term) (i : ℕ) → AllByRecursion (HasNames rule) terms → HasNames rule (get_or terms i nothing)
readable_at rule [] i h = tt
readable_at rule (t ∷ terms) zero h = h.0
readable_at rule (t ∷ terms) (suc i) h = readable_at rule terms i h.1

pub readable_resolve : (rule : Rows → Type 0) (terms : List Term) (t : Term) → AllByRecursion (HasNames rule) terms → HasNames rule t → HasNames rule (resolve terms t)
readable_resolve rule terms (ty.named i) h p = readable_at rule terms i h
readable_resolve rule terms ty.bool h p = p
readable_resolve rule terms _ h p = p

pub readable_fields : (rule : Rows → Type 0) (t : Term) → HasNames rule t → FieldsHaveNames rule (fields_of t)
readable_fields rule (ty.struct fs) h = h
readable_fields rule _ h = tt

abbrev get_some : Term → Option Term → Term
get_some u None = u
get_some u (Some t) = t

-- a member that the layout has: its name is a word, its type is readable, and it bears the name
pub record IsThere (rule : Rows → Type 0) (rows : Rows) (ordinal : ℕ) (t : Term) : Type 0 where
  pub run : IsRun (name_at rows ordinal)
  pub readable : HasNames rule t
  pub bears : Bears rows (name_at rows ordinal) ordinal

pub there : (rule : Rows → Type 0) (rows : Rows) (ordinal : ℕ) (t : Term) → RowsHaveNames rule rows → find rows ordinal ≡ Some t → IsThere rule rows ordinal t
there rule no_rows ordinal t h e = absurd (cc e)
there rule (row key name u rows) ordinal t h e = go (λ f. there rule rows ordinal t h.2 f) (key == ordinal) refl e
  where
    go : (find rows ordinal ≡ Some t → IsThere rule rows ordinal t) → (b : Bool) → (key == ordinal) ≡ b → cond b (Some u) (find rows ordinal) ≡ Some t → IsThere rule (row key name u rows) ordinal t
    go more true is f =
        let same : name_at (row key name u rows) ordinal ≡ name = ap (λ b. cond b name (name_at rows ordinal)) is in
        record {
          run = subst IsRun (sym same) h.0;
          readable = let u_is : u ≡ t = ap (λ o. get_some u o) f in subst (HasNames rule) u_is h.1;
          bears = inl (sym (eqb-true key ordinal is), same);
        }
    go more false is f =
        let same : name_at (row key name u rows) ordinal ≡ name_at rows ordinal = ap (λ b. cond b name (name_at rows ordinal)) is in
        let k = more f in
        record {
          run = subst IsRun (sym same) k.run;
          readable = k.readable;
          bears = inr (subst (λ n. Bears rows n ordinal) (sym same) k.bears);
        }

pub means : (rows : Rows) (ordinal : ℕ) (t : Term) → AreNamesDistinct rows → IsThere AreNamesDistinct rows ordinal t → Means rows ordinal (name_at rows ordinal)
means rows ordinal t h k = record { bears = k.bears; lowest = λ j b. let e = h (name_at rows ordinal) ordinal j k.bears b in omega (arith, e) }

pub readable_member : (rule : Rows → Type 0) (rows : Rows) (ordinal : ℕ) → RowsHaveNames rule rows → HasNames rule (term_or (find rows ordinal))
readable_member rule no_rows ordinal g = tt
readable_member rule (row key name t rows) ordinal g = go (key == ordinal) (readable_member rule rows ordinal g.2)
  where
    go : (b : Bool) → HasNames rule (term_or (find rows ordinal)) → HasNames rule (term_or (cond b (Some t) (find rows ordinal)))
    go true h = g.1
    go false h = h
