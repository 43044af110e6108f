-- The members of a table or union entry are named by entries, and the content of an envelope is a row of one.
use Rattle.std.proofs.Common.{◌≡◌, ℕ, zero, suc, ◌+◌, ◌-◌, ◌<◌, ◌≤◌, Bool, true, false, cond, nat_le, ◌==◌, List, [], ◌∷◌, map, length, Option, Some, None, refl, sym, ap, subst, ◌∙◌, arith, inl, inr, length-append}
use Rattle.std.proofs.lemmas.Bool.{cases_lt}
use Rattle.std.proofs.Math.ListN.{get_or-eq_default}
use Rattle.fidl_wire.specs.Value.{Value}
use Rattle.fidl_wire.specs.Value as tree
use Rattle.fidl_wire.specs.Term.{Term, resolve, rows_of, find, nothing, IsBounded}
use Rattle.fidl_wire.specs.Term as ty
use Rattle.fidl_wire.specs.Figure.{Declarations, figure_of, size_of}
use Rattle.fidl_wire.specs.Typed.{IsTyped}
use Rattle.fidl_wire.specs.Encoding.{zeros}
use Rattle.fidl_wire.specs.Standing.{Stands}
use Rattle.fidl_table_format.specs.declared.kind.EntryKind.{EntryKind}
use Rattle.fidl_table_format.specs.declared.kind.EntryKind.TheVariants.{Table, Union}
use Rattle.fidl_table_format.specs.Section.{header_of, entry_at, row_at}
use Rattle.fidl_table_format.specs.Terms.{term_as, term_of, declarations_of, below, rows_from}
use Rattle.fidl_decode_model.specs.Invariants.{IsFine}
use Rattle.fidl_decode_model.specs.Rows.{Row, RowsRise}
use Rattle.fidl_decode_model.specs.State.{Message, Position, member_at, begun, ValueAt, Members}
use Rattle.fidl_decode_model.specs.Envelopes.{Contained, depth_within}
use Rattle.fidl_decode_model.specs.Faults.{IsWithin}
use Rattle.fidl_decode_model.proofs.Rows.{members_end, more_members}
use Rattle.fidl_decode_model.proofs.Visiting.{term_is}
use Rattle.fidl_decode_model.proofs.Single.{IsBoundedIf}
use Rattle.fidl_decode_model.proofs.Enclosed.{wide, Enclosed, known_content}

-- the type of a member, if any, is named
abbrev pub NamedIf : Option Term → Type 0
NamedIf None = Unit {0}
NamedIf (Some t) = (e : ℕ) × (t ≡ ty.named e)

pub bounded_if : (o : Option Term) → NamedIf o → IsBoundedIf o
bounded_if None n = tt
bounded_if (Some t) n = subst IsBounded (sym n.1) tt

-- the number of no declaration has no values
no_values : (ds : Declarations) (v : Value) → IsTyped ds nothing v → ⊥
no_values ds (tree.number z) h = let lt = h.1.1 in omega (arith, lt)
no_values ds _ h = absurd h

length-map-below : {A : Type 0} (f : ℕ → A) (xs : List ℕ) → length (map f xs) ≡ length xs
length-map-below f [] = refl
length-map-below f (x ∷ xs) = ap suc (length-map-below f xs)

length-below : (n : ℕ) → length (below n) ≡ n
length-below zero = refl
length-below (suc n) = length-append (below n) (n ∷ []) ∙ omega (arith, length-below n)

-- the row of an entry that stands alone
abbrev pub entry_row : ℕ → List Row
entry_row e = record { offset = 0; entry = e } ∷ []

module _ (t : List ℕ) (fine : IsFine t) where
  named_from : (first n ordinal : ℕ) → NamedIf (find (rows_from t (header_of t) first n) ordinal)
  named_from first zero ordinal = tt
  named_from first (suc n) ordinal = go ((row_at t (header_of t) first).key == ordinal) (named_from (suc first) n ordinal)
    where
      go : (b : Bool) → NamedIf (find (rows_from t (header_of t) (suc first) n) ordinal) → NamedIf (cond b (Some (ty.named (row_at t (header_of t) first).entry)) (find (rows_from t (header_of t) (suc first) n) ordinal))
      go true k = ((row_at t (header_of t) first).entry, refl)
      go false k = k

  -- the members of a table or union
  pub named_rows : (e : ℕ) (u : Term) → e < (header_of t).entries → u ≡ resolve (declarations_of t).terms (ty.named e) → (ordinal : ℕ) → NamedIf (find (rows_of u) ordinal)
  named_rows e u lt is ordinal = let f = fine.each e lt in subst (λ (u : Term). NamedIf (find (rows_of u) ordinal)) (sym (is ∙ term_is t fine e f.0 lt f.1.is)) (go f.0)
    where
      go : (k : EntryKind) → NamedIf (find (rows_of (term_as k t (header_of t) (entry_at t e))) ordinal)
      go Table = named_from (entry_at t e).first (entry_at t e).count ordinal
      go Union = named_from (entry_at t e).first (entry_at t e).count ordinal
      go k = tt

  module _ (m : Message) where
    abbrev ds : Declarations
    ds = declarations_of t

    -- what has a value has an entry
    pub has_entry : (held e place : ℕ) (from to : Position) → ValueAt ds m held (resolve ds.terms (ty.named e)) place from to → e < (header_of t).entries
    has_entry held e place from to x = elim (cases_lt e (header_of t).entries) [
      | inl lt ↦ lt
      | inr le ↦ absurd (no_values ds x.value (subst (λ (u : Term). IsTyped ds u x.value) (no_entry le) x.typed))
    ]
      where
        no_entry : (header_of t).entries ≤ e → resolve ds.terms (ty.named e) ≡ nothing
        no_entry le = get_or-eq_default ds.terms nothing (omega (arith, le, length-map-below (λ i. term_of t (header_of t) (entry_at t i)) (below (header_of t).entries), length-below (header_of t).entries))

    -- one value of an entry stands where the member of an envelope does, with zeros behind it
    abbrev pub Rowed : (held e p : ℕ) (from to : Position) (inline : Bool) → Term → Type 0
    Rowed held e p from to inline v = RowsRise ds (header_of t).entries (suc (figure_of ds.figures (ty.named e)).nest) (wide inline (size_of ds v)) 0 (entry_row e)
        × Members ds m (depth_within inline held) (wide inline (size_of ds v)) (member_at inline p from) 0 (entry_row e) (begun inline p (size_of ds v) from) to

    -- the content of an envelope is a row
    pub content_rows : (within : IsWithin m.bytes m.handles) (held : ℕ) (v : Term) (e : ℕ) → v ≡ ty.named e → (p : ℕ) (from to : Position) (inline : Bool) → nat_le (size_of ds v) 4 ≡ inline → Contained ds m held (Some v) p from to
        → Rowed held e p from to inline v
    content_rows within held v e is p from to inline small x =
        subst (λ (v : Term). Rowed held e p from to inline v) (sym is) (rows (subst (λ (v : Term). Enclosed ds fine.laid_out m within held v p from inline to) is (known_content ds fine.laid_out m within held v p from inline small to x)))
      where
        base : ℕ
        base = member_at inline p from

        rows : Enclosed ds fine.laid_out m within held (ty.named e) p from inline to → Rowed held e p from to inline (ty.named e)
        rows y =
            let size = size_of ds (ty.named e) in
            let lt = has_entry (depth_within inline held) e base (begun inline p size from) to y.item in
            let fits = y.fits in
            let rise : RowsRise ds (header_of t).entries (suc (figure_of ds.figures (ty.named e)).nest) (wide inline size) 0 (entry_row e) = (lt, omega arith, omega arith, omega (arith, fits)) in
            let here : base ≡ base + 0 = omega arith in
            let none_more : size ≡ 0 + size = omega arith in
            let deep = y.item.shallow in
            let end = (members_end ds fine.laid_out m (depth_within inline held) (wide inline size) base (0 + size) to to (omega (arith, deep))).1
            (refl, subst (λ k. Stands m.bytes (base + k) (zeros (wide inline size - k))) none_more y.padding) in (
              rise,
              more_members ds fine.laid_out m (depth_within inline held) (header_of t).entries (suc (figure_of ds.figures (ty.named e)).nest) (wide inline size) base 0 (record { offset = 0; entry = e }) [] (begun inline p size from) to to rise tt
                  (subst (λ q. ValueAt ds m (depth_within inline held) (resolve ds.terms (ty.named e)) q (begun inline p size from) to) here y.item) end,
            )
