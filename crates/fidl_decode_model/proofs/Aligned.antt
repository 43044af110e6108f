-- Alignments are 1, 2, 4 or 8, and sizes are multiples of them.
use Rattle.std.proofs.Common.{◌≡◌, ℕ, zero, suc, ◌+◌, ◌*◌, ◌%◌, ◌≤◌, ◌⊎◌, inl, inr, max, List, [], ◌∷◌, map, get_or, Option, Some, None, refl, sym, ap, subst, ◌∙◌, arith, mul-suc}
use Rattle.std.proofs.lemmas.Bool.{cases_lt}
use Rattle.std.proofs.Math.ListN.{get_or-map}
use Rattle.std.specs.Int.{next_multiple_of, byte_len}
use Rattle.std.specs.Option.{option_map_or}
use Rattle.fidl_wire.specs.Term.{Term, Kind, Fields, no_fields, field, width, nothing, resolve, IsNoName}
use Rattle.fidl_wire.specs.Term as ty
use Rattle.fidl_wire.specs.Figure.{Figure, figure, Declarations, figure_of, end_of, align_of, IsLaidOut}
use Rattle.fidl_table_format.specs.declared.record.Header.{Header}
use Rattle.fidl_table_format.specs.declared.record.Entry.{Entry}
use Rattle.fidl_table_format.specs.declared.kind.EntryKind.{EntryKind}
use Rattle.fidl_table_format.specs.declared.kind.EntryKind.TheVariants as kinds
use Rattle.fidl_table_format.specs.Kind.{kind_of}
use Rattle.fidl_table_format.specs.Section.{header_of, entry_at}
use Rattle.fidl_table_format.specs.Terms.{declarations_of, term_as, term_of, below}
use Rattle.fidl_decode_model.specs.Frontier.{IsEven}

abbrev pub IsAlignment : ℕ → Type 0
IsAlignment a = (a ≡ 1) ⊎ ((a ≡ 2) ⊎ ((a ≡ 4) ⊎ (a ≡ 8)))

-- a law of each of the four alignments
each : (P : ℕ → Type 0) → P 1 → P 2 → P 4 → P 8 → (a : ℕ) → IsAlignment a → P a
each P one two four eight a (inl e) = subst P (sym e) one
each P one two four eight a (inr (inl e)) = subst P (sym e) two
each P one two four eight a (inr (inr (inl e))) = subst P (sym e) four
each P one two four eight a (inr (inr (inr e))) = subst P (sym e) eight

-- a smaller alignment divides a greater one
pub lower : (a b place : ℕ) → IsAlignment a → IsAlignment b → a ≤ b → place % b ≡ 0 → place % a ≡ 0
lower a b place p q = each (λ k. k ≤ b → place % b ≡ 0 → place % k ≡ 0) ones twos fours eights a p
  where
    ones : 1 ≤ b → place % b ≡ 0 → place % 1 ≡ 0
    ones le h = omega arith

    twos : 2 ≤ b → place % b ≡ 0 → place % 2 ≡ 0
    twos = each (λ k. 2 ≤ k → place % k ≡ 0 → place % 2 ≡ 0) (λ le h. absurd (omega (arith, le))) (λ le h. h) (λ le h. omega (arith, h)) (λ le h. omega (arith, h)) b q

    fours : 4 ≤ b → place % b ≡ 0 → place % 4 ≡ 0
    fours = each (λ k. 4 ≤ k → place % k ≡ 0 → place % 4 ≡ 0) (λ le h. absurd (omega (arith, le))) (λ le h. absurd (omega (arith, le))) (λ le h. h) (λ le h. omega (arith, h)) b q

    eights : 8 ≤ b → place % b ≡ 0 → place % 8 ≡ 0
    eights = each (λ k. 8 ≤ k → place % k ≡ 0 → place % 8 ≡ 0) (λ le h. absurd (omega (arith, le))) (λ le h. absurd (omega (arith, le))) (λ le h. absurd (omega (arith, le))) (λ le h. h) b q

greater : (a b : ℕ) → (max a b ≡ a) ⊎ (max a b ≡ b)
greater a b = elim (cases_lt a b) [ inl lt ↦ inr (omega (arith, lt)) | inr ge ↦ inl (omega (arith, ge)) ]

greater_alignment : (a b : ℕ) → IsAlignment a → IsAlignment b → IsAlignment (max a b)
greater_alignment a b p q = elim (greater a b) [ inl e ↦ subst IsAlignment (sym e) p | inr e ↦ subst IsAlignment (sym e) q ]

below_eight : (a : ℕ) → IsAlignment a → a ≤ 8
below_eight a p = each (λ k. k ≤ 8) (omega arith) (omega arith) (omega arith) (omega arith) a p

-- sums of even numbers
pub even_sum : (a place n : ℕ) → IsAlignment a → place % a ≡ 0 → n % a ≡ 0 → (place + n) % a ≡ 0
even_sum a place n p = each (λ k. place % k ≡ 0 → n % k ≡ 0 → (place + n) % k ≡ 0) (λ x y. omega arith) (λ x y. omega (arith, x, y)) (λ x y. omega (arith, x, y)) (λ x y. omega (arith, x, y)) a p

pub even_times : (a size n : ℕ) → IsAlignment a → size % a ≡ 0 → (size * n) % a ≡ 0
even_times a size zero p h = each (λ k. (size * 0) % k ≡ 0) (omega arith) (omega arith) (omega arith) (omega arith) a p
even_times a size (suc n) p h = subst (λ k. k % a ≡ 0) (sym (mul-suc size n)) (even_sum a (size * n) size p (even_times a size n p h) h)

pub even_next : (a from : ℕ) → IsAlignment a → next_multiple_of from a % a ≡ 0
even_next a from p = each (λ k. next_multiple_of from k % k ≡ 0) (omega arith) (omega arith) (omega arith) (omega arith) a p

number_alignment : (kind : Kind) → IsAlignment (byte_len (width kind))
number_alignment ty.int8 = inl refl
number_alignment ty.int16 = inr (inl refl)
number_alignment ty.int32 = inr (inr (inl refl))
number_alignment ty.int64 = inr (inr (inr refl))
number_alignment ty.uint8 = inl refl
number_alignment ty.uint16 = inr (inl refl)
number_alignment ty.uint32 = inr (inr (inl refl))
number_alignment ty.uint64 = inr (inr (inr refl))

itself : (a : ℕ) → IsAlignment a → a % a ≡ 0
itself a p = each (λ k. k % k ≡ 0) refl refl refl refl a p

record Aligned (f : Figure) : Type 0 where
  alignment : IsAlignment f.align
  even : f.size % f.align ≡ 0

module _ (ds : Declarations) (laid : IsLaidOut ds) (named : (i : ℕ) → IsNoName (get_or ds.terms i nothing)) where
  at_name : (i : ℕ) → figure_of ds.figures (ty.named i) ≡ figure_of ds.figures (get_or ds.terms i nothing)
  at_name i = ap (λ hs. get_or hs i (figure 1 1 0)) (sym laid) ∙ get_or-map (figure_of ds.figures) ds.terms i nothing

  number_aligned : (kind : Kind) → Aligned (figure (byte_len (width kind)) (byte_len (width kind)) 0)
  number_aligned kind = record { alignment = number_alignment kind; even = itself (byte_len (width kind)) (number_alignment kind) }

  fields_alignment : (n : ℕ) → ((t : Term) → (figure_of ds.figures t).nest ≤ n → Aligned (figure_of ds.figures t)) → (fs : Fields) → (figure_of ds.figures (ty.struct fs)).nest ≤ suc n → IsAlignment (align_of ds.figures fs)
  fields_alignment n ih no_fields h = inl refl
  fields_alignment n ih (field name t fs) h = greater_alignment _ _ (ih t (omega (arith, h))).alignment (fields_alignment n ih fs (omega (arith, h)))

  leaf : (t : Term) → IsNoName t → (figure_of ds.figures t).nest ≤ 0 → Aligned (figure_of ds.figures t)
  leaf (ty.array t c) k h = absurd (omega (arith, h))
  leaf (ty.struct fs) k h = absurd (omega (arith, h))
  leaf (ty.named i) k h = absurd k
  leaf ty.bool k h = record { alignment = inl refl; even = refl }
  leaf (ty.number kind) k h = number_aligned kind
  leaf (ty.bits kind mask) k h = number_aligned kind
  leaf (ty.enum kind values) k h = number_aligned kind
  leaf (ty.handle optional subtype rights) k h = record { alignment = inr (inr (inl refl)); even = refl }
  leaf _ k h = record { alignment = inr (inr (inr refl)); even = refl }

  step : (n : ℕ) → ((t : Term) → (figure_of ds.figures t).nest ≤ n → Aligned (figure_of ds.figures t)) → (t : Term) → IsNoName t → (figure_of ds.figures t).nest ≤ suc n → Aligned (figure_of ds.figures t)
  step n ih (ty.array t c) k h = let a = ih t (omega (arith, h)) in record { alignment = a.alignment; even = even_times _ _ c a.alignment a.even }
  step n ih (ty.struct fs) k h = let a = fields_alignment n ih fs h in record { alignment = a; even = even_next _ (max (end_of ds.figures 0 fs) 1) a }
  step n ih (ty.named i) k h = absurd k
  step n ih ty.bool k h = leaf ty.bool tt (omega arith)
  step n ih (ty.number kind) k h = number_aligned kind
  step n ih (ty.bits kind mask) k h = number_aligned kind
  step n ih (ty.enum kind values) k h = number_aligned kind
  step n ih (ty.handle optional subtype rights) k h = record { alignment = inr (inr (inl refl)); even = refl }
  step n ih _ k h = record { alignment = inr (inr (inr refl)); even = refl }

  all_of : (n : ℕ) → ((t : Term) → IsNoName t → (figure_of ds.figures t).nest ≤ n → Aligned (figure_of ds.figures t)) → (t : Term) → (figure_of ds.figures t).nest ≤ n → Aligned (figure_of ds.figures t)
  all_of n u (ty.named i) h = subst Aligned (sym (at_name i)) (u (get_or ds.terms i nothing) (named i) (subst (λ e. e.nest ≤ n) (at_name i) h))
  all_of n u ty.bool h = u ty.bool tt h
  all_of n u t h = u t tt h

  unnamed : (n : ℕ) (t : Term) → IsNoName t → (figure_of ds.figures t).nest ≤ n → Aligned (figure_of ds.figures t)
  unnamed zero t k h = leaf t k h
  unnamed (suc n) t k h = step n (all_of n (unnamed n)) t k h

  aligned : (t : Term) → Aligned (figure_of ds.figures t)
  aligned t = all_of (figure_of ds.figures t).nest (unnamed (figure_of ds.figures t).nest) t (omega arith)

  -- the alignment of a term
  pub alignment : (t : Term) → IsAlignment (figure_of ds.figures t).align
  alignment t = (aligned t).alignment

  -- the greatest alignment of members
  pub alignment_of : (fs : Fields) → IsAlignment (align_of ds.figures fs)
  alignment_of no_fields = inl refl
  alignment_of (field name t fs) = greater_alignment _ _ (alignment t) (alignment_of fs)

  pub even_size : (t : Term) → (figure_of ds.figures t).size % (figure_of ds.figures t).align ≡ 0
  even_size t = (aligned t).even

  -- every term can stand at a multiple of 8
  pub even_eights : (t : Term) (place : ℕ) → place % 8 ≡ 0 → IsEven ds t place
  even_eights t place h = lower _ 8 place (alignment t) (inr (inr (inr refl))) (below_eight _ (alignment t)) h

  pub even_fours : (t : Term) (place : ℕ) → (figure_of ds.figures t).align ≤ 4 → place % 4 ≡ 0 → IsEven ds t place
  even_fours t place small h = lower _ 4 place (alignment t) (inr (inr (inl refl))) small h

  -- the members of a struct can stand at a multiple of 8
  pub even_eights_fields : (fs : Fields) (base : ℕ) → base % 8 ≡ 0 → base % align_of ds.figures fs ≡ 0
  even_eights_fields fs base h = lower _ 8 base (alignment_of fs) (inr (inr (inr refl))) (below_eight _ (alignment_of fs)) h

  -- elements behind one another
  pub even_more : (t : Term) (place n : ℕ) → IsEven ds t place → IsEven ds t (place + (figure_of ds.figures t).size * n)
  even_more t place n h = even_sum _ place _ (alignment t) h (even_times _ _ n (alignment t) (even_size t))

  pub even_after : (t : Term) (place : ℕ) → IsEven ds t place → IsEven ds t (place + (figure_of ds.figures t).size)
  even_after t place h = even_sum _ place _ (alignment t) h (even_size t)

  -- the first of a struct's members
  pub even_first : (name : List ℕ) (t : Term) (fs : Fields) (from base : ℕ) → base % align_of ds.figures (field name t fs) ≡ 0 → IsEven ds t (base + next_multiple_of from (figure_of ds.figures t).align)
  even_first name t fs from base h =
      even_sum _ base _ (alignment t) (lower _ _ base (alignment t) (alignment_of (field name t fs)) (omega arith) h) (even_next _ from (alignment t))

  -- the others
  pub even_rest : (name : List ℕ) (t : Term) (fs : Fields) (base : ℕ) → base % align_of ds.figures (field name t fs) ≡ 0 → base % align_of ds.figures fs ≡ 0
  even_rest name t fs base h = lower _ _ base (alignment_of fs) (alignment_of (field name t fs)) (omega arith) h

  -- a term has the alignment of what it names
  pub even_resolve : (t : Term) (place : ℕ) → IsEven ds t place → IsEven ds (resolve ds.terms t) place
  even_resolve (ty.named i) place h = subst (λ e. place % e.align ≡ 0) (at_name i) h
  even_resolve ty.bool place h = h
  even_resolve _ place h = h

term_no_name : (k : EntryKind) (t : List ℕ) (h : Header) (e : Entry) → IsNoName (term_as k t h e)
term_no_name kinds.Bool t h e = tt
term_no_name kinds.Int8 t h e = tt
term_no_name kinds.Int16 t h e = tt
term_no_name kinds.Int32 t h e = tt
term_no_name kinds.Int64 t h e = tt
term_no_name kinds.Uint8 t h e = tt
term_no_name kinds.Uint16 t h e = tt
term_no_name kinds.Uint32 t h e = tt
term_no_name kinds.Uint64 t h e = tt
term_no_name kinds.Bits t h e = tt
term_no_name kinds.Enum t h e = tt
term_no_name kinds.String t h e = tt
term_no_name kinds.Vector t h e = tt
term_no_name kinds.Array t h e = tt
term_no_name kinds.Box t h e = tt
term_no_name kinds.Struct t h e = tt
term_no_name kinds.Table t h e = tt
term_no_name kinds.Union t h e = tt
term_no_name kinds.Handle t h e = tt

of_kind_no_name : (o : Option EntryKind) (t : List ℕ) (h : Header) (e : Entry) → IsNoName (option_map_or (λ k. term_as k t h e) o nothing)
of_kind_no_name None t h e = tt
of_kind_no_name (Some k) t h e = term_no_name k t h e

-- the terms of a table's declarations are no names
pub no_names : (t : List ℕ) (i : ℕ) → IsNoName (get_or (declarations_of t).terms i nothing)
no_names t i = go (below (header_of t).entries) i
  where
    go : (ks : List ℕ) (i : ℕ) → IsNoName (get_or (map (λ k. term_of t (header_of t) (entry_at t k)) ks) i nothing)
    go [] i = tt
    go (k ∷ ks) zero = let e = entry_at t k in of_kind_no_name (kind_of e.kind) t (header_of t) e
    go (k ∷ ks) (suc i) = go ks i
