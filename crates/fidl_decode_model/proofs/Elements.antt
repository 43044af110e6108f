-- An array's elements, read as rows.
use Rattle.std.proofs.Common.{◌≡◌, ℕ, zero, suc, ◌+◌, ◌-◌, ◌*◌, ◌<◌, ◌≤◌, max, List, [], ◌∷◌, refl, sym, ap, subst, ◌∙◌, arith, mul-suc}
use Rattle.fidl_limits.specs.declared.limits.TheConstants.{MAX_DEPTH}
use Rattle.fidl_wire.specs.Value.{Value, Values, none, value, list, count}
use Rattle.fidl_wire.specs.Term.{Term, resolve}
use Rattle.fidl_wire.specs.Term as ty
use Rattle.fidl_wire.specs.Figure.{Declarations, figure_of, size_of}
use Rattle.fidl_wire.specs.Typed.{IsTyped, AllTyped}
use Rattle.fidl_wire.specs.Encoding.{Encoding, zeros, inline_only, joined, encoding_of, elements}
use Rattle.fidl_wire.specs.Depth.{depth_of, elements_depth}
use Rattle.fidl_decode_model.specs.Rows.{element_rows, TypedRows, enc_rows, depth_rows, RowsRise}
use Rattle.fidl_decode_model.specs.State.{Message, Position, after, after_elements, after_rows, StandsAt, ValueAt, Members}
use Rattle.fidl_decode_model.specs.Breaks.{Part, element_parts}
use Rattle.fidl_decode_model.specs.Work.{values_work}
use Rattle.fidl_decode_model.specs.Machine.{row_parts}
use Rattle.fidl_decode_model.specs.Worth.{ValueWorth, MembersWorth}

module _ (ds : Declarations) (e : ℕ) where
  abbrev term : Term
  term = resolve ds.terms (ty.named e)

  abbrev size : ℕ
  size = size_of ds (ty.named e)

  pub elements_rise : (entries nest n at : ℕ) → e < entries → (figure_of ds.figures (ty.named e)).nest < nest → RowsRise ds entries nest (at + size * n) at (element_rows e size n at)
  elements_rise entries nest zero at lt deep = omega arith
  elements_rise entries nest (suc n) at lt deep =
      let more : size * suc n ≡ size * n + size = mul-suc size n in
      let same : at + size + size * n ≡ at + size * suc n = omega arith in
      (lt, omega arith, deep, subst (λ k. RowsRise ds entries nest k (at + size) (element_rows e size n (at + size))) same (elements_rise entries nest n (at + size) lt deep))

  pub typed_elements : (n at : ℕ) (vs : Values) → count vs ≡ n → AllTyped ds term vs → TypedRows ds (element_rows e size n at) vs
  typed_elements zero at none c h = tt
  typed_elements (suc n) at (value v vs) c h = (h.0, typed_elements n (at + size) vs (omega (arith, c)) h.1)
  typed_elements zero at (value v vs) c h = absurd (omega (arith, c))
  typed_elements (suc n) at none c h = absurd (omega (arith, c))

  pub elements_typed : (n at : ℕ) (vs : Values) → TypedRows ds (element_rows e size n at) vs → (count vs ≡ n) × AllTyped ds term vs
  elements_typed zero at none h = (refl, tt)
  elements_typed (suc n) at (value v vs) h = let r = elements_typed n (at + size) vs h.1 in (ap suc r.0, (h.0, r.1))
  elements_typed zero at (value v vs) h = absurd h
  elements_typed (suc n) at none h = absurd h

  none_between : (n : ℕ) → zeros (n - n) ≡ []
  none_between n = let h : n - n ≡ 0 = omega arith in ap (λ k. zeros k) h

  pub enc_rows-elements : (n at : ℕ) (vs : Values) → count vs ≡ n → elements ds term vs ≡ enc_rows ds (at + size * n) at (element_rows e size n at) vs
  enc_rows-elements n at none c =
      let over : at + size * n - at ≡ 0 = (let z : size * n ≡ size * 0 = ap (λ k. size * k) (sym c) in omega (arith, z)) in
      ap (λ k. inline_only (zeros k)) (sym over)
  enc_rows-elements zero at (value v vs) c = absurd (omega (arith, c))
  enc_rows-elements (suc n) at (value v vs) c =
      let more : size * suc n ≡ size * n + size = mul-suc size n in
      let same : at + size + size * n ≡ at + size * suc n = omega arith in
      ap (λ (x : Encoding). joined (encoding_of ds term v) x) (enc_rows-elements n (at + size) vs (omega (arith, c)))
      ∙ ap (λ k. joined (encoding_of ds term v) (enc_rows ds k (at + size) (element_rows e size n (at + size)) vs)) same
      ∙ ap (λ (g : List ℕ). joined (inline_only g) (joined (encoding_of ds term v) (enc_rows ds (at + size * suc n) (at + size) (element_rows e size n (at + size)) vs))) (sym (none_between at))

  pub depth_rows-elements : (n at : ℕ) (vs : Values) → count vs ≡ n → elements_depth ds term vs ≡ depth_rows ds (element_rows e size n at) vs
  depth_rows-elements n at none c = refl
  depth_rows-elements zero at (value v vs) c = absurd (omega (arith, c))
  depth_rows-elements (suc n) at (value v vs) c = ap (λ d. max (depth_of ds term v) d) (depth_rows-elements n (at + size) vs (omega (arith, c)))

  pub after_rows-elements : (n at base : ℕ) (vs : Values) (s : Position) → count vs ≡ n → after_elements ds term size vs (base + at) s ≡ after_rows ds (element_rows e size n at) vs base s
  after_rows-elements n at base none s c = refl
  after_rows-elements zero at base (value v vs) s c = absurd (omega (arith, c))
  after_rows-elements (suc n) at base (value v vs) s c =
      let next : base + at + size ≡ base + (at + size) = omega arith in
      ap (λ p. after_elements ds term size vs p (after ds term v (base + at) s)) next ∙ after_rows-elements n (at + size) base vs (after ds term v (base + at) s) (omega (arith, c))

  -- the elements are the array's parts
  pub row_parts-elements : (n at : ℕ) → row_parts (element_rows e size n at) ≡ element_parts ds (ty.named e) n at
  row_parts-elements zero at = refl
  row_parts-elements (suc n) at = ap (λ (ps : List Part). (let p : Part = record { offset = at; term = ty.named e } in p) ∷ ps) (row_parts-elements n (at + size))

  module _ (m : Message) (held place n : ℕ) (from to : Position) where
    pub array_item : ValueAt ds m held (ty.array (ty.named e) n) place from to → Members ds m held (size * n) place 0 (element_rows e size n 0) from to
    array_item x = only x.value x.typed x.shallow x.stands x.end
      where
        only : (v : Value) → IsTyped ds (ty.array (ty.named e) n) v → depth_of ds (ty.array (ty.named e) n) v + held ≤ MAX_DEPTH → StandsAt m (encoding_of ds (ty.array (ty.named e) n) v) place from → to ≡ after ds (ty.array (ty.named e) n) v place from
            → Members ds m held (size * n) place 0 (element_rows e size n 0) from to
        only (list vs) h d s end =
            let flat : 0 + size * n ≡ size * n = omega arith in
            let same = enc_rows-elements n 0 vs h.0 ∙ ap (λ k. enc_rows ds k 0 (element_rows e size n 0) vs) flat in
            let deep = depth_rows-elements n 0 vs h.0 in
            let none_more : place ≡ place + 0 = omega arith in
            record {
              values = vs;
              typed = typed_elements n 0 vs h.0 h.1;
              shallow = omega (arith, d, deep);
              stands = subst (λ (p : ℕ). StandsAt m (enc_rows ds (size * n) 0 (element_rows e size n 0) vs) p from) none_more (subst (λ (x : Encoding). StandsAt m x place from) same s);
              end = end ∙ ap (λ p. after_elements ds term size vs p from) none_more ∙ after_rows-elements n 0 place vs from h.0;
            }
        only _ h d s end = absurd h

    -- an array is worth one more than its elements
    pub worth_array : (w : ℕ) → MembersWorth ds m held (size * n) place 0 (element_rows e size n 0) from to w → ValueWorth ds m held (ty.array (ty.named e) n) place from to (w + 1)
    worth_array w (y, le) =
        let t = elements_typed n 0 y.values y.typed in
        let flat : 0 + size * n ≡ size * n = omega arith in
        let same = sym (enc_rows-elements n 0 y.values t.0 ∙ ap (λ k. enc_rows ds k 0 (element_rows e size n 0) y.values) flat) in
        let deep = depth_rows-elements n 0 y.values t.0 in
        let none_more : place + 0 ≡ place = omega arith in (
          record {
            value = list y.values;
            typed = t;
            shallow = omega (arith, y.shallow, deep);
            stands = subst (λ (x : Encoding). StandsAt m x place from) same (subst (λ (p : ℕ). StandsAt m (enc_rows ds (size * n) 0 (element_rows e size n 0) y.values) p from) none_more y.stands);
            end = y.end ∙ sym (after_rows-elements n 0 place y.values from t.0) ∙ ap (λ p. after_elements ds term size y.values p from) none_more;
          },
          omega (arith, le),
        )

    pub item_array : Members ds m held (size * n) place 0 (element_rows e size n 0) from to → ValueAt ds m held (ty.array (ty.named e) n) place from to
    item_array y = (worth_array (values_work y.values) (y, omega arith)).0
