use Rattle.std.proofs.Common.{◌≡◌, ℕ, List, [], ◌∷◌, inl, inr, refl, ap, arith}
use Rattle.std.specs.Prelude.{codes, slice_index}
use Rattle.fidl_script.specs.Lines.{Line}
use Rattle.fidl_script.proofs.worked.texts_that_begin_badly.Goals as goal

pub returns-clause-nothing : goal.returns-clause-nothing
returns-clause-nothing c = inr (inl (refl, refl))

pub returns-clause-reply_first : goal.returns-clause-reply_first
returns-clause-reply_first c = inr (inr (record {
  first = record { number = 2; bytes = codes "reply A" };
  rest = [];
  lines = refl;
  number_is = refl;
  none = λ name h. (let e : 114 ≡ 112 = ap (λ (l : List ℕ). slice_index l 0) h.is in omega (arith, e));
}))

pub returns-clause-later : goal.returns-clause-later
returns-clause-later c = λ h. elim h [
  | inl x ↦ let e = x.0 in omega (arith, e)
  | inr (inl x) ↦ let e = x.0 in omega (arith, e)
  | inr (inr x) ↦
      let line : Line = record { number = 2; bytes = codes "reply A" } in
      let both : line ∷ [] ≡ x.first ∷ x.rest = x.lines in
      let first : line ≡ x.first = (cc both) in
      let two : 2 ≡ x.first.number = ap (λ (l : Line). l.number) first in
      let three = x.number_is in
      omega (arith, two, three)
]
