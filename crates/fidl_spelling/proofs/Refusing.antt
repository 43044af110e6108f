-- Words that are refused.
use Rattle.std.proofs.Common.{rules, ◌≡◌, [], ◌∷◌, arith, sym, ap, subst, ◌∙◌, pos, get_or, drop, true, false}
use Rattle.std.specs.Prelude.{codes}
use Rattle.fidl_wire.specs.Figure.{no_declarations}
use Rattle.fidl_wire.specs.Term.{Term, no_fields, field, uint8}
use Rattle.fidl_wire.specs.Term as ty
use Rattle.fidl_wire.specs.Value.{Value, absent, bool, number, list, fields, none, value}
use Rattle.fidl_wire.specs.Typed.{InRange}
use Rattle.fidl_spelling.specs.Spells.{Spelled, IsNumber}
use Rattle.fidl_spelling.proofs.Det.{word_head, number_one}

pub no_bool : (v : Value) → Spelled no_declarations ty.bool v (codes "True" ∷ []) [] → ⊥
no_bool (bool true) p = let e = ap (λ l. get_or l 0 0) (word_head _ _ _ _ p) in absurd (omega (arith, e))
no_bool (bool false) p = let e = ap (λ l. get_or l 0 0) (word_head _ _ _ _ p) in absurd (omega (arith, e))
no_bool _ p = absurd p

pub no_plus : (v : Value) → Spelled no_declarations (ty.number uint8) v (codes "+" ∷ codes "5" ∷ []) [] → ⊥
no_plus (number z) p = let e = ap (λ l. drop 1 l) p.2 in absurd (cc e)
no_plus _ p = absurd p

-- the number of the word is 256, which is out of range
pub no_256 : (v : Value) → Spelled no_declarations (ty.number uint8) v (codes "256" ∷ []) [] → ⊥
no_256 (number z) p =
    let w : codes "256" ≡ p.0 = word_head _ _ _ _ p.2 in
    let n : IsNumber z (codes "256") = subst (λ l. IsNumber z l) (sym w) p.1.1 in
    let m : IsNumber (pos 256) (codes "256") = search rules in
    let big : InRange uint8 (pos 256) = subst (λ y. InRange uint8 y) (number_one z (pos 256) (codes "256") n m) p.1.0 in
    absurd (omega (arith, big))
no_256 _ p = absurd p

pub no_more : (v : Value) → Spelled no_declarations ty.bool v (codes "true" ∷ codes "true" ∷ []) [] → ⊥
no_more (bool true) p = let e = ap (λ l. drop 1 l) p in absurd (cc e)
no_more (bool false) p = let e = ap (λ l. drop 1 l) p in absurd (cc e)
no_more _ p = absurd p

pub no_member : (v : Value) → Spelled no_declarations (ty.struct no_fields) v (codes "{" ∷ codes "a" ∷ codes "}" ∷ []) [] → ⊥
no_member (fields none) p =
    let behind = ap (λ l. drop 2 l) (p.1 ∙ ap (λ l. codes "{" ∷ l) (p.2.1 ∙ p.2.2)) in absurd (cc behind)
no_member (fields (value v vs)) p = absurd p.2.1
no_member _ p = absurd p

pub no_braces : (v : Value) → Spelled no_declarations (ty.vector false 9 ty.bool) v (codes "{" ∷ codes "}" ∷ []) [] → ⊥
no_braces (list vs) p = let e = ap (λ l. get_or (get_or l 0 []) 0 0) p.1 in absurd (omega (arith, e))
no_braces absent p = let e = ap (λ l. get_or (get_or l 0 []) 0 0) p in absurd (omega (arith, e))
no_braces _ p = absurd p
