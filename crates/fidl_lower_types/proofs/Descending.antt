-- From a vector or an array to its elements.
use Rattle.std.proofs.Common.{◌≡◌, ◌<◌, ◌≤◌, ◌++◌, ℕ, suc, List, [], ◌∷◌, length, drop, get_or, ap, refl, sym, subst, ◌∙◌, length-drop, arith}
use Rattle.std.proofs.Math.Seq.{drop-cons}
use Rattle.fidl_tree.specs.Syntax.{TypeUse}
use Rattle.fidl_tree.specs.declared.file.File.{File}
use Rattle.fidl_constraints.specs.Behind.{Head}
use Rattle.fidl_constraints.specs.declared.parts.Part.{Part}
use Rattle.fidl_constraints.proofs.InSet.{head_within}
use Rattle.fidl_wire.specs.Term.{Term}
use Rattle.fidl_lower_types.specs.declared.node.Shape.{Shape}
use Rattle.fidl_lower_types.specs.Terms.{Node, leaf, holds, made_of, HeadIs, NodeIs, TermIs}
use Rattle.fidl_lower_types.specs.TermViews.{made_of_all}
use Rattle.fidl_lower_types.proofs.OneTerm.{one_node}

-- Shapes.

all_push : (ss : List Shape) (s : Shape) (e : Term) → made_of_all (ss ++ s ∷ []) e ≡ made_of_all ss (made_of s e)
all_push [] s e = refl
all_push (r ∷ rs) s e = ap (made_of r) (all_push rs s e)

nothing_left : (ss : List Shape) (e : Term) → length ss ≡ 0 → made_of_all ss e ≡ e
nothing_left [] e h = refl
nothing_left (s ∷ ss) e h = absurd (omega (arith, h))

pub all_start : (ss : List Shape) (n : ℕ) (e : Term) → length ss ≤ n → made_of_all (drop n ss) e ≡ e
all_start ss n e le = nothing_left (drop n ss) e (omega (arith, le, length-drop n ss))

pub all_step : (ss : List Shape) (j k : ℕ) (s : Shape) (e made : Term) → j < length ss → k ≡ suc j → s ≡ get_or ss j s → made ≡ made_of_all (drop k ss) e → made_of s made ≡ made_of_all (drop j ss) e
all_step ss j k s e made lt next is h =
    ap (made_of s) (h ∙ ap (λ n. made_of_all (drop n ss) e) next) ∙ (ap (λ x. made_of x (made_of_all (drop (suc j) ss) e)) is ∙ sym (ap (λ l. made_of_all l e) (drop-cons ss j s lt)))

-- Types.

-- a type that was reached from the first, with the shapes on the way
pub record IsReached (files : List File) (start : ℕ) (first : TypeUse) (ss : List Shape) (at : ℕ) (t : TypeUse) : Type 0 where
  pub within : at < length files
  pub from : (e : Term) → TermIs files at t e → TermIs files start first (made_of_all ss e)
  pub back : (e : Term) → TermIs files start first e → (d : Term) × TermIs files at t d

pub reached_first : (files : List File) (start : ℕ) (first : TypeUse) → start < length files → IsReached files start first [] start first
reached_first files start first lt = record { within = lt; from = λ e h. h; back = λ e h. (e, h) }

-- the file of what a vector or an array is of
abbrev node_file : Node → ℕ → ℕ
node_file (leaf e) otherwise = otherwise
node_file (holds of u s) otherwise = of

head_file : (files : List File) (number : ℕ) (parts : List Part) (head : Head) (n : Node) → HeadIs files number parts head n → node_file n number ≡ number
head_file files number parts _ _ (HeadIs.word w e is) = refl
head_file files number parts _ _ (HeadIs.handle p) = refl
head_file files number parts _ _ (HeadIs.layout l i h) = refl
head_file files number parts _ _ (HeadIs.box t i h) = refl
head_file files number parts _ _ (HeadIs.vector t) = refl
head_file files number parts _ _ (HeadIs.array t a n h) = refl

module _ (files : List File) (start : ℕ) (first : TypeUse) (ss : List Shape) (at : ℕ) (t : TypeUse) (h : IsReached files start first ss at t) where
  pub reached_leaf : (e : Term) → NodeIs files at t (leaf e) → TermIs files start first (made_of_all ss e)
  reached_leaf e k = h.from e (TermIs.alone at t e k)

  its_node : (e : Term) → TermIs files at t e → (n : Node) × NodeIs files at t n
  its_node _ (TermIs.alone _ _ e k) = (leaf e, k)
  its_node _ (TermIs.of_elements _ _ of u s e k rest) = (holds of u s, k)

  pub reached_nothing : ((n : Node) → NodeIs files at t n → ⊥) → (e : Term) → TermIs files start first e → ⊥
  reached_nothing none e k = let d = h.back e k in let n = its_node d.0 d.1 in none n.0 n.1

  module _ (of : ℕ) (u : TypeUse) (s : Shape) (k : NodeIs files at t (holds of u s)) where
    after : (d : Term) → TermIs files at t d → (e : Term) × TermIs files of u e
    after _ (TermIs.alone _ _ e also) = let is : leaf e ≡ holds of u s = one_node files at t (leaf e) (holds of u s) also k in absurd (cc)
    after _ (TermIs.of_elements _ _ other v r e also rest) =
        let is : holds other v r ≡ holds of u s = one_node files at t (holds other v r) (holds of u s) also k in
        let file : other ≡ of = cc in
        let use_is : v ≡ u = cc in
        (e, subst (λ (x : TypeUse). TermIs files of x e) use_is (subst (λ (n : ℕ). TermIs files n v e) file rest))

    pub reached_next : IsReached files start first (ss ++ s ∷ []) of u
    reached_next =
        let file : of ≡ k.core.file = head_file files k.core.file k.parts k.core.head (holds of u s) k.is in
        record {
          within = subst (λ n. n < length files) (sym file) (head_within files at t k.core h.within k.gathered.behind);
          from = λ e rest. subst (TermIs files start first) (sym (all_push ss s e)) (h.from (made_of s e) (TermIs.of_elements at t of u s e k rest));
          back = λ e rest. let d = h.back e rest in after d.0 d.1;
        }
