-- Sets of aliases, by pairs of numbers.
use Rattle.std.proofs.Common.{◌≡◌, ◌∙◌, ◌⊎◌, ◌&&◌, ℕ, Bool, true, false, List, [], ◌∷◌, ◌++◌, nat_eq, inl, inr, ap, refl, sym, subst, true≢false}
use Rattle.std.specs.List.{Contains, list_any}
use Rattle.std.specs.Bool.{if◌then◌else◌}
use Rattle.std.proofs.lemmas.Bool.{cases_Bool}
use Rattle.std.proofs.lemmas.Bool.Decides.{Decides-eqb}
use Rattle.std.proofs.lemmas.List.Elements.{Contains-push_cases}
use Rattle.indexmap.specs.IndexSet.{insert_key}
use Rattle.indexmap.proofs.CallerLemmas.{Contains-list_any}
use Rattle.fidl_tree.specs.declared.file.File.{File}
use Rattle.fidl_named.specs.declared.place.DeclarationId.{DeclarationId}
use Rattle.fidl_type_rules.specs.Known.{IsKnownAlias, AreKnownAliases}

-- two pairs are the same, by the test of a set
abbrev pub same_key : (ℕ × ℕ) → (ℕ × ℕ) → Bool
same_key x y = nat_eq x.0 y.0 && nat_eq x.1 y.1

both : (a b : Bool) → (a && b) ≡ true → (a ≡ true) × (b ≡ true)
both true b h = (refl, h)
both false b h = absurd (true≢false (sym h))

same_pair : (x y : ℕ × ℕ) → same_key x y ≡ true → x ≡ y
same_pair (a, b) (c, d) h =
    let its = both (nat_eq a c) (nat_eq b d) h in
    let first : a ≡ c = (Decides-eqb a c).0 its.0 in
    let second : b ≡ d = (Decides-eqb b d).0 its.1 in
    ap (λ n. (n, b)) first ∙ ap (λ n. (c, n)) second

pub key_there : (ks : List (ℕ × ℕ)) (k : ℕ × ℕ) → list_any (same_key k) ks ≡ true → Contains ks k
key_there ks k h = Contains-list_any same_key same_pair ks k h

-- a key that is there after one was added is that or was there
inserted : (ks : List (ℕ × ℕ)) (k m : ℕ × ℕ) → Contains (insert_key same_key ks k) m → Contains ks m ⊎ (k ≡ m)
inserted ks k m h = elim (cases_Bool (list_any (same_key k) ks)) [
  | inl e ↦ inl (subst (λ l. Contains l m) (ap (λ b. if b then ks else (ks ++ k ∷ [])) e) h)
  | inr e ↦ Contains-push_cases ks k m (subst (λ l. Contains l m) (ap (λ b. if b then ks else (ks ++ k ∷ [])) e) h)
]

-- one alias more
pub one_more : (files : List File) (ks : List (ℕ × ℕ)) (p : DeclarationId) → AreKnownAliases files ks → IsKnownAlias files p → AreKnownAliases files (insert_key same_key ks (p.file, p.index))
one_more files ks p old new q h = elim (inserted ks (p.file, p.index) (q.file, q.index) h) [
  | inl before ↦ old q before
  | inr is ↦
      let file : p.file ≡ q.file = ap (λ (k : ℕ × ℕ). k.0) is in
      let index : p.index ≡ q.index = ap (λ (k : ℕ × ℕ). k.1) is in
      let same : p ≡ q = ap (λ n. record { file = n; index = p.index }) file ∙ ap (λ n. record { file = q.file; index = n }) index in
      subst (IsKnownAlias files) same new
]
