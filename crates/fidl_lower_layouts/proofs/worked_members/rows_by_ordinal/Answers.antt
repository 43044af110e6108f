use Rattle.std.proofs.Common.{◌∙◌, ◌<◌, ℕ, [], ◌∷◌, map, refl, sym, subst, arith}
use Rattle.std.specs.Prelude.{◌==◌, ◌≢◌}
use Rattle.std.specs.List.Sorted.{IsPermutation}
use Rattle.std.proofs.lemmas.Bool.Decides.{Decides-eqb}
use Rattle.std.proofs.lemmas.List.Sorted.{IsPermutation-map, IsPermutation-middle, IsPermutation-sym}
use Rattle.fidl_tree.specs.Leaf.{text_at}
use Rattle.fidl_tree.specs.Syntax.{Member, ordinal_member}
use Rattle.fidl_lower_layouts.specs.Members.{row_ordinals}
use Rattle.fidl_lower_layouts.proofs.Numbered.{row_is}
use Rattle.fidl_lower_layouts.proofs.Rising.{pairs_weaker, two_pairs}
use Rattle.fidl_lower_layouts.proofs.Sorting.{differ_moved}
use Rattle.fidl_lower_layouts.proofs.Ordered.{ordinal_of, ordinals_of}
use Rattle.fidl_lower_layouts.proofs.worked_members.rows_by_ordinal.Goals as goal

pub returns-clause-turned : goal.returns-clause-turned
returns-clause-turned c = λ files n f attributes third name first other t u e d is also h k.
    let m = ordinal_member attributes third name t in
    let w = ordinal_member attributes first other u in
    record {
      members = w ∷ m ∷ [];
      same = IsPermutation-sym (w ∷ m ∷ []) (m ∷ w ∷ []) (IsPermutation-middle (w ∷ []) m []);
      each = (row_is files n f attributes first other u 1 (text_at f.src.now other) d (sym also) (omega arith) refl k, (row_is files n f attributes third name t 3 (text_at f.src.now name) e (sym is) (omega arith) refl h, tt));
      rise = two_pairs (λ m n. m < n) 1 3 (omega arith);
    }

pub returns-clause-as_written : goal.returns-clause-as_written
returns-clause-as_written c = λ files n f ms one other e d h. let less : 3 < 1 = h.rise 0 1 0 (omega arith) (omega arith) in omega (arith, less)

pub returns-clause-twice : goal.returns-clause-twice
returns-clause-twice c = λ files n f attributes one name two other t u rows is also h.
    let m = ordinal_member attributes one name t in
    let w = ordinal_member attributes two other u in
    let of : Member → ℕ = ordinal_of files n f in
    let moved : IsPermutation (map of (m ∷ w ∷ [])) (row_ordinals rows) = subst (IsPermutation (map of (m ∷ w ∷ []))) (sym (ordinals_of files n f h.members rows h.each)) (IsPermutation-map of (m ∷ w ∷ []) h.members h.same) in
    let differ = differ_moved (λ m n. m == n) Decides-eqb (map of (m ∷ w ∷ [])) (row_ordinals rows) moved (pairs_weaker (λ m n. m < n) (λ m n. m ≢ n) (λ m n lt e. omega (arith, lt, e)) (row_ordinals rows) h.rise) in
    differ 0 1 0 (omega arith) (omega arith) (is ∙ sym also)
