-- The methods of a protocol in the order of their ordinals.
use Rattle.std.proofs.Common.{◌≡◌, ◌∙◌, ◌+◌, ◌<◌, ◌≤◌, ◌-◌, ℕ, List, length, get_or, refl, sym, subst, inl, inr, arith}
use Rattle.std.specs.List.{AllPairs, AllAdjacentBelow}
use Rattle.std.specs.List.Sorted.{IsPermutation, IsNonDecreasingBy}
use Rattle.std.proofs.lemmas.List.{get_or_default}
use Rattle.std.proofs.lemmas.List.Elements.{Contains-get_or}
use Rattle.std.proofs.lemmas.List.Sorted.{Contains-permutation, IsPermutation-sym, all_adjacent_more}
use Rattle.fidl_tree.specs.declared.file.File.{File}
use Rattle.fidl_named.specs.declared.place.DeclarationId.{DeclarationId}
use Rattle.fidl_protocol.specs.declared.method.Method.{Method}
use Rattle.fidl_protocol.specs.Methods.{MethodsDiffer}
use Rattle.fidl_protocol.specs.Checked.{AreMethodsOf}
use Rattle.fidl_protocol.specs.Gathered.{AreGathered, ArePair, name_text, NamesDiffer}
use Rattle.fidl_protocol.proofs.Lists.{distinct_permutation, pair_cases}
use Rattle.fidl_protocol.proofs.Naming.{its_name}

abbrev pub IsBelow : Method → Method → Type 0
IsBelow one other = one.own.ordinal < other.own.ordinal

module _ (files : List File) (p : DeclarationId) where
  pub gathered_permuted : (ms ns : List Method) → IsPermutation ms ns → AreGathered files p ms → AreGathered files p ns
  gathered_permuted ms ns moved g = record {
    sound = λ m c. g.sound m (Contains-permutation ns ms m (IsPermutation-sym ms ns moved) c);
    complete = λ m h. Contains-permutation ms ns m moved (g.complete m h);
    once = distinct_permutation ms ns moved g.once;
  }

  pub in_order_are : (ms : List Method) → AreGathered files p ms → AllPairs IsBelow ms → AreMethodsOf files p ms
  in_order_are ms g rise = record { sound = g.sound; complete = g.complete; rise = rise }

  -- methods that stand beside each other are a pair
  pub pair_beside : (ms : List Method) (i : ℕ) (d : Method) → 1 ≤ i → i < length ms → AreGathered files p ms → ArePair files p (record { one = get_or ms (i - 1) d; other = get_or ms i d })
  pair_beside ms i d some lt g =
      let before : i - 1 < length ms = omega (arith, some, lt) in
      let less : i - 1 < i = omega (arith, some) in
      record {
        has_one = g.sound (get_or ms (i - 1) d) (Contains-get_or ms (i - 1) d before);
        has_other = g.sound (get_or ms i d) (Contains-get_or ms i d lt);
        differ = g.once (i - 1) i d less lt;
      }

  -- methods whose names and ordinals differ
  pub methods_differ : (ms ns : List Method) → AreGathered files p ms → NamesDiffer files ms → AreMethodsOf files p ns → MethodsDiffer files p
  methods_differ ms ns g names are = record {
    names = λ one other h k same.
        let both : name_text files one ≡ name_text files other = its_name files one same.name same.one_is ∙ sym (its_name files other same.name same.other_is) in
        elim (pair_cases (λ x y. name_text files x ≡ name_text files y → ⊥) ms names one other (g.complete one h) (g.complete other k)) [
          | inl e ↦ e
          | inr apart ↦ elim apart [ inl n ↦ absurd (n both) | inr n ↦ absurd (n (sym both)) ]
        ];
    ordinals = λ one other h k same.
        elim (pair_cases IsBelow ns are.rise one other (are.complete one h) (are.complete other k)) [
          | inl e ↦ e
          | inr apart ↦ elim apart [ inl lt ↦ absurd (omega (arith, lt, same)) | inr lt ↦ absurd (omega (arith, lt, same)) ]
        ];
  }

-- methods that rise at each step rise
pub rise_all : (ms : List Method) (high : ℕ) → length ms ≤ high → IsNonDecreasingBy (λ (x : Method). x.own.ordinal) ms → AllAdjacentBelow IsBelow ms high → AllPairs IsBelow ms
rise_all ms high past up steps i j d lt within =
    let before : i ≤ j - 1 = omega (arith, lt) in
    let there : j - 1 < length ms = omega (arith, within) in
    let next : j - 1 + 1 ≡ j = omega (arith, lt) in
    let less = steps (j - 1) d (omega (arith, within, past, next)) in
    let last : (get_or ms (j - 1) d).own.ordinal < (get_or ms j d).own.ordinal = subst (λ n. (get_or ms (j - 1) d).own.ordinal < (get_or ms n d).own.ordinal) next less in
    let so_far = up i (j - 1) d before there in
    omega (arith, so_far, last)

pub rise_more : (ms : List Method) (i : ℕ) (d : Method) → 1 ≤ i → i < length ms → IsBelow (get_or ms (i - 1) d) (get_or ms i d) → AllAdjacentBelow IsBelow ms i → AllAdjacentBelow IsBelow ms (i + 1)
rise_more ms i d some lt less steps =
    all_adjacent_more ms IsBelow i some steps (λ e. subst (λ x. IsBelow x (get_or ms i e)) (get_or_default ms (i - 1) d e (omega (arith, some, lt))) (subst (IsBelow (get_or ms (i - 1) d)) (get_or_default ms i d e lt) less))
