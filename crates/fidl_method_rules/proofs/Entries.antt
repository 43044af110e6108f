-- The entries of a protocol's members, one member further.
use Rattle.std.proofs.Common.{◌≡◌, ◌⊎◌, ℕ, zero, suc, ◌+◌, ◌<◌, List, [], ◌∷◌, ◌++◌, Option, None, Some, length, get_or, take, map, inl, inr, refl, sym, ap, subst, ◌∙◌, arith}
use Rattle.std.specs.Prelude.{slice_get, option_to_list, IfSome, IsNone}
use Rattle.std.specs.List.{Contains, AllByRecursion, AllPairs}
use Rattle.std.proofs.lemmas.List.{map_push, length-take-le, length-map, get_or-map, append-nil}
use Rattle.std.proofs.lemmas.List.Elements.{Contains-append_left, Contains-push}
use Rattle.std.proofs.lemmas.List.Quantifiers.{all_pairs_push}
use Rattle.std.proofs.lemmas.Option.{same_Some, none-some, slice_get_within}
use Rattle.fidl_span.specs.declared.words.Span.{Span}
use Rattle.fidl_tree.specs.Syntax.{File, ProtocolMember}
use Rattle.fidl_tree.specs.Views.{protocol_member_view}
use Rattle.fidl_tree.specs.declared.protocol.ProtocolMember.{ProtocolMember as Tree}
use Rattle.fidl_cycles.proofs.Lists.{take_item}
use Rattle.fidl_method_rules.specs.declared.methods.OwnMethod.{OwnMethod}
use Rattle.fidl_method_rules.specs.Methods.{method_of}
use Rattle.fidl_method_rules.specs.MethodViews.{IsEntryOf, IsEntry, member_numbers, AreMethods}

module _ {X : Type 0} (y : X) where
  get_more : (xs : List X) (n : ℕ) (x : X) → slice_get xs n ≡ Some x → slice_get (xs ++ y ∷ []) n ≡ Some x
  get_more [] n x is = absurd (none-some x is)
  get_more (z ∷ xs) zero x is = is
  get_more (z ∷ xs) (suc n) x is = get_more xs n x is

  get_last : (xs : List X) → slice_get (xs ++ y ∷ []) (length xs) ≡ Some y
  get_last [] = refl
  get_last (z ∷ xs) = get_last xs

  get_cases : (xs : List X) (n : ℕ) (x : X) → slice_get (xs ++ y ∷ []) n ≡ Some x → (slice_get xs n ≡ Some x) ⊎ ((n ≡ length xs) × (y ≡ x))
  get_cases [] zero x is = inr (refl, same_Some y x is)
  get_cases [] (suc n) x is = absurd (none-some x is)
  get_cases (z ∷ xs) zero x is = inl is
  get_cases (z ∷ xs) (suc n) x is = elim (get_cases xs n x is) [ inl h ↦ inl h | inr h ↦ inr (ap (λ (k : ℕ). suc k) h.0, h.1) ]

module _ (f : File) (protocol : Span) (xs : List ProtocolMember) (m : ProtocolMember) where
  entries_more : (owns : List OwnMethod) → AllByRecursion (IsEntry f protocol xs) owns → AllByRecursion (IsEntry f protocol (xs ++ m ∷ [])) owns
  entries_more [] h = tt
  entries_more (own ∷ owns) h = (record { member = h.0.member; stands = get_more m xs own.member h.0.member h.0.stands; entry = h.0.entry }, entries_more owns h.1)

  entries_push : (owns : List OwnMethod) (own : OwnMethod) → AllByRecursion (IsEntry f protocol (xs ++ m ∷ [])) owns → IsEntry f protocol (xs ++ m ∷ []) own → AllByRecursion (IsEntry f protocol (xs ++ m ∷ [])) (owns ++ own ∷ [])
  entries_push [] own h e = (e, tt)
  entries_push (o ∷ owns) own h e = (h.0, entries_push owns own h.1 e)

  -- the numbers so far are below that of the member
  below : (owns : List OwnMethod) → AllByRecursion (IsEntry f protocol xs) owns → (k d : ℕ) → k < length (member_numbers owns) → get_or (member_numbers owns) k d < length xs
  below [] h k d lt = omega arith
  below (own ∷ owns) h zero d lt = slice_get_within xs own.member h.0.member h.0.stands
  below (own ∷ owns) h (suc k) d lt = below owns h.1 k d (omega (arith, lt))

  nothing_more : (owns : List OwnMethod) → method_of m ≡ None → AreMethods f protocol xs owns → AreMethods f protocol (xs ++ m ∷ []) owns
  nothing_more owns none h = record {
    entries = entries_more owns h.entries;
    all = λ number member method at is. elim (get_cases m xs number member at) [
      | inl earlier ↦ h.all number member method earlier is
      | inr last ↦ absurd (none-some method (sym none ∙ ap method_of last.1 ∙ is))
    ];
    rising = h.rising;
  }

  one_more : (owns : List OwnMethod) (own : OwnMethod) → IsEntryOf f protocol m own → own.member ≡ length xs → AreMethods f protocol xs owns → AreMethods f protocol (xs ++ m ∷ []) (owns ++ own ∷ [])
  one_more owns own entry number h =
      let entry_there : IsEntry f protocol (xs ++ m ∷ []) own = record { member = m; stands = ap (slice_get (xs ++ m ∷ [])) number ∙ get_last m xs; entry = entry } in
      let numbers : member_numbers (owns ++ own ∷ []) ≡ member_numbers owns ++ own.member ∷ [] = map_push (λ (o : OwnMethod). o.member) owns own in
      let rising = all_pairs_push (λ a b. a < b) (member_numbers owns) own.member h.rising (λ k d lt. subst (λ n. get_or (member_numbers owns) k d < n) (sym number) (below owns h.entries k d lt)) in
      record {
        entries = entries_push owns own (entries_more owns h.entries) entry_there;
        all = λ n member method at is. subst (λ l. Contains l n) (sym numbers) (elim (get_cases m xs n member at) as (λ _. Contains (member_numbers owns ++ own.member ∷ []) n) [
          | inl earlier ↦ Contains-append_left (member_numbers owns) (own.member ∷ []) n (h.all n member method earlier is)
          | inr last ↦ subst (Contains (member_numbers owns ++ own.member ∷ [])) (number ∙ sym last.0) (Contains-push (member_numbers owns) own.member)
        ]);
        rising = subst (AllPairs (λ a b. a < b)) (sym numbers) rising;
      }

module _ (f : File) (protocol : Span) (ms : List ProtocolMember) (i : ℕ) (m : ProtocolMember) (lt : i < length ms) (is : m ≡ get_or ms i m) where
  nothing_further : (owns : List OwnMethod) → method_of m ≡ None → AreMethods f protocol (take i ms) owns → AreMethods f protocol (take (i + 1) ms) owns
  nothing_further owns none h = subst (λ l. AreMethods f protocol l owns) (sym (take_item ms i m lt is)) (nothing_more f protocol (take i ms) m owns none h)

  one_further : (owns : List OwnMethod) (own : OwnMethod) → IsEntryOf f protocol m own → own.member ≡ i → AreMethods f protocol (take i ms) owns → AreMethods f protocol (take (i + 1) ms) (owns ++ own ∷ [])
  one_further owns own entry number h =
      let long : length (take i ms) ≡ i = length-take-le i ms (omega (arith, lt)) in
      subst (λ l. AreMethods f protocol l (owns ++ own ∷ [])) (sym (take_item ms i m lt is)) (one_more f protocol (take i ms) m owns own entry (number ∙ sym long) h)

module _ (f : File) (protocol : Span) (ms : List Tree) (i : ℕ) (m : Tree) (lt : i < length ms) (is : m ≡ get_or ms i m) where
  seen_within : i < length (map protocol_member_view ms)
  seen_within = omega (arith, lt, length-map ms protocol_member_view)

  seen_is : protocol_member_view m ≡ get_or (map protocol_member_view ms) i (protocol_member_view m)
  seen_is = ap protocol_member_view is ∙ sym (get_or-map protocol_member_view ms i m (protocol_member_view m) lt)

  -- with what a member adds, the entries are those of one member more
  pub further : (owns new : List OwnMethod) (own : Option OwnMethod) → new ≡ owns ++ option_to_list own → IfSome own (IsEntryOf f protocol (protocol_member_view m)) → IfSome own (λ o. o.member ≡ i) → (IsNone own → method_of (protocol_member_view m) ≡ None)
      → AreMethods f protocol (take i (map protocol_member_view ms)) owns → AreMethods f protocol (take (i + 1) (map protocol_member_view ms)) new
  further owns new None longer entry number none h =
      subst (AreMethods f protocol (take (i + 1) (map protocol_member_view ms))) (sym (longer ∙ append-nil owns)) (nothing_further f protocol (map protocol_member_view ms) i (protocol_member_view m) seen_within seen_is owns (none refl) h)
  further owns new (Some own) longer entry number none h =
      subst (AreMethods f protocol (take (i + 1) (map protocol_member_view ms))) (sym longer) (one_further f protocol (map protocol_member_view ms) i (protocol_member_view m) seen_within seen_is owns own entry number h)
