-- The numbers of ordinals, one further, and what refusals of them say.
use Rattle.std.proofs.Common.{◌≡◌, ℕ, ◌+◌, ◌<◌, List, [], ◌∷◌, ◌++◌, length, get_or, take, map, Some, refl, ap, sym, subst, ◌∙◌, arith}
use Rattle.std.specs.Prelude.{◌≢◌, slice_get}
use Rattle.std.specs.List.{Contains, AllPairs}
use Rattle.std.proofs.lemmas.List.{get_or_default}
use Rattle.std.proofs.lemmas.List.Quantifiers.{all_pairs_push}
use Rattle.std.proofs.Math.ListN.{get_or-map, length-map}
use Rattle.fidl_span.specs.declared.words.Span.{Span}
use Rattle.fidl_tree.specs.Leaf.{text_at}
use Rattle.fidl_named.specs.declared.place.Place.{Place}
use Rattle.fidl_cycles.proofs.Lists.{take_item}
use Rattle.fidl_consts.specs.Literals.{number_of}
use Rattle.fidl_member_rules.specs.declared.fault.RuleFault.{RuleFault}
use Rattle.fidl_member_rules.specs.Ordinals.{ordinal_numbers, IsOrdinal}
use Rattle.fidl_member_rules.specs.Rules.{Rule, ordinal_rule, duplicate_rule, OrdinalsBreak, IsReport, IsReportIn}
use Rattle.fidl_member_rules.proofs.Reports.{report_more}

-- a number that is none of these differs from each
differs : (keys : List ℕ) (n : ℕ) → (Contains keys n → ⊥) → (k d : ℕ) → k < length keys → get_or keys k d ≢ n
differs keys n fresh k d within e = fresh (k, within, get_or_default keys k n d within ∙ e)

module _ (numbers keys : List ℕ) (i n : ℕ) (lt : i < length numbers) (is : n ≡ get_or numbers i n) (so_far : keys ≡ take i numbers) where
  pub keys_more : (new : List ℕ) → new ≡ keys ++ n ∷ [] → new ≡ take (i + 1) numbers
  keys_more new more = more ∙ ap (λ l. l ++ n ∷ []) so_far ∙ sym (take_item numbers i n lt is)

  pub differ_more : (Contains keys n → ⊥) → AllPairs (λ m n. m ≢ n) (take i numbers) → AllPairs (λ m n. m ≢ n) (take (i + 1) numbers)
  differ_more fresh h = subst (AllPairs (λ m n. m ≢ n)) (sym (take_item numbers i n lt is)) (all_pairs_push (λ m n. m ≢ n) (take i numbers) n h (differs (take i numbers) n (λ k. fresh (subst (λ l. Contains l n) (sym so_far) k))))

module _ (src : List ℕ) (ordinals : List Span) (i : ℕ) (s : Span) (lt : i < length ordinals) (is : s ≡ get_or ordinals i s) where
  -- where the number of an ordinal stands among the numbers
  pub number_within : i < length (ordinal_numbers src ordinals)
  number_within = omega (arith, lt, length-map ordinals (λ (s : Span). number_of (text_at src s)))

  pub number_is : (n : ℕ) → n ≡ number_of (text_at src s) → n ≡ get_or (ordinal_numbers src ordinals) i n
  number_is n e = e ∙ ap (λ (s : Span). number_of (text_at src s)) is ∙ sym (get_or-map (λ (s : Span). number_of (text_at src s)) ordinals i s) ∙ get_or_default (ordinal_numbers src ordinals) i (number_of (text_at src s)) n number_within

module _ (src : List ℕ) (last number : ℕ) (ordinals : List Span) (s : Span) where
  abbrev here : Place
  here = record { file = number; span = s }

  breaks_here : (rule own : Rule) (place : Place) → rule ≡ own → place ≡ here → OrdinalsBreak src last ordinals own s → (place.file ≡ number) × OrdinalsBreak src last ordinals rule place.span
  breaks_here rule own place own_is place_is h = subst (λ (p : Place). (p.file ≡ number) × OrdinalsBreak src last ordinals rule p.span) (sym place_is) (refl, subst (λ r. OrdinalsBreak src last ordinals r s) (sym own_is) h)

  -- the refusal of a number
  pub report_outside : (text : List ℕ) → text ≡ text_at src s → Contains ordinals s → (fault : RuleFault) → IsReport (λ rule place. (rule ≡ ordinal_rule) × (place ≡ here) × (IsOrdinal last (number_of text) → ⊥)) fault → IsReportIn number (OrdinalsBreak src last ordinals) fault
  report_outside text is among = report_more (λ rule place. (rule ≡ ordinal_rule) × (place ≡ here) × (IsOrdinal last (number_of text) → ⊥)) (λ rule place. (place.file ≡ number) × OrdinalsBreak src last ordinals rule place.span)
      (λ rule place h. breaks_here rule ordinal_rule place h.0 h.1 (record { among = among; outside = λ k. h.2 (subst (λ t. IsOrdinal last (number_of t)) (sym is) k) }))

  -- the refusal of one that is taken
  pub report_repeated : (i n : ℕ) (keys : List ℕ) → slice_get ordinals i ≡ Some s → n ≡ number_of (text_at src s) → keys ≡ take i (ordinal_numbers src ordinals) → (fault : RuleFault) → IsReport (λ rule place. (rule ≡ duplicate_rule) × (place ≡ here) × Contains keys n) fault → IsReportIn number (OrdinalsBreak src last ordinals) fault
  report_repeated i n keys at is so_far = report_more (λ rule place. (rule ≡ duplicate_rule) × (place ≡ here) × Contains keys n) (λ rule place. (place.file ≡ number) × OrdinalsBreak src last ordinals rule place.span)
      (λ rule place h. breaks_here rule duplicate_rule place h.0 h.1 (record { rank = i; stands = at; earlier = subst (λ l. Contains l (number_of (text_at src s))) so_far (subst (Contains keys) is h.2) }))
