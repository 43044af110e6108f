-- A text has one meaning, a method one ordinal, and what is refused does not hold.
use Rattle.std.proofs.Common.{◌≡◌, ◌≢◌, ◌∙◌, ◌==◌, ◌&&◌, ℕ, Bool, true, false, List, [], ◌∷◌, refl, sym, ap, subst, inl, inr, true≢false}
use Rattle.std.specs.List.{AllByRecursion, list_all}
use Rattle.std.proofs.lemmas.Option.{same_Some}
use Rattle.std.proofs.lemmas.List.Elements.{All-from_recursion, All-contains}
use Rattle.std.proofs.lemmas.List.Splits.{slice_split_none}
use Rattle.fidl_span.specs.declared.words.Span.{Span}
use Rattle.fidl_span.specs.Bytes.{is_word_byte, slash}
use Rattle.fidl_tree.specs.Syntax.{Attribute, File, Openness, ProtocolMember}
use Rattle.fidl_ordinal.specs.Ordinal.{ordinal}
use Rattle.fidl_consts.specs.Literals.{string_of}
use Rattle.fidl_tree.specs.Leaf.{text_at}
use Rattle.fidl_method_rules.specs.declared.fault.MethodFault.{MethodFault}
use Rattle.fidl_method_rules.specs.declared.fault.MethodFault.TheVariants.{NotStrict, BadSelector, ZeroOrdinal, Memory}
use Rattle.fidl_method_rules.specs.Texts.{IsIdentifier, IsFullName, MaySelect, parts}
use Rattle.fidl_method_rules.specs.Selectors.{Gives, SelectorsBreak}
use Rattle.fidl_method_rules.specs.Methods.{Method, Selects, by_identifier, by_full_name, SelectedBy, TextIs, OrdinalIs}
use Rattle.fidl_method_rules.specs.Rules.{Rule, strict_rule, selector_rule, ordinal_rule, MethodHolds, MethodBreaks, MemberHolds, ProtocolHolds, ProtocolBreaks, IsReportIn}
use Rattle.fidl_method_rules.proofs.Cuts.{other_byte}

no_slash : is_word_byte slash ≡ false
unfolding is_word_byte
no_slash = refl

and_parts : (a b : Bool) → (a && b) ≡ true → (a ≡ true) × (b ≡ true)
and_parts true b h = (refl, h)
and_parts false b h = absurd (true≢false (sym h))

all_other : (text : List ℕ) → list_all is_word_byte text ≡ true → AllByRecursion (λ b. (b == slash) ≡ false) text
all_other [] h = tt
all_other (b ∷ text) h =
    let both = and_parts (is_word_byte b) (list_all is_word_byte text) h in
    (other_byte slash b (λ same. true≢false (sym both.0 ∙ ap is_word_byte same ∙ no_slash)), all_other text both.1)

-- an identifier is no full name
pub apart : (text : List ℕ) → IsIdentifier text → IsFullName text → ⊥
apart text word full =
    let none : parts slash text ≡ text ∷ [] = slice_split_none (λ b. b == slash) text (All-from_recursion (λ b. (b == slash) ≡ false) text (all_other text word.word_bytes)) in
    let two = full.cut in
    cc

-- an attribute gives one text
pub given_once : (src : List ℕ) (a : Attribute) (x y : List ℕ) → Gives src a x → Gives src a y → x ≡ y
given_once src a x y g h =
    let same : g.word ≡ h.word = same_Some g.word h.word (sym g.alone ∙ h.alone) in
    sym g.writes ∙ ap (λ (s : Span). string_of (text_at src s)) same ∙ h.writes

module _ (f : File) (protocol : Span) where
  selected_once : (given x y : List ℕ) → Selects f protocol given x → Selects f protocol given y → x ≡ y
  selected_once given x y (Selects.by_identifier word is) (Selects.by_identifier again same) = is ∙ sym same
  selected_once given x y (Selects.by_identifier word is) (Selects.by_full_name full same) = absurd (apart given word full)
  selected_once given x y (Selects.by_full_name full is) (Selects.by_identifier word same) = absurd (apart given word full)
  selected_once given x y (Selects.by_full_name full is) (Selects.by_full_name again same) = is ∙ sym same

  selected_by_once : (a : Attribute) (x y : List ℕ) → SelectedBy f protocol a x → SelectedBy f protocol a y → x ≡ y
  selected_by_once a x y g h =
      let same = given_once f.source a g.given h.given g.gives h.gives in
      selected_once h.given x y (subst (λ (t : List ℕ). Selects f protocol t x) same g.selects) h.selects

  text_once : (m : Method) (x y : List ℕ) → TextIs f protocol m x → TextIs f protocol m y → x ≡ y
  text_once m x y (TextIs.by_name none is) (TextIs.by_name again same) = is ∙ sym same
  text_once m x y (TextIs.by_name none is) (TextIs.by_selector a one h) = let both : [] ≡ a ∷ [] = sym none ∙ one in cc
  text_once m x y (TextIs.by_selector a one h) (TextIs.by_name none is) = let both : [] ≡ a ∷ [] = sym none ∙ one in cc
  text_once m x y (TextIs.by_selector a one g) (TextIs.by_selector b another h) =
      let both : a ∷ [] ≡ b ∷ [] = sym one ∙ another in
      let same : a ≡ b = cc in
      selected_by_once b x y (subst (λ (c : Attribute). SelectedBy f protocol c x) same g) h

  pub ordinal_once : (m : Method) (a b : ℕ) → OrdinalIs f protocol m a → OrdinalIs f protocol m b → a ≡ b
  ordinal_once m a b g h = g.number ∙ ap ordinal (text_once m g.text h.text g.text_is h.text_is) ∙ sym h.number

  -- a selector gives a text where the method has one
  selector_gives : (a : Attribute) (text : List ℕ) → SelectedBy f protocol a text → ((given : List ℕ) → Gives f.source a given → MaySelect given → ⊥) → ⊥
  selector_gives a text h wrong = wrong h.given h.gives (elim h.selects [ by_identifier word is ↦ inl word | by_full_name full is ↦ inr full ])

  selectors_fit : (m : Method) (text : List ℕ) (span : Span) → TextIs f protocol m text → SelectorsBreak f.source m.attributes span → ⊥
  selectors_fit m text span (TextIs.by_name none is) (SelectorsBreak.by_text a one wrong place) = let both : [] ≡ a ∷ [] = sym none ∙ one in cc
  selectors_fit m text span (TextIs.by_name none is) (SelectorsBreak.by_number a b rest several place) = let both : [] ≡ a ∷ b ∷ rest = sym none ∙ several in cc
  selectors_fit m text span (TextIs.by_selector c one h) (SelectorsBreak.by_text a another wrong place) =
      let both : c ∷ [] ≡ a ∷ [] = sym one ∙ another in
      let same : c ≡ a = cc in
      selector_gives a text (subst (λ (x : Attribute). SelectedBy f protocol x text) same h) wrong
  selectors_fit m text span (TextIs.by_selector c one h) (SelectorsBreak.by_number a b rest several place) = let both : c ∷ [] ≡ a ∷ b ∷ rest = sym one ∙ several in cc

  method_excluded : (openness : Openness) (m : Method) (rule : Rule) (span : Span) → MethodBreaks f openness protocol m rule span → MethodHolds f openness protocol m → ⊥
  method_excluded openness m strict_rule span h holds = h.0 holds.stands
  method_excluded openness m selector_rule span h holds = selectors_fit m holds.ordinal.text span holds.ordinal.text_is h
  method_excluded openness m ordinal_rule span h holds = holds.other (ordinal_once m holds.number 0 holds.ordinal h.0)

  pub protocol_excluded : (openness : Openness) (members : List ProtocolMember) (rule : Rule) (span : Span) → ProtocolBreaks f openness protocol members rule span → ProtocolHolds f openness protocol members → ⊥
  protocol_excluded openness members rule span h holds =
      let owed = All-contains (MemberHolds f openness protocol) members h.one (All-from_recursion (MemberHolds f openness protocol) members holds) h.among in
      method_excluded openness h.breaks.method rule span h.breaks.breaks (owed h.breaks.method h.breaks.is)

  pub refused_excluded : (number : ℕ) (openness : Openness) (members : List ProtocolMember) (fault : MethodFault) → fault ≢ Memory → IsReportIn number (ProtocolBreaks f openness protocol members) fault → ProtocolHolds f openness protocol members → ⊥
  refused_excluded number openness members (NotStrict place) other h = protocol_excluded openness members strict_rule place.span h.1
  refused_excluded number openness members (BadSelector place) other h = protocol_excluded openness members selector_rule place.span h.1
  refused_excluded number openness members (ZeroOrdinal place) other h = protocol_excluded openness members ordinal_rule place.span h.1
  refused_excluded number openness members Memory other h = absurd (other refl)
