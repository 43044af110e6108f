-- Small texts and members, for the worked facts.
use Rattle.std.proofs.Common.{◌≡◌, ◌≢◌, ◌∙◌, ℕ, List, [], ◌∷◌, ◌++◌, Some, map, if◌then◌else◌, refl, sym, ap, subst, inl, inr, arith, true≢false}
use Rattle.std.specs.Prelude.{codes, bytes_eq}
use Rattle.std.proofs.lemmas.Option.{none-some}
use Rattle.fidl_span.specs.declared.words.Span.{Span}
use Rattle.fidl_span.specs.Bytes.{is_word_byte}
use Rattle.fidl_span.specs.Names.{is_identifier}
use Rattle.fidl_tree.specs.Leaf.{text_at}
use Rattle.fidl_tree.specs.Syntax.{Attribute, File, ProtocolMember, Openness}
use Rattle.fidl_declarations.specs.declared.step.Step.TheVariants as step
use Rattle.fidl_declarations.specs.Forms.{name_by_path, steps_text}
use Rattle.fidl_member_rules.specs.Profile.{only_string}
use Rattle.fidl_method_rules.specs.Texts.{IsIdentifier, AreTwoNames, IsFullName, MaySelect}
use Rattle.fidl_method_rules.specs.Selectors.{selectors, Gives, SelectorsBreak}
use Rattle.fidl_method_rules.specs.Methods.{Method, method_of, named_in, Selects, OrdinalIs}
use Rattle.fidl_method_rules.specs.Rules.{MethodHolds}
use Rattle.fidl_method_rules.specs.MethodViews.{AreMethods}
use Rattle.fidl_method_rules.proofs.Excluded.{apart, ordinal_once}

pub get_is_word : IsIdentifier (codes "Get_2")
unfolding is_word_byte is_identifier
get_is_word = record { word_bytes = refl; ends = refl }

pub no_end : IsIdentifier (codes "Get_") → ⊥
unfolding is_word_byte is_identifier
no_end h = true≢false (sym h.ends)

pub no_head : IsIdentifier (codes "2Get") → ⊥
unfolding is_word_byte is_identifier
no_head h = true≢false (sym h.ends)

pub no_blank : IsIdentifier (codes "G t") → ⊥
unfolding is_word_byte is_identifier
no_blank h = true≢false (sym h.word_bytes)

pub no_empty : IsIdentifier [] → ⊥
unfolding is_word_byte is_identifier
no_empty h = true≢false (sym h.ends)

pub whole_name : IsFullName (codes "a.b/P.M")
unfolding is_word_byte is_identifier
whole_name = record {
  library = codes "a.b";
  names = codes "P.M";
  cut = refl;
  library_is = (record { word_bytes = refl; ends = refl }, (record { word_bytes = refl; ends = refl }, tt));
  names_are = record {
    protocol = codes "P";
    method = codes "M";
    cut = refl;
    protocol_is = record { word_bytes = refl; ends = refl };
    method_is = record { word_bytes = refl; ends = refl };
  };
}

two_of_one : (x a b : List ℕ) → x ∷ [] ≡ a ∷ b ∷ [] → ⊥
two_of_one x a b h = cc

two_of_three : (x y z a b : List ℕ) → x ∷ y ∷ z ∷ [] ≡ a ∷ b ∷ [] → ⊥
two_of_three x y z a b h = cc

pub no_slash : IsFullName (codes "abc") → ⊥
no_slash h = two_of_one (codes "abc") h.library h.names h.cut

pub two_slashes : IsFullName (codes "a/b/P.M") → ⊥
two_slashes h = two_of_three (codes "a") (codes "b") (codes "P.M") h.library h.names h.cut

second_of : (x y a b : List ℕ) → x ∷ y ∷ [] ≡ a ∷ b ∷ [] → y ≡ b
second_of x y a b h = cc

pub no_method : IsFullName (codes "a/P") → ⊥
no_method h =
    let names : codes "P" ≡ h.names = second_of (codes "a") (codes "P") h.library h.names h.cut in
    let two : AreTwoNames (codes "P") = subst AreTwoNames (sym names) h.names_are in
    two_of_one (codes "P") two.protocol two.method two.cut

pub no_selection : MaySelect (codes "P.M") → ⊥
unfolding is_word_byte is_identifier
no_selection (inl h) = true≢false (sym h.word_bytes)
no_selection (inr h) = two_of_one (codes "P.M") h.library h.names h.cut

module _ (f : File) (l p : Span) (library : f.library ≡ l ∷ []) (lib : text_at f.source l ≡ codes "lib") (own : text_at f.source p ≡ codes "P") where
  pub full_name : (m : Span) → text_at f.source m ≡ codes "M" → name_by_path f (step.Name p ∷ step.Name m ∷ []) ≡ codes "lib/P.M"
  full_name m called =
      ap (λ (path : List Span). (steps_text f.source (map step.Name path) ++ codes "/") ++ steps_text f.source (step.Name p ∷ step.Name m ∷ [])) library
      ∙ ap (λ t. ((t ++ []) ++ codes "/") ++ steps_text f.source (step.Name p ∷ step.Name m ∷ [])) lib
      ∙ ap (λ t. codes "lib/" ++ (t ++ ((codes "." ++ text_at f.source m) ++ []))) own
      ∙ ap (λ t. codes "lib/P." ++ (t ++ [])) called

  pub other_name : named_in f p (codes "x") ≡ codes "lib/P.x"
  other_name =
      ap (λ (path : List Span). (((steps_text f.source (map step.Name path) ++ codes "/") ++ (text_at f.source p ++ [])) ++ codes ".") ++ codes "x") library
      ∙ ap (λ t. ((((t ++ []) ++ codes "/") ++ (text_at f.source p ++ [])) ++ codes ".") ++ codes "x") lib
      ∙ ap (λ t. ((codes "lib/" ++ (t ++ [])) ++ codes ".") ++ codes "x") own

pub is_one : (src : List ℕ) (a : Attribute) → text_at src a.name ≡ codes "selector" → selectors src (a ∷ []) ≡ a ∷ []
is_one src a is = ap (λ t. if bytes_eq t (codes "selector") then a ∷ [] else []) is

pub is_none : (src : List ℕ) (a : Attribute) → text_at src a.name ≡ codes "doc" → selectors src (a ∷ []) ≡ []
is_none src a is = ap (λ t. if bytes_eq t (codes "selector") then a ∷ [] else []) is

pub not_the_first : (src : List ℕ) (a b : Attribute) → selectors src (a ∷ b ∷ []) ≡ a ∷ b ∷ [] → a.name ≢ b.name → SelectorsBreak src (a ∷ b ∷ []) a.name → ⊥
not_the_first src a b two other (SelectorsBreak.by_text c one wrong place) = let both : a ∷ b ∷ [] ≡ c ∷ [] = sym two ∙ one in cc
not_the_first src a b two other (SelectorsBreak.by_number c d rest several place) =
    let both : a ∷ b ∷ [] ≡ c ∷ d ∷ rest = sym two ∙ several in
    let same : b ≡ d = cc in
    other (place ∙ ap (λ (x : Attribute). x.name) (sym same))

pub nothing_given : (src : List ℕ) (a : Attribute) (text : List ℕ) → a.arguments ≡ [] → Gives src a text → ⊥
nothing_given src a text none h = none-some h.word (sym (ap only_string none) ∙ h.alone)

pub no_more : (f : File) (p : Span) (given text : List ℕ) → IsFullName given → text ≢ given → Selects f p given text → ⊥
no_more f p given text full other (Selects.by_identifier word is) = apart given word full
no_more f p given text full other (Selects.by_full_name again is) = other is

pub zero_refused : (f : File) (openness : Openness) (p : Span) (m : Method) → OrdinalIs f p m 0 → MethodHolds f openness p m → ⊥
zero_refused f openness p m zero_is h = h.other (ordinal_once f p m h.number 0 h.ordinal zero_is)

pub no_entries : (f : File) (p : Span) → AreMethods f p [] []
no_entries f p = record {
  entries = tt;
  all = λ number member m at is. absurd (none-some member at);
  rising = λ i j d lt within. absurd (omega (arith, within));
}

pub not_left_out : (f : File) (p : Span) (member : ProtocolMember) (m : Method) → method_of member ≡ Some m → AreMethods f p (member ∷ []) [] → ⊥
not_left_out f p member m is h = let within = (h.all 0 member m refl is).1 in omega (arith, within)
