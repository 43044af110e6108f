-- Which of the words that there is a choice of stands ahead.
use Rattle.std.proofs.Common.{◌≡◌, ℕ, false, List, [], ◌∷◌, ◌++◌, Option, None, Some, Result, Ok, Err, is_some, codes, append_assoc, refl, sym, subst}
use Rattle.fidl_span.specs.declared.words.Span.{Span}
use Rattle.fidl_tree.specs.Leaf.{Leaf, keyword, optional}
use Rattle.fidl_tree.specs.Keyword.{strictness_leaves, resource_leaves, openness_leaves, values_keyword_leaves, union_modifiers_leaves}
use Rattle.fidl_tree.specs.declared.keyword.Strictness.{Strictness}
use Rattle.fidl_tree.specs.declared.keyword.Strictness.TheVariants.{Strict, Flexible}
use Rattle.fidl_tree.specs.declared.keyword.Resource.{Resource}
use Rattle.fidl_tree.specs.declared.keyword.Openness.{Openness}
use Rattle.fidl_tree.specs.declared.keyword.Openness.TheVariants.{Open, Ajar, Closed}
use Rattle.fidl_tree.specs.declared.keyword.ValuesKeyword.{ValuesKeyword}
use Rattle.fidl_tree.specs.declared.keyword.ValuesKeyword.TheVariants.{Bits, Enum}
use Rattle.fidl_tree.specs.declared.keyword.UnionModifiers.{UnionModifiers}
use Rattle.fidl_tree.specs.declared.keyword.UnionModifiers.TheVariants.{StrictnessFirst, ResourceFirst}
use Rattle.fidl_parse.specs.declared.parser.Parser.{Parser}
use Rattle.fidl_parse.specs.declared.fault.Stop.{Stop}
use Rattle.fidl_parse.specs.declared.fault.Stop.TheVariants.{Memory}
use Rattle.std.proofs.lemmas.Bool.{false≢true}
use Rattle.fidl_parse.specs.Reading.{IsTextAt}
use Rattle.fidl_parse.specs.Completeness.{Ahead, Goes, Finds}
use Rattle.fidl_parse.specs.FollowSets.{Anything, NotWord, strictness_words, modifier_words}
use Rattle.fidl_parse.specs.Suffixes.{has_strictness, has_resource}
use Rattle.fidl_parse.proofs.Words.{differ, text_ahead, not_word, not_word_of}

pub strict_ahead : (p : Parser) (at : ℕ) (x : Strictness) (rest : List Leaf) → IsTextAt p at (codes "strict") → Ahead p at (strictness_leaves x ++ rest)
    → (s : Span) × Ahead p at (keyword (codes "strict") s ++ rest)
strict_ahead p at (Strict s) rest i a = (s, a)
strict_ahead p at (Flexible s) rest i a = absurd (differ p at (codes "strict") (codes "flexible") s rest refl i a)

pub flexible_ahead : (p : Parser) (at : ℕ) (x : Strictness) (rest : List Leaf) → IsTextAt p at (codes "flexible") → Ahead p at (strictness_leaves x ++ rest)
    → (s : Span) × Ahead p at (keyword (codes "flexible") s ++ rest)
flexible_ahead p at (Strict s) rest i a = absurd (differ p at (codes "flexible") (codes "strict") s rest refl i a)
flexible_ahead p at (Flexible s) rest i a = (s, a)

pub no_strictness : (p : Parser) (at : ℕ) (x : Strictness) (rest : List Leaf) → (IsTextAt p at (codes "strict") → ⊥) → (IsTextAt p at (codes "flexible") → ⊥)
    → Ahead p at (strictness_leaves x ++ rest) → ⊥
no_strictness p at (Strict s) rest n m a = n (text_ahead p at (codes "strict") s rest a)
no_strictness p at (Flexible s) rest n m a = m (text_ahead p at (codes "flexible") s rest a)

abbrev done : (R : Type 0) → R → Result R Stop
done R v = Ok v

abbrev stopped : (R : Type 0) → Stop → Result R Stop
stopped R e = Err e

-- what is known of a part that is next and of one that isn't, together
pub option_ahead : {X : Type 0} {R : Type 0} (f : X → List Leaf) (p : Parser) (from to : ℕ) (v : Option R) (o : Option X) (rest : List Leaf)
    → ((x : X) → (ls : List Leaf) → Anything ls → Ahead p from (f x ++ ls) → Ahead p to ls) → (Ahead p from rest → (done (Option R) v ≡ Ok None) × Ahead p to rest)
    → Ahead p from (optional f o ++ rest) → Ahead p to rest
option_ahead f p from to v None rest h k a = (k a).1
option_ahead f p from to v (Some x) rest h k a = h x rest tt a

pub option_stops : {X : Type 0} {R : Type 0} (f : X → List Leaf) (p : Parser) (from to : ℕ) (e : Stop) (o : Option X) (rest : List Leaf)
    → ((x : X) → (ls : List Leaf) → Anything ls → Ahead p from (f x ++ ls) → e ≡ Memory) → (Ahead p from rest → (stopped (Option R) e ≡ Ok None) × Ahead p to rest)
    → Ahead p from (optional f o ++ rest) → e ≡ Memory
option_stops f p from to e None rest h k a = let q = (k a).0 in cc
option_stops f p from to e (Some x) rest h k a = h x rest tt a

told_none : {R : Type 0} (v : Option R) → done (Option R) v ≡ Ok None → is_some v ≡ false
told_none None q = refl
told_none (Some r) q = cc

-- where a part does not stand ahead, none is read
pub option_lacks : {X : Type 0} {R : Type 0} (f : X → List Leaf) (p : Parser) (from to : ℕ) (v : Option R) (o : Option X) (rest : List Leaf)
    → (Ahead p from rest → (done (Option R) v ≡ Ok None) × Ahead p to rest) → is_some o ≡ false → Ahead p from (optional f o ++ rest) → is_some v ≡ false
option_lacks f p from to v None rest k e a = told_none v (k a).0
option_lacks f p from to v (Some x) rest k e a = absurd (false≢true (sym e))

pub option_absent : {X : Type 0} (f : X → List Leaf) (p : Parser) (at : ℕ) (o : Option X) (rest : List Leaf) → is_some o ≡ false → Ahead p at (optional f o ++ rest) → Ahead p at rest
option_absent f p at None rest e a = a
option_absent f p at (Some x) rest e a = absurd (false≢true (sym e))

pub option_goes : {X : Type 0} {R : Type 0} (f : X → List Leaf) (p : Parser) (from to : ℕ) (r : Result (Option R) Stop) (o : Option X) (rest : List Leaf)
    → Finds p from to f Anything r → (Ahead p from rest → (r ≡ Ok None) × Ahead p to rest) → Ahead p from (optional f o ++ rest) → Goes r (Ahead p to rest)
option_goes f p from to r None rest h k a = subst (λ q. Goes q (Ahead p to rest)) (sym (k a).0) (k a).1
option_goes f p from to r (Some x) rest h k a = h x rest tt a

abbrev openness_words : List (List ℕ)
openness_words = codes "open" ∷ codes "ajar" ∷ codes "closed" ∷ []

pub open_ahead : (p : Parser) (at : ℕ) (o : Option Openness) (rest : List Leaf) → IsTextAt p at (codes "open") → NotWord openness_words rest → Ahead p at (optional openness_leaves o ++ rest)
    → (s : Span) × Ahead p at (keyword (codes "open") s ++ rest)
open_ahead p at None rest i n a = absurd (not_word p at (codes "open") openness_words rest refl n i a)
open_ahead p at (Some (Open s)) rest i n a = (s, a)
open_ahead p at (Some (Ajar s)) rest i n a = absurd (differ p at (codes "open") (codes "ajar") s rest refl i a)
open_ahead p at (Some (Closed s)) rest i n a = absurd (differ p at (codes "open") (codes "closed") s rest refl i a)

pub ajar_ahead : (p : Parser) (at : ℕ) (o : Option Openness) (rest : List Leaf) → IsTextAt p at (codes "ajar") → NotWord openness_words rest → Ahead p at (optional openness_leaves o ++ rest)
    → (s : Span) × Ahead p at (keyword (codes "ajar") s ++ rest)
ajar_ahead p at None rest i n a = absurd (not_word p at (codes "ajar") openness_words rest refl n i a)
ajar_ahead p at (Some (Open s)) rest i n a = absurd (differ p at (codes "ajar") (codes "open") s rest refl i a)
ajar_ahead p at (Some (Ajar s)) rest i n a = (s, a)
ajar_ahead p at (Some (Closed s)) rest i n a = absurd (differ p at (codes "ajar") (codes "closed") s rest refl i a)

pub closed_ahead : (p : Parser) (at : ℕ) (o : Option Openness) (rest : List Leaf) → IsTextAt p at (codes "closed") → NotWord openness_words rest → Ahead p at (optional openness_leaves o ++ rest)
    → (s : Span) × Ahead p at (keyword (codes "closed") s ++ rest)
closed_ahead p at None rest i n a = absurd (not_word p at (codes "closed") openness_words rest refl n i a)
closed_ahead p at (Some (Open s)) rest i n a = absurd (differ p at (codes "closed") (codes "open") s rest refl i a)
closed_ahead p at (Some (Ajar s)) rest i n a = absurd (differ p at (codes "closed") (codes "ajar") s rest refl i a)
closed_ahead p at (Some (Closed s)) rest i n a = (s, a)

pub no_openness : (p : Parser) (at : ℕ) (o : Option Openness) (rest : List Leaf) → (IsTextAt p at (codes "open") → ⊥) → (IsTextAt p at (codes "ajar") → ⊥) → (IsTextAt p at (codes "closed") → ⊥)
    → Ahead p at (optional openness_leaves o ++ rest) → Ahead p at rest
no_openness p at None rest n m k a = a
no_openness p at (Some (Open s)) rest n m k a = absurd (n (text_ahead p at (codes "open") s rest a))
no_openness p at (Some (Ajar s)) rest n m k a = absurd (m (text_ahead p at (codes "ajar") s rest a))
no_openness p at (Some (Closed s)) rest n m k a = absurd (k (text_ahead p at (codes "closed") s rest a))

pub bits_ahead : (p : Parser) (at : ℕ) (x : ValuesKeyword) (rest : List Leaf) → IsTextAt p at (codes "bits") → Ahead p at (values_keyword_leaves x ++ rest)
    → (s : Span) × Ahead p at (keyword (codes "bits") s ++ rest)
bits_ahead p at (Bits s) rest i a = (s, a)
bits_ahead p at (Enum s) rest i a = absurd (differ p at (codes "bits") (codes "enum") s rest refl i a)

pub enum_ahead : (p : Parser) (at : ℕ) (x : ValuesKeyword) (rest : List Leaf) → (IsTextAt p at (codes "bits") → ⊥) → Ahead p at (values_keyword_leaves x ++ rest)
    → (s : Span) × Ahead p at (keyword (codes "enum") s ++ rest)
enum_ahead p at (Bits s) rest n a = absurd (n (text_ahead p at (codes "bits") s rest a))
enum_ahead p at (Enum s) rest n a = (s, a)

-- modifiers that begin with `resource`
pub record ResourceAhead (p : Parser) (at : ℕ) (x : UnionModifiers) (rest : List Leaf) : Type 0 where
  pub word : Span
  pub strictness : Option Strictness
  pub same : has_strictness x ≡ is_some strictness
  pub ahead : Ahead p at (keyword (codes "resource") word ++ (optional strictness_leaves strictness ++ rest))

pub resource_ahead : (p : Parser) (at : ℕ) (x : UnionModifiers) (rest : List Leaf) → IsTextAt p at (codes "resource") → NotWord modifier_words rest
    → Ahead p at (union_modifiers_leaves x ++ rest) → ResourceAhead p at x rest
resource_ahead p at (StrictnessFirst None None) rest i n a = absurd (not_word p at (codes "resource") modifier_words rest refl n i a)
resource_ahead p at (StrictnessFirst None (Some r)) rest i n a = record { word = r.keyword; strictness = None; same = refl; ahead = a }
resource_ahead p at (StrictnessFirst (Some (Strict s)) r) rest i n a = absurd (differ p at (codes "resource") (codes "strict") s (optional resource_leaves r ++ rest) refl i a)
resource_ahead p at (StrictnessFirst (Some (Flexible s)) r) rest i n a = absurd (differ p at (codes "resource") (codes "flexible") s (optional resource_leaves r ++ rest) refl i a)
resource_ahead p at (ResourceFirst r s) rest i n a = record { word = r.keyword; strictness = Some s; same = refl; ahead = a }

-- where `resource` stands, the modifiers have it
pub resource_told : (p : Parser) (at : ℕ) (x : UnionModifiers) (rest : List Leaf) → IsTextAt p at (codes "resource") → NotWord modifier_words rest
    → Ahead p at (union_modifiers_leaves x ++ rest) → has_resource x ≡ false → ⊥
resource_told p at (StrictnessFirst None None) rest i n a e = not_word p at (codes "resource") modifier_words rest refl n i a
resource_told p at (StrictnessFirst None (Some r)) rest i n a e = cc
resource_told p at (StrictnessFirst (Some (Strict s)) r) rest i n a e = differ p at (codes "resource") (codes "strict") s (optional resource_leaves r ++ rest) refl i a
resource_told p at (StrictnessFirst (Some (Flexible s)) r) rest i n a e = differ p at (codes "resource") (codes "flexible") s (optional resource_leaves r ++ rest) refl i a
resource_told p at (ResourceFirst r s) rest i n a e = cc

-- modifiers that don't
pub record StrictnessAhead (p : Parser) (at : ℕ) (x : UnionModifiers) (rest : List Leaf) : Type 0 where
  pub strictness : Option Strictness
  pub resource : Option Resource
  pub same_strictness : has_strictness x ≡ is_some strictness
  pub same_resource : has_resource x ≡ is_some resource
  pub may : NotWord strictness_words (optional resource_leaves resource ++ rest)
  pub ahead : Ahead p at (optional strictness_leaves strictness ++ (optional resource_leaves resource ++ rest))

may_follow : (r : Option Resource) (rest : List Leaf) → NotWord modifier_words rest → NotWord strictness_words (optional resource_leaves r ++ rest)
may_follow None rest n = not_word_of (codes "resource") strictness_words rest n
may_follow (Some r) rest n = refl

pub strictness_ahead : (p : Parser) (at : ℕ) (x : UnionModifiers) (rest : List Leaf) → (IsTextAt p at (codes "resource") → ⊥) → NotWord modifier_words rest
    → Ahead p at (union_modifiers_leaves x ++ rest) → StrictnessAhead p at x rest
strictness_ahead p at (StrictnessFirst s r) rest i n a = record {
  strictness = s;
  resource = r;
  same_strictness = refl;
  same_resource = refl;
  may = may_follow r rest n;
  ahead = subst (λ l. Ahead p at l) (append_assoc (optional strictness_leaves s) (optional resource_leaves r) rest) a;
}
strictness_ahead p at (ResourceFirst r (Strict s)) rest i n a = absurd (i (text_ahead p at (codes "resource") r.keyword _ a))
strictness_ahead p at (ResourceFirst r (Flexible s)) rest i n a = absurd (i (text_ahead p at (codes "resource") r.keyword _ a))
