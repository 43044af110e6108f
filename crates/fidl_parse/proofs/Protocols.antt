-- What the members of protocols begin with, and which of them stands ahead.
use Rattle.std.proofs.Common.{◌≡◌, ℕ, ◌+◌, Bool, true, false, List, [], ◌∷◌, ◌++◌, inl, inr, Option, None, Some, codes, append_assoc, refl, ap, sym, subst, ◌∙◌, not, ◌||◌}
use Rattle.std.proofs.lemmas.Bool.{false≢true}
use Rattle.fidl_span.specs.declared.words.Span.{Span}
use Rattle.fidl_span.specs.declared.words.WordKind.{WordKind}
use Rattle.fidl_span.specs.declared.words.WordKind.TheVariants as kind
use Rattle.fidl_tree.specs.Leaf.{Leaf, symbol, name, keyword, optional}
use Rattle.fidl_tree.specs.Path.{path_leaves}
use Rattle.fidl_tree.specs.Attribute.{attributes_leaves}
use Rattle.fidl_tree.specs.Keyword.{strictness_leaves}
use Rattle.fidl_tree.specs.TypeConstructor.{type_leaves}
use Rattle.fidl_tree.specs.Protocol.{protocol_member_leaves, protocol_member_body_leaves, response_leaves, error_type_leaves, payload_leaves}
use Rattle.fidl_tree.specs.declared.path.Path.{Path}
use Rattle.fidl_tree.specs.declared.keyword.Strictness.{Strictness}
use Rattle.fidl_tree.specs.declared.keyword.Strictness.TheVariants.{Strict, Flexible}
use Rattle.fidl_tree.specs.declared.type_constructor.TypeConstructor.{TypeConstructor}
use Rattle.fidl_tree.specs.declared.protocol.ProtocolMember.{ProtocolMember}
use Rattle.fidl_tree.specs.declared.protocol.ProtocolMemberBody.{ProtocolMemberBody}
use Rattle.fidl_tree.specs.declared.protocol.ProtocolMemberBody.TheVariants as body
use Rattle.fidl_tree.specs.declared.protocol.Response.{Response}
use Rattle.fidl_tree.specs.declared.protocol.Payload.{Payload}
use Rattle.fidl_tree.specs.declared.protocol.Method.{Method}
use Rattle.fidl_tree.specs.declared.protocol.Event.{Event}
use Rattle.fidl_parse.specs.declared.parser.Parser.{Parser}
use Rattle.fidl_parse.specs.Reading.{IsKindAt, IsTextAt}
use Rattle.fidl_parse.specs.Completeness.{Ahead}
use Rattle.fidl_parse.specs.FollowSets.{Begins, Not, NotWord, BeginsMethod, extends_attributes, is_identifier, strictness_words}
use Rattle.fidl_parse.proofs.Ahead.{step, kind_at, kind_same, text_same}
use Rattle.fidl_parse.proofs.Follow.{Starts, starts_other}
use Rattle.fidl_parse.proofs.Words.{differ, text_ahead}
use Rattle.fidl_parse.proofs.TypeAhead.{starts_member, attributes_start}
use Rattle.fidl_parse.proofs.TypeChoices.{starts_type, type_starts}

pub response_begins : (y : Response) (ls : List Leaf) → Begins kind.Arrow (response_leaves y ++ ls)
response_begins y ls = refl

pub type_apart : (y : TypeConstructor) (ls : List Leaf) → Begins kind.RightParenthesis (type_leaves y ++ ls) → ⊥
type_apart y ls b = starts_other starts_type kind.RightParenthesis _ refl (type_starts y ls) b

pub payload_ahead : (p : Parser) (at : ℕ) (x : Payload) (rest : List Leaf) → Ahead p at (payload_leaves x ++ rest)
    → Ahead p at (symbol kind.LeftParenthesis x.left ++ (optional type_leaves x.constructor ++ (symbol kind.RightParenthesis x.right ++ rest)))
payload_ahead p at x rest a = simp append_assoc at a

pub response_ahead : (p : Parser) (at : ℕ) (x : Response) (rest : List Leaf) → Ahead p at (response_leaves x ++ rest)
    → Ahead p at (symbol kind.Arrow x.arrow ++ (payload_leaves x.payload ++ (optional error_type_leaves x.error ++ rest)))
response_ahead p at x rest a = subst (λ l. Ahead p at l) (ap (λ l. symbol kind.Arrow x.arrow ++ l) (append_assoc (payload_leaves x.payload) (optional error_type_leaves x.error) rest)) a

method_starts : (s : Option Strictness) (n : Span) (ls : List Leaf) → Starts starts_member (optional strictness_leaves s ++ (name n ++ ls))
method_starts None n ls = refl
method_starts (Some (Strict s)) n ls = refl
method_starts (Some (Flexible s)) n ls = refl

method_may : (s : Option Strictness) (n : Span) (ls : List Leaf) → Not extends_attributes (optional strictness_leaves s ++ (name n ++ ls))
method_may None n ls = refl
method_may (Some (Strict s)) n ls = refl
method_may (Some (Flexible s)) n ls = refl

event_starts : (s : Option Strictness) (n : Span) (ls : List Leaf) → Starts starts_member (optional strictness_leaves s ++ (symbol kind.Arrow n ++ ls))
event_starts None n ls = refl
event_starts (Some (Strict s)) n ls = refl
event_starts (Some (Flexible s)) n ls = refl

event_may : (s : Option Strictness) (n : Span) (ls : List Leaf) → Not extends_attributes (optional strictness_leaves s ++ (symbol kind.Arrow n ++ ls))
event_may None n ls = refl
event_may (Some (Strict s)) n ls = refl
event_may (Some (Flexible s)) n ls = refl

-- a method or an event behind what is said of its strictness
pub data Call : Type 0 where
  method : Span → Payload → Option Response → Call
  event : Span → Span → Payload → Call

abbrev pub call_leaves : Call → List Leaf → List Leaf
call_leaves (method n request response) rest = name n ++ (payload_leaves request ++ (optional response_leaves response ++ rest))
call_leaves (event arrow n payload) rest = symbol kind.Arrow arrow ++ (name n ++ (payload_leaves payload ++ rest))

four : (xs ys zs ws vs : List Leaf) → (((xs ++ ys) ++ zs) ++ ws) ++ vs ≡ xs ++ (ys ++ (zs ++ (ws ++ vs)))
four xs ys zs ws vs = simp append_assoc

pub body_split : (x : Method) (rest : List Leaf) → protocol_member_body_leaves (body.Method x) ++ rest ≡ optional strictness_leaves x.strictness ++ call_leaves (method x.name x.request x.response) rest
body_split x rest = four (optional strictness_leaves x.strictness) (name x.name) (payload_leaves x.request) (optional response_leaves x.response) rest

pub event_split : (x : Event) (rest : List Leaf) → protocol_member_body_leaves (body.Event x) ++ rest ≡ optional strictness_leaves x.strictness ++ call_leaves (event x.arrow x.name x.payload) rest
event_split x rest = four (optional strictness_leaves x.strictness) (symbol kind.Arrow x.arrow) (name x.name) (payload_leaves x.payload) rest

body_starts : (x : ProtocolMemberBody) (rest : List Leaf) → Starts starts_member (protocol_member_body_leaves x ++ rest)
body_starts (body.Compose compose) rest = refl
body_starts (body.Method x) rest = subst (λ l. Starts starts_member l) (sym (body_split x rest)) (method_starts x.strictness x.name _)
body_starts (body.Event x) rest = subst (λ l. Starts starts_member l) (sym (event_split x rest)) (event_starts x.strictness x.arrow _)

pub body_may : (x : ProtocolMemberBody) (rest : List Leaf) → Not extends_attributes (protocol_member_body_leaves x ++ rest)
body_may (body.Compose compose) rest = refl
body_may (body.Method x) rest = subst (λ l. Not extends_attributes l) (sym (body_split x rest)) (method_may x.strictness x.name _)
body_may (body.Event x) rest = subst (λ l. Not extends_attributes l) (sym (event_split x rest)) (event_may x.strictness x.arrow _)

three : (xs ys zs vs : List Leaf) → ((xs ++ ys) ++ zs) ++ vs ≡ xs ++ (ys ++ (zs ++ vs))
three xs ys zs vs = simp append_assoc

member_split : (x : ProtocolMember) (rest : List Leaf) → protocol_member_leaves x ++ rest
    ≡ attributes_leaves x.attributes.items ++ (protocol_member_body_leaves x.body ++ (symbol kind.Semicolon x.semicolon ++ rest))
member_split x rest = three (attributes_leaves x.attributes.items) (protocol_member_body_leaves x.body) (symbol kind.Semicolon x.semicolon) rest

pub protocol_member_ahead : (p : Parser) (at : ℕ) (x : ProtocolMember) (rest : List Leaf) → Ahead p at (protocol_member_leaves x ++ rest)
    → Ahead p at (attributes_leaves x.attributes.items ++ (protocol_member_body_leaves x.body ++ (symbol kind.Semicolon x.semicolon ++ rest)))
protocol_member_ahead p at x rest a = subst (λ l. Ahead p at l) (member_split x rest) a

pub protocol_member_apart : (y : ProtocolMember) (ls : List Leaf) → Begins kind.RightBrace (protocol_member_leaves y ++ ls) → ⊥
protocol_member_apart y ls b =
    starts_other starts_member kind.RightBrace _ refl
    (attributes_start y.attributes.items _ (body_starts y.body (symbol kind.Semicolon y.semicolon ++ ls)))
    (subst (λ l. Begins kind.RightBrace l) (member_split y ls) b)

-- `compose` that is no name of a method
compose_method : (p : Parser) (at : ℕ) (s : Option Strictness) (n : Span) (request : Payload) (response : Option Response) (rest : List Leaf)
    → IsTextAt p at (codes "compose") → (IsKindAt p (at + 1) kind.LeftParenthesis → ⊥) → Ahead p at (optional strictness_leaves s ++ call_leaves (method n request response) rest) → ⊥
compose_method p at None n request response rest i j a = j (kind_at p (at + 1) _ _ (step p at _ _ a))
compose_method p at (Some (Strict s)) n request response rest i j a = differ p at (codes "compose") (codes "strict") s _ refl i a
compose_method p at (Some (Flexible s)) n request response rest i j a = differ p at (codes "compose") (codes "flexible") s _ refl i a

compose_event : (p : Parser) (at : ℕ) (s : Option Strictness) (arrow n : Span) (payload : Payload) (rest : List Leaf)
    → IsTextAt p at (codes "compose") → Ahead p at (optional strictness_leaves s ++ call_leaves (event arrow n payload) rest) → ⊥
compose_event p at None arrow n payload rest i a = false≢true (ap is_identifier (text_same p at (codes "compose") _ _ i a).0)
compose_event p at (Some (Strict s)) arrow n payload rest i a = differ p at (codes "compose") (codes "strict") s _ refl i a
compose_event p at (Some (Flexible s)) arrow n payload rest i a = differ p at (codes "compose") (codes "flexible") s _ refl i a

pub compose_ahead : (p : Parser) (at : ℕ) (x : ProtocolMemberBody) (rest : List Leaf) → IsTextAt p at (codes "compose") → (IsKindAt p (at + 1) kind.LeftParenthesis → ⊥)
    → Ahead p at (protocol_member_body_leaves x ++ rest) → (s : Span) × (path : Path) × Ahead p at (keyword (codes "compose") s ++ (path_leaves path ++ rest))
compose_ahead p at (body.Compose compose) rest i j a = (compose.keyword, compose.path, a)
compose_ahead p at (body.Method x) rest i j a = absurd (compose_method p at x.strictness x.name x.request x.response rest i j (subst (λ l. Ahead p at l) (body_split x rest) a))
compose_ahead p at (body.Event x) rest i j a = absurd (compose_event p at x.strictness x.arrow x.name x.payload rest i (subst (λ l. Ahead p at l) (event_split x rest) a))

-- anything else is a method or an event
pub call_ahead : (p : Parser) (at : ℕ) (x : ProtocolMemberBody) (rest : List Leaf) → (IsTextAt p at (codes "compose") × (IsKindAt p (at + 1) kind.LeftParenthesis → ⊥) → ⊥)
    → Ahead p at (protocol_member_body_leaves x ++ rest) → (s : Option Strictness) × (k : Call) × Ahead p at (optional strictness_leaves s ++ call_leaves k rest)
call_ahead p at (body.Compose compose) rest n a =
    absurd (n (text_ahead p at (codes "compose") compose.keyword _ a, λ i. false≢true (sym (ap is_identifier (kind_same p (at + 1) kind.LeftParenthesis _ _ i (step p at _ _ a))))))
call_ahead p at (body.Method x) rest n a = (x.strictness, method x.name x.request x.response, subst (λ l. Ahead p at l) (body_split x rest) a)
call_ahead p at (body.Event x) rest n a = (x.strictness, event x.arrow x.name x.payload, subst (λ l. Ahead p at l) (event_split x rest) a)

pub call_may : (k : Call) (rest : List Leaf) → BeginsMethod (call_leaves k rest)
call_may (method n request response) rest = inr (refl, refl)
call_may (event arrow n payload) rest = inl refl

pub event_ahead : (p : Parser) (at : ℕ) (k : Call) (rest : List Leaf) → IsKindAt p at kind.Arrow → Ahead p at (call_leaves k rest)
    → (arrow : Span) × (n : Span) × (payload : Payload) × Ahead p at (symbol kind.Arrow arrow ++ (name n ++ (payload_leaves payload ++ rest)))
event_ahead p at (method n request response) rest i a = absurd (false≢true (sym (ap is_identifier (kind_same p at kind.Arrow _ _ i a))))
event_ahead p at (event arrow n payload) rest i a = (arrow, n, payload, a)

pub method_ahead : (p : Parser) (at : ℕ) (k : Call) (rest : List Leaf) → (IsKindAt p at kind.Arrow → ⊥) → Ahead p at (call_leaves k rest)
    → (n : Span) × (request : Payload) × (response : Option Response) × Ahead p at (name n ++ (payload_leaves request ++ (optional response_leaves response ++ rest)))
method_ahead p at (method n request response) rest i a = (n, request, response, a)
method_ahead p at (event arrow n payload) rest i a = absurd (i (kind_at p at _ _ a))

-- before `(` stands the name of a method
abbrev is_parenthesis : WordKind → Bool
is_parenthesis kind.LeftParenthesis = true
is_parenthesis _ = false

no_parenthesis : (p : Parser) (at : ℕ) (rest : List Leaf) → BeginsMethod rest → IsKindAt p at kind.LeftParenthesis → Ahead p at rest → ⊥
no_parenthesis p at [] b i a = b
no_parenthesis p at (l ∷ []) b i a = b
no_parenthesis p at (l ∷ m ∷ rest) (inl e) i a = false≢true (ap is_parenthesis (sym e) ∙ ap is_parenthesis (kind_same p at kind.LeftParenthesis l _ i a))
no_parenthesis p at (l ∷ m ∷ rest) (inr e) i a = false≢true (ap is_parenthesis (sym e.0) ∙ ap is_parenthesis (kind_same p at kind.LeftParenthesis l _ i a))

pub name_ahead : (p : Parser) (at : ℕ) (o : Option Strictness) (rest : List Leaf) → IsKindAt p (at + 1) kind.LeftParenthesis → BeginsMethod rest
    → Ahead p at (optional strictness_leaves o ++ rest) → Ahead p at rest
name_ahead p at None rest i b a = a
name_ahead p at (Some (Strict s)) rest i b a = absurd (no_parenthesis p (at + 1) rest b i (step p at _ rest a))
name_ahead p at (Some (Flexible s)) rest i b a = absurd (no_parenthesis p (at + 1) rest b i (step p at _ rest a))

arrow_word : (w : WordKind) (b : Bool) → w ≡ kind.Arrow → (not (is_identifier w) || b) ≡ true
arrow_word w b e = ap (λ v. not (is_identifier v) || b) e

pub strictness_may : (p : Parser) (at : ℕ) (rest : List Leaf) → (IsKindAt p (at + 1) kind.LeftParenthesis → ⊥) → BeginsMethod rest → Ahead p at rest → NotWord strictness_words rest
strictness_may p at [] n b a = tt
strictness_may p at (l ∷ []) n b a = absurd b
strictness_may p at (l ∷ m ∷ rest) n (inl e) a = arrow_word l.word.kind _ e
strictness_may p at (l ∷ m ∷ rest) n (inr e) a = absurd (n (subst (λ k. IsKindAt p (at + 1) k) e.1 (kind_at p (at + 1) m rest (step p at l (m ∷ rest) a))))
