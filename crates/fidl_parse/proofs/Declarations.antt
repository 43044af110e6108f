-- What declarations begin with, and which of them stands ahead.
use Rattle.std.proofs.Common.{◌≡◌, ℕ, false, List, ◌∷◌, ◌++◌, Option, None, Some, codes, append_assoc, refl, ap, sym, subst, ◌∙◌}
use Rattle.fidl_span.specs.declared.words.Span.{Span}
use Rattle.fidl_span.specs.declared.words.WordKind.TheVariants as kind
use Rattle.fidl_tree.specs.Leaf.{Leaf, symbol, name, keyword, optional}
use Rattle.fidl_tree.specs.Value.{value_leaves}
use Rattle.fidl_tree.specs.Keyword.{openness_leaves}
use Rattle.fidl_tree.specs.TypeConstructor.{type_leaves, member_leaves}
use Rattle.fidl_tree.specs.Protocol.{protocol_member_leaves}
use Rattle.fidl_tree.specs.Declaration.{declaration_body_leaves, const_leaves, alias_leaves, type_declaration_leaves, protocol_leaves, service_leaves, resource_definition_leaves, properties_leaves, property_leaves}
use Rattle.fidl_tree.specs.declared.keyword.Openness.{Openness}
use Rattle.fidl_tree.specs.declared.keyword.Openness.TheVariants.{Open, Ajar, Closed}
use Rattle.fidl_tree.specs.declared.declaration.DeclarationBody.{DeclarationBody}
use Rattle.fidl_tree.specs.declared.declaration.DeclarationBody.TheVariants as body
use Rattle.fidl_tree.specs.declared.declaration.ConstDeclaration.{ConstDeclaration}
use Rattle.fidl_tree.specs.declared.declaration.AliasDeclaration.{AliasDeclaration}
use Rattle.fidl_tree.specs.declared.declaration.TypeDeclaration.{TypeDeclaration}
use Rattle.fidl_tree.specs.declared.declaration.ProtocolDeclaration.{ProtocolDeclaration}
use Rattle.fidl_tree.specs.declared.declaration.ServiceDeclaration.{ServiceDeclaration}
use Rattle.fidl_tree.specs.declared.declaration.ResourceDefinition.{ResourceDefinition}
use Rattle.fidl_tree.specs.declared.declaration.Properties.{Properties}
use Rattle.fidl_tree.specs.declared.declaration.Property.{Property}
use Rattle.fidl_parse.specs.declared.parser.Parser.{Parser}
use Rattle.fidl_parse.specs.Reading.{IsTextAt}
use Rattle.fidl_parse.specs.Completeness.{Ahead, row}
use Rattle.fidl_parse.specs.FollowSets.{Begins, same_text}
use Rattle.fidl_parse.proofs.Follow.{starts_other}
use Rattle.fidl_parse.proofs.Words.{differ, text_ahead}
use Rattle.fidl_parse.proofs.TypeAhead.{starts_member}

-- the parts of each declaration, one after another

pub const_ahead : (p : Parser) (at : ℕ) (x : ConstDeclaration) (rest : List Leaf) → Ahead p at (const_leaves x ++ rest)
    → Ahead p at (keyword (codes "const") x.keyword ++ (name x.name ++ (type_leaves x.constructor ++ (symbol kind.Equals x.equals ++ (value_leaves x.value ++ rest)))))
const_ahead p at x rest a = simp append_assoc at a

protocol_split : (x : ProtocolDeclaration) (rest : List Leaf) → protocol_leaves x ++ rest
    ≡ optional openness_leaves x.openness ++ (keyword (codes "protocol") x.keyword ++ (name x.name ++ (symbol kind.LeftBrace x.left ++ (row protocol_member_leaves x.members.items ++ (symbol kind.RightBrace x.right ++ rest)))))
protocol_split x rest = simp append_assoc

pub protocol_ahead : (p : Parser) (at : ℕ) (x : ProtocolDeclaration) (rest : List Leaf) → Ahead p at (protocol_leaves x ++ rest)
    → Ahead p at (optional openness_leaves x.openness ++ (keyword (codes "protocol") x.keyword ++ (name x.name ++ (symbol kind.LeftBrace x.left ++ (row protocol_member_leaves x.members.items ++ (symbol kind.RightBrace x.right ++ rest))))))
protocol_ahead p at x rest a = subst (λ l. Ahead p at l) (protocol_split x rest) a

pub service_ahead : (p : Parser) (at : ℕ) (x : ServiceDeclaration) (rest : List Leaf) → Ahead p at (service_leaves x ++ rest)
    → Ahead p at (keyword (codes "service") x.keyword ++ (name x.name ++ (symbol kind.LeftBrace x.left ++ (row member_leaves x.members.items ++ (symbol kind.RightBrace x.right ++ rest)))))
service_ahead p at x rest a = simp append_assoc at a

apart : (k n c : Leaf) (ts ls ps rs rest : List Leaf)
    → ((k ∷ n ∷ c ∷ ts) ++ ((ls ++ ps) ++ rs)) ++ rest ≡ k ∷ n ∷ c ∷ (ts ++ (ls ++ (ps ++ (rs ++ rest))))
apart k n c ts ls ps rs rest =
    ap (λ l. k ∷ n ∷ c ∷ l) (append_assoc ts ((ls ++ ps) ++ rs) rest ∙ ap (λ l. ts ++ l) (append_assoc (ls ++ ps) rs rest ∙ append_assoc ls ps (rs ++ rest)))

pub resource_definition_ahead : (p : Parser) (at : ℕ) (x : ResourceDefinition) (rest : List Leaf) → Ahead p at (resource_definition_leaves x ++ rest)
    → Ahead p at (keyword (codes "resource_definition") x.keyword ++ (name x.name ++ (symbol kind.Colon x.colon ++ (type_leaves x.constructor ++ (symbol kind.LeftBrace x.left ++ (properties_leaves x.properties ++ (symbol kind.RightBrace x.right ++ rest)))))))
resource_definition_ahead p at x rest a =
    subst (λ l. Ahead p at l) (apart _ _ _ (type_leaves x.constructor) (symbol kind.LeftBrace x.left) (properties_leaves x.properties) (symbol kind.RightBrace x.right) rest) a

pub properties_ahead : (p : Parser) (at : ℕ) (x : Properties) (rest : List Leaf) → Ahead p at (properties_leaves x ++ rest)
    → Ahead p at (keyword (codes "properties") x.keyword ++ (symbol kind.LeftBrace x.left ++ (row property_leaves x.members.items ++ (symbol kind.RightBrace x.right ++ (symbol kind.Semicolon x.semicolon ++ rest)))))
properties_ahead p at x rest a = simp append_assoc at a

pub property_ahead : (p : Parser) (at : ℕ) (x : Property) (rest : List Leaf) → Ahead p at (property_leaves x ++ rest)
    → Ahead p at (name x.name ++ (type_leaves x.constructor ++ (symbol kind.Semicolon x.semicolon ++ rest)))
property_ahead p at x rest a = simp append_assoc at a

pub property_apart : (y : Property) (ls : List Leaf) → Begins kind.RightBrace (property_leaves y ++ ls) → ⊥
property_apart y ls b = starts_other starts_member kind.RightBrace (property_leaves y ++ ls) refl refl b

-- a protocol begins with no other declaration's word
no_protocol : (p : Parser) (at : ℕ) (t : List ℕ) (o : Option Openness) (s : Span) (ls : List Leaf)
    → same_text t (codes "open") ≡ false → same_text t (codes "ajar") ≡ false → same_text t (codes "closed") ≡ false → same_text t (codes "protocol") ≡ false
    → IsTextAt p at t → Ahead p at (optional openness_leaves o ++ (keyword (codes "protocol") s ++ ls)) → ⊥
no_protocol p at t None s ls e f g h i a = differ p at t (codes "protocol") s ls h i a
no_protocol p at t (Some (Open w)) s ls e f g h i a = differ p at t (codes "open") w _ e i a
no_protocol p at t (Some (Ajar w)) s ls e f g h i a = differ p at t (codes "ajar") w _ f i a
no_protocol p at t (Some (Closed w)) s ls e f g h i a = differ p at t (codes "closed") w _ g i a

pub const_body_ahead : (p : Parser) (at : ℕ) (x : DeclarationBody) (rest : List Leaf) → IsTextAt p at (codes "const") → Ahead p at (declaration_body_leaves x ++ rest) → (d : ConstDeclaration) × Ahead p at (const_leaves d ++ rest)
const_body_ahead p at (body.Const d) rest i a = (d, a)
const_body_ahead p at (body.Alias d) rest i a = absurd (differ p at (codes "const") (codes "alias") d.keyword _ refl i a)
const_body_ahead p at (body.Type d) rest i a = absurd (differ p at (codes "const") (codes "type") d.keyword _ refl i a)
const_body_ahead p at (body.Service d) rest i a = absurd (differ p at (codes "const") (codes "service") d.keyword _ refl i a)
const_body_ahead p at (body.Resource d) rest i a = absurd (differ p at (codes "const") (codes "resource_definition") d.keyword _ refl i a)
const_body_ahead p at (body.Protocol d) rest i a = absurd (no_protocol p at (codes "const") d.openness d.keyword _ refl refl refl refl i (protocol_ahead p at d rest a))

pub alias_body_ahead : (p : Parser) (at : ℕ) (x : DeclarationBody) (rest : List Leaf) → IsTextAt p at (codes "alias") → Ahead p at (declaration_body_leaves x ++ rest) → (d : AliasDeclaration) × Ahead p at (alias_leaves d ++ rest)
alias_body_ahead p at (body.Const d) rest i a = absurd (differ p at (codes "alias") (codes "const") d.keyword _ refl i a)
alias_body_ahead p at (body.Alias d) rest i a = (d, a)
alias_body_ahead p at (body.Type d) rest i a = absurd (differ p at (codes "alias") (codes "type") d.keyword _ refl i a)
alias_body_ahead p at (body.Service d) rest i a = absurd (differ p at (codes "alias") (codes "service") d.keyword _ refl i a)
alias_body_ahead p at (body.Resource d) rest i a = absurd (differ p at (codes "alias") (codes "resource_definition") d.keyword _ refl i a)
alias_body_ahead p at (body.Protocol d) rest i a = absurd (no_protocol p at (codes "alias") d.openness d.keyword _ refl refl refl refl i (protocol_ahead p at d rest a))

pub type_declaration_body_ahead : (p : Parser) (at : ℕ) (x : DeclarationBody) (rest : List Leaf) → IsTextAt p at (codes "type") → Ahead p at (declaration_body_leaves x ++ rest) → (d : TypeDeclaration) × Ahead p at (type_declaration_leaves d ++ rest)
type_declaration_body_ahead p at (body.Const d) rest i a = absurd (differ p at (codes "type") (codes "const") d.keyword _ refl i a)
type_declaration_body_ahead p at (body.Alias d) rest i a = absurd (differ p at (codes "type") (codes "alias") d.keyword _ refl i a)
type_declaration_body_ahead p at (body.Type d) rest i a = (d, a)
type_declaration_body_ahead p at (body.Service d) rest i a = absurd (differ p at (codes "type") (codes "service") d.keyword _ refl i a)
type_declaration_body_ahead p at (body.Resource d) rest i a = absurd (differ p at (codes "type") (codes "resource_definition") d.keyword _ refl i a)
type_declaration_body_ahead p at (body.Protocol d) rest i a = absurd (no_protocol p at (codes "type") d.openness d.keyword _ refl refl refl refl i (protocol_ahead p at d rest a))

pub service_body_ahead : (p : Parser) (at : ℕ) (x : DeclarationBody) (rest : List Leaf) → IsTextAt p at (codes "service") → Ahead p at (declaration_body_leaves x ++ rest) → (d : ServiceDeclaration) × Ahead p at (service_leaves d ++ rest)
service_body_ahead p at (body.Const d) rest i a = absurd (differ p at (codes "service") (codes "const") d.keyword _ refl i a)
service_body_ahead p at (body.Alias d) rest i a = absurd (differ p at (codes "service") (codes "alias") d.keyword _ refl i a)
service_body_ahead p at (body.Type d) rest i a = absurd (differ p at (codes "service") (codes "type") d.keyword _ refl i a)
service_body_ahead p at (body.Service d) rest i a = (d, a)
service_body_ahead p at (body.Resource d) rest i a = absurd (differ p at (codes "service") (codes "resource_definition") d.keyword _ refl i a)
service_body_ahead p at (body.Protocol d) rest i a = absurd (no_protocol p at (codes "service") d.openness d.keyword _ refl refl refl refl i (protocol_ahead p at d rest a))

pub resource_body_ahead : (p : Parser) (at : ℕ) (x : DeclarationBody) (rest : List Leaf) → IsTextAt p at (codes "resource_definition") → Ahead p at (declaration_body_leaves x ++ rest) → (d : ResourceDefinition) × Ahead p at (resource_definition_leaves d ++ rest)
resource_body_ahead p at (body.Const d) rest i a = absurd (differ p at (codes "resource_definition") (codes "const") d.keyword _ refl i a)
resource_body_ahead p at (body.Alias d) rest i a = absurd (differ p at (codes "resource_definition") (codes "alias") d.keyword _ refl i a)
resource_body_ahead p at (body.Type d) rest i a = absurd (differ p at (codes "resource_definition") (codes "type") d.keyword _ refl i a)
resource_body_ahead p at (body.Service d) rest i a = absurd (differ p at (codes "resource_definition") (codes "service") d.keyword _ refl i a)
resource_body_ahead p at (body.Resource d) rest i a = (d, a)
resource_body_ahead p at (body.Protocol d) rest i a = absurd (no_protocol p at (codes "resource_definition") d.openness d.keyword _ refl refl refl refl i (protocol_ahead p at d rest a))

pub protocol_body_ahead : (p : Parser) (at : ℕ) (x : DeclarationBody) (rest : List Leaf)
    → (IsTextAt p at (codes "const") → ⊥) → (IsTextAt p at (codes "alias") → ⊥) → (IsTextAt p at (codes "type") → ⊥) → (IsTextAt p at (codes "service") → ⊥) → (IsTextAt p at (codes "resource_definition") → ⊥)
    → Ahead p at (declaration_body_leaves x ++ rest) → (d : ProtocolDeclaration) × Ahead p at (protocol_leaves d ++ rest)
protocol_body_ahead p at (body.Const d) rest h i j k l a = absurd (h (text_ahead p at (codes "const") d.keyword _ a))
protocol_body_ahead p at (body.Alias d) rest h i j k l a = absurd (i (text_ahead p at (codes "alias") d.keyword _ a))
protocol_body_ahead p at (body.Type d) rest h i j k l a = absurd (j (text_ahead p at (codes "type") d.keyword _ a))
protocol_body_ahead p at (body.Service d) rest h i j k l a = absurd (k (text_ahead p at (codes "service") d.keyword _ a))
protocol_body_ahead p at (body.Resource d) rest h i j k l a = absurd (l (text_ahead p at (codes "resource_definition") d.keyword _ a))
protocol_body_ahead p at (body.Protocol d) rest h i j k l a = (d, a)

-- no declaration begins with `using`
pub no_using : (p : Parser) (at : ℕ) (x : DeclarationBody) (rest : List Leaf) → IsTextAt p at (codes "using") → Ahead p at (declaration_body_leaves x ++ rest) → ⊥
no_using p at (body.Const d) rest i a = differ p at (codes "using") (codes "const") d.keyword _ refl i a
no_using p at (body.Alias d) rest i a = differ p at (codes "using") (codes "alias") d.keyword _ refl i a
no_using p at (body.Type d) rest i a = differ p at (codes "using") (codes "type") d.keyword _ refl i a
no_using p at (body.Service d) rest i a = differ p at (codes "using") (codes "service") d.keyword _ refl i a
no_using p at (body.Resource d) rest i a = differ p at (codes "using") (codes "resource_definition") d.keyword _ refl i a
no_using p at (body.Protocol d) rest i a = no_protocol p at (codes "using") d.openness d.keyword _ refl refl refl refl i (protocol_ahead p at d rest a)

protocol_begins : (o : Option Openness) (s : Span) (ls : List Leaf) → Begins kind.Identifier (optional openness_leaves o ++ (keyword (codes "protocol") s ++ ls))
protocol_begins None s ls = refl
protocol_begins (Some (Open w)) s ls = refl
protocol_begins (Some (Ajar w)) s ls = refl
protocol_begins (Some (Closed w)) s ls = refl

pub declaration_begins : (x : DeclarationBody) (rest : List Leaf) → Begins kind.Identifier (declaration_body_leaves x ++ rest)
declaration_begins (body.Const d) rest = refl
declaration_begins (body.Alias d) rest = refl
declaration_begins (body.Type d) rest = refl
declaration_begins (body.Service d) rest = refl
declaration_begins (body.Resource d) rest = refl
declaration_begins (body.Protocol d) rest = subst (λ l. Begins kind.Identifier l) (sym (protocol_split d rest)) (protocol_begins d.openness d.keyword _)
