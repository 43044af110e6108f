-- What is ahead in a file, item by item.
use Rattle.std.proofs.Common.{◌≡◌, ℕ, zero, suc, ◌<◌, Bool, true, false, List, [], ◌∷◌, ◌++◌, ◌⊎◌, inl, inr, Option, None, Some, codes, length, map, append_assoc, append-nil, refl, ap, sym, subst, ◌∙◌, arith, ◌≤◌}
use Rattle.std.proofs.lemmas.Bool.{false≢true}
use Rattle.std.proofs.lemmas.List.{length-drop}
use Rattle.std.proofs.Math.ListN.{drop_of_length-le}
use Rattle.fidl_span.specs.declared.words.WordKind.TheVariants as kind
use Rattle.fidl_tree.specs.Leaf.{Leaf, joined, symbol, keyword, optional}
use Rattle.fidl_tree.specs.Path.{path_leaves}
use Rattle.fidl_tree.specs.Attribute.{attributes_leaves}
use Rattle.fidl_tree.specs.Declaration.{declaration_leaves, declaration_body_leaves}
use Rattle.fidl_tree.specs.File.{file_leaves, library_leaves, import_leaves, import_alias_leaves}
use Rattle.fidl_tree.specs.declared.attribute.Attribute.{Attribute}
use Rattle.fidl_tree.specs.declared.declaration.Declaration.{Declaration}
use Rattle.fidl_tree.specs.declared.file.File.{File}
use Rattle.fidl_tree.specs.declared.file.Library.{Library}
use Rattle.fidl_tree.specs.declared.file.Import.{Import}
use Rattle.fidl_tree.specs.declared.file.ImportAlias.{ImportAlias}
use Rattle.fidl_parse.specs.declared.parser.Parser.{Parser}
use Rattle.fidl_parse.specs.Reading.{Reads, IsTextAt}
use Rattle.fidl_parse.specs.Completeness.{Ahead, row}
use Rattle.fidl_parse.specs.Suffixes.{behind_attributes, import_behind_attributes}
use Rattle.fidl_parse.specs.FollowSets.{Not, extends_attributes, extends_path}
use Rattle.fidl_parse.proofs.Ahead.{begins_not}
use Rattle.fidl_parse.proofs.Words.{text_ahead}
use Rattle.fidl_parse.proofs.Declarations.{no_using, declaration_begins}

pub library_ahead : (p : Parser) (at : ℕ) (x : Library) (rest : List Leaf) → Ahead p at (library_leaves x ++ rest)
    → Ahead p at (attributes_leaves x.attributes.items ++ (keyword (codes "library") x.keyword ++ (path_leaves x.path ++ (symbol kind.Semicolon x.semicolon ++ rest))))
library_ahead p at x rest a = simp append_assoc at a

pub import_ahead : (p : Parser) (at : ℕ) (x : Import) (rest : List Leaf) → Ahead p at (import_behind_attributes x ++ rest)
    → Ahead p at (keyword (codes "using") x.keyword ++ (path_leaves x.path ++ (optional import_alias_leaves x.alias ++ (symbol kind.Semicolon x.semicolon ++ rest))))
import_ahead p at x rest a = simp append_assoc at a

pub alias_may : (o : Option ImportAlias) (x : Import) (rest : List Leaf) → Not extends_path (optional import_alias_leaves o ++ (symbol kind.Semicolon x.semicolon ++ rest))
alias_may None x rest = refl
alias_may (Some y) x rest = refl

-- nothing is behind a file
pub file_ahead : (p : Parser) (at : ℕ) (x : File) (rest : List Leaf) → rest ≡ [] → Ahead p at (file_leaves x ++ rest)
    → Ahead p at (library_leaves x.library ++ (row import_leaves x.imports.items ++ row declaration_leaves x.declarations.items))
file_ahead p at x rest e a =
    let b = subst (λ l. Ahead p at (file_leaves x ++ l)) e a in
    let c = subst (λ l. Ahead p at l) (append-nil (file_leaves x)) b in
    subst (λ l. Ahead p at l) (append_assoc (library_leaves x.library) (row import_leaves x.imports.items) (row declaration_leaves x.declarations.items)) c

pub nothing_ahead : (p : Parser) (at : ℕ) (rest : List Leaf) → rest ≡ [] → length p.words.now ≤ at → Ahead p at rest
nothing_ahead p at rest e l = subst (λ r. Ahead p at r) (sym e) (record { stand = drop_of_length-le p.words.now l; texts = tt })

pub file_start : (p : Parser) (a b : ℕ) (library : List Leaf) (is : List Import) (ds : List Declaration) → is ≡ [] → ds ≡ [] → Reads p a b library
    → Reads p a b (library ++ joined (map import_leaves is) ++ joined (map declaration_leaves ds))
file_start p a b library is ds e f r =
    subst (λ l. Reads p a b (library ++ joined (map import_leaves l) ++ joined (map declaration_leaves ds))) (sym e)
    (subst (λ l. Reads p a b (library ++ [] ++ joined (map declaration_leaves l))) (sym f)
    (subst (λ l. Reads p a b l) (sym (append-nil (library ++ []) ∙ append-nil library)) r))

-- an import or a declaration behind its attributes, and what is behind it
pub data Item : Type 0 where
  an_import : Import → List Import → List Declaration → Item
  a_declaration : Declaration → List Declaration → Item

abbrev pub item_leaves : Item → List Leaf
item_leaves (an_import i is ds) = import_behind_attributes i ++ (row import_leaves is ++ row declaration_leaves ds)
item_leaves (a_declaration d ds) = behind_attributes d ++ row declaration_leaves ds

abbrev pub IsDeclaration : Item → Type 0
IsDeclaration (an_import i is ds) = ⊥
IsDeclaration (a_declaration d ds) = Unit {0}

pub record ItemAhead (p : Parser) (at : ℕ) (is : List Import) : Type 0 where
  pub attributes : List Attribute
  pub item : Item
  pub only : is ≡ [] → IsDeclaration item
  pub ahead : Ahead p at (attributes_leaves attributes ++ item_leaves item)

declaration_apart : (as' body semicolon rest : List Leaf) → ((as' ++ body) ++ semicolon) ++ rest ≡ as' ++ ((body ++ semicolon) ++ rest)
declaration_apart as' body semicolon rest = simp append_assoc

import_apart : (as' word path alias semicolon is ds : List Leaf) → (((((as' ++ word) ++ path) ++ alias) ++ semicolon) ++ is) ++ ds ≡ as' ++ ((((word ++ path) ++ alias) ++ semicolon) ++ (is ++ ds))
import_apart as' word path alias semicolon is ds = simp append_assoc

abbrev is_nil : {X : Type 0} → List X → Bool
is_nil [] = true
is_nil (x ∷ xs) = false

no_end : (p : Parser) (at : ℕ) → at < length p.words.now → Ahead p at [] → ⊥
no_end p at l a = let e = ap length a.stand in let f = length-drop at p.words.now in absurd (omega (arith, e, f, l))

pub item_ahead : (p : Parser) (at : ℕ) (is : List Import) (ds : List Declaration) → at < length p.words.now
    → Ahead p at (row import_leaves is ++ row declaration_leaves ds) → ItemAhead p at is
item_ahead p at [] [] l a = absurd (no_end p at l a)
item_ahead p at [] (d ∷ ds) l a = record {
  attributes = d.attributes.items;
  item = a_declaration d ds;
  only = λ e. tt;
  ahead = subst (λ l. Ahead p at l) (declaration_apart (attributes_leaves d.attributes.items) (declaration_body_leaves d.body) (symbol kind.Semicolon d.semicolon) (row declaration_leaves ds)) a;
}
item_ahead p at (i ∷ is) ds l a = record {
  attributes = i.attributes.items;
  item = an_import i is ds;
  only = λ e. false≢true (ap is_nil e);
  ahead = subst (λ l. Ahead p at l) (import_apart (attributes_leaves i.attributes.items) (keyword (codes "using") i.keyword) (path_leaves i.path) (optional import_alias_leaves i.alias) (symbol kind.Semicolon i.semicolon) (row import_leaves is) (row declaration_leaves ds)) a;
}

behind_apart : (d : Declaration) (rest : List Leaf) → behind_attributes d ++ rest ≡ declaration_body_leaves d.body ++ (symbol kind.Semicolon d.semicolon ++ rest)
behind_apart d rest = append_assoc (declaration_body_leaves d.body) (symbol kind.Semicolon d.semicolon) rest

pub item_may : (t : Item) → Not extends_attributes (item_leaves t)
item_may (an_import i is ds) = refl
item_may (a_declaration d ds) =
    subst (λ l. Not extends_attributes l) (sym (behind_apart d (row declaration_leaves ds)))
    (begins_not extends_attributes kind.Identifier _ refl (declaration_begins d.body (symbol kind.Semicolon d.semicolon ++ row declaration_leaves ds)))

pub import_item : (p : Parser) (at : ℕ) (t : Item) → IsTextAt p at (codes "using") → Ahead p at (item_leaves t)
    → (i : Import) × (is : List Import) × (ds : List Declaration) × Ahead p at (import_behind_attributes i ++ (row import_leaves is ++ row declaration_leaves ds))
import_item p at (an_import i is ds) u a = (i, is, ds, a)
import_item p at (a_declaration d ds) u a =
    absurd (no_using p at d.body _ u (subst (λ l. Ahead p at l) (behind_apart d (row declaration_leaves ds)) a))

pub declaration_item : (p : Parser) (at : ℕ) (t : Item) → (IsTextAt p at (codes "using") → ⊥) ⊎ IsDeclaration t → Ahead p at (item_leaves t)
    → (d : Declaration) × (ds : List Declaration) × Ahead p at (behind_attributes d ++ row declaration_leaves ds)
declaration_item p at (an_import i is ds) (inl n) a = absurd (n (text_ahead p at (codes "using") i.keyword _ a))
declaration_item p at (an_import i is ds) (inr n) a = absurd n
declaration_item p at (a_declaration d ds) n a = (d, ds, a)

-- no import stands where a declaration was read, or where `using` is not next
pub told : {U D : Type 0} (n : ℕ) → ((n ≡ 0) × U → ⊥) → ((n ≡ 0 → ⊥) → D) → (U → ⊥) ⊎ D
told zero e k = inl (λ u. e (refl, u))
told (suc n) e k = inr (k (λ z. absurd (omega (arith, z))))
