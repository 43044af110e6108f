-- A file with one import or one declaration more.
use Rattle.std.proofs.Common.{◌≡◌, ℕ, List, [], ◌∷◌, ◌++◌, map, length, sym, ap, append_assoc, append-nil, subst, ◌∙◌}
use Rattle.std.proofs.lemmas.List.{nil_from_length}
use Rattle.fidl_tree.specs.Leaf.{Leaf, joined}
use Rattle.fidl_tree.specs.File.{import_leaves}
use Rattle.fidl_tree.specs.Declaration.{declaration_leaves}
use Rattle.fidl_tree.specs.declared.file.Import.{Import}
use Rattle.fidl_tree.specs.declared.declaration.Declaration.{Declaration}
use Rattle.fidl_parse.specs.declared.parser.Parser.{Parser}
use Rattle.fidl_parse.specs.Reading.{Reads}
use Rattle.fidl_parse.proofs.Joins.{joined_push, reads_join}

last_import : (front : List Leaf) (xs : List Import) (x : Import)
    → (front ++ joined (map import_leaves xs) ++ []) ++ import_leaves x ≡ front ++ joined (map import_leaves (xs ++ x ∷ [])) ++ []
last_import front xs x =
    ap (λ l. l ++ import_leaves x) (append-nil (front ++ joined (map import_leaves xs)))
    ∙ (append_assoc front (joined (map import_leaves xs)) (import_leaves x)
    ∙ (ap (λ l. front ++ l) (sym (joined_push import_leaves xs x))
    ∙ sym (append-nil (front ++ joined (map import_leaves (xs ++ x ∷ []))))))

-- an import more, where no declaration is read yet
pub import_push : (p : Parser) (a b c : ℕ) (front : List Leaf) (xs : List Import) (x : Import) (ds : List Declaration)
    → length ds ≡ 0 → Reads p a b (front ++ joined (map import_leaves xs) ++ joined (map declaration_leaves ds)) → Reads p b c (import_leaves x)
    → Reads p a c (front ++ joined (map import_leaves (xs ++ x ∷ [])) ++ joined (map declaration_leaves ds))
import_push p a b c front xs x ds empty r s =
    let none = nil_from_length ds empty in
    let before = subst (λ l. Reads p a b (front ++ joined (map import_leaves xs) ++ joined (map declaration_leaves l))) none r in
    let all = subst (λ l. Reads p a c l) (last_import front xs x) (reads_join p a b c (front ++ joined (map import_leaves xs) ++ []) (import_leaves x) before s) in
    subst (λ l. Reads p a c (front ++ joined (map import_leaves (xs ++ x ∷ [])) ++ joined (map declaration_leaves l))) (sym none) all

last_declaration : (front imports : List Leaf) (ds : List Declaration) (d : Declaration)
    → (front ++ imports ++ joined (map declaration_leaves ds)) ++ declaration_leaves d ≡ front ++ imports ++ joined (map declaration_leaves (ds ++ d ∷ []))
last_declaration front imports ds d =
    append_assoc (front ++ imports) (joined (map declaration_leaves ds)) (declaration_leaves d)
    ∙ ap (λ l. front ++ imports ++ l) (sym (joined_push declaration_leaves ds d))

-- a declaration more
pub declaration_push : (p : Parser) (a b c : ℕ) (front imports : List Leaf) (ds : List Declaration) (d : Declaration)
    → Reads p a b (front ++ imports ++ joined (map declaration_leaves ds)) → Reads p b c (declaration_leaves d)
    → Reads p a c (front ++ imports ++ joined (map declaration_leaves (ds ++ d ∷ [])))
declaration_push p a b c front imports ds d r s =
    subst (λ l. Reads p a c l) (last_declaration front imports ds d)
    (reads_join p a b c (front ++ imports ++ joined (map declaration_leaves ds)) (declaration_leaves d) r s)
