-- The full name by path of a declaration is the one that it is declared under.
use Rattle.std.specs.Prelude.{ℕ, ◌≡◌, List, [], ◌∷◌, ◌++◌, map, flat_map, codes}
use Rattle.std.proofs.Common.{ap, ◌∙◌, refl}
use Rattle.std.proofs.lemmas.List.{append-nil}
use Rattle.fidl_span.specs.declared.words.Span.{Span}
use Rattle.fidl_tree.specs.Leaf.{text_at}
use Rattle.fidl_tree.specs.Views.{declared_name, file_view}
use Rattle.fidl_tree.specs.declared.path.PathPart.{PathPart}
use Rattle.fidl_tree.specs.declared.file.File.{File}
use Rattle.fidl_tree.specs.declared.declaration.Declaration.{Declaration}
use Rattle.fidl_tree.specs.declared.declaration.DeclarationBody.{DeclarationBody}
use Rattle.fidl_tree.specs.declared.declaration.DeclarationBody.TheVariants.{Const, Alias, «Type» as Layout, Protocol, Service, Resource}
use Rattle.fidl_named.specs.Names.{part_text, library_of, name_span, full_name}
use Rattle.fidl_declarations.specs.declared.step.Step.TheVariants as step
use Rattle.fidl_declarations.specs.Forms.{dotted_step, name_by_path}

parts_same : (src : List ℕ) (parts : List PathPart) → flat_map (dotted_step src) (map step.Name (map (λ (p : PathPart). p.name) parts)) ≡ flat_map (part_text src) parts
parts_same src [] = refl
parts_same src (p ∷ parts) = ap (λ l. part_text src p ++ l) (parts_same src parts)

names_same : (body : DeclarationBody) → declared_name body ≡ name_span body
names_same (Const d) = refl
names_same (Alias d) = refl
names_same (Layout d) = refl
names_same (Protocol d) = refl
names_same (Service d) = refl
names_same (Resource d) = refl

pub full_names_same : (f : File) (d : Declaration) → name_by_path (file_view f) (step.Name (declared_name d.body) ∷ []) ≡ full_name f d
full_names_same f d =
    let src = f.src.now in
    let own = text_at src (declared_name d.body) in
    ap (λ l. (text_at src f.library.path.first ++ l) ++ codes "/" ++ (own ++ [])) (parts_same src f.library.path.rest.items)
    ∙ ap (λ l. library_of f ++ codes "/" ++ l) (append-nil own)
    ∙ ap (λ (s : Span). library_of f ++ codes "/" ++ text_at src s) (names_same d.body)
