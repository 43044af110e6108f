-- The full names of methods, as the code puts them together.
use Rattle.std.proofs.Common.{◌≡◌, ◌∙◌, ℕ, List, [], ◌∷◌, ◌++◌, map, refl, sym, ap}
use Rattle.std.specs.Prelude.{flat_map, codes}
use Rattle.std.proofs.lemmas.List.{append-nil, append_assoc}
use Rattle.fidl_span.specs.declared.words.Span.{Span}
use Rattle.fidl_tree.specs.Leaf.{text_at}
use Rattle.fidl_tree.specs.Views.{file_view}
use Rattle.fidl_tree.specs.declared.path.PathPart.{PathPart}
use Rattle.fidl_tree.specs.declared.file.File.{File}
use Rattle.fidl_tree.specs.Syntax as plain
use Rattle.fidl_named.specs.Names.{part_text}
use Rattle.fidl_declarations.specs.declared.step.Step.TheVariants as step
use Rattle.fidl_declarations.specs.Forms.{dotted_step, steps_text, library_steps, name_by_path}
use Rattle.fidl_method_rules.specs.Methods.{named_in}

parts_same : (src : List ℕ) (parts : List PathPart) → flat_map (dotted_step src) (map step.Name (map (λ (p : PathPart). p.name) parts)) ≡ flat_map (part_text src) parts
parts_same src [] = refl
parts_same src (p ∷ parts) = ap (λ l. part_text src p ++ l) (parts_same src parts)

-- the library's name, a slash and a name
declared_text : (f : File) (name : Span) → ((text_at f.src.now f.library.path.first ++ flat_map (part_text f.src.now) f.library.path.rest.items) ++ codes "/") ++ text_at f.src.now name ≡ name_by_path (file_view f) (step.Name name ∷ [])
declared_text f name =
    let src = f.src.now in
    let first = text_at src f.library.path.first in
    ap (λ l. ((first ++ l) ++ codes "/") ++ text_at src name) (sym (parts_same src f.library.path.rest.items))
    ∙ ap (λ l. ((first ++ flat_map (dotted_step src) (map step.Name (map (λ (p : PathPart). p.name) f.library.path.rest.items))) ++ codes "/") ++ l) (sym (append-nil (text_at src name)))

-- with the text of a method's name, what is called so in a protocol is the method
pub named_by_path : (f : plain.File) (protocol method : Span) → named_in f protocol (text_at f.source method) ≡ name_by_path f (step.Name protocol ∷ step.Name method ∷ [])
named_by_path f protocol method =
    let library = steps_text f.source (library_steps f) ++ codes "/" in
    let p = text_at f.source protocol in
    let m = text_at f.source method in
    ap (λ l. ((library ++ l) ++ codes ".") ++ m) (append-nil p)
    ∙ append_assoc (library ++ p) (codes ".") m
    ∙ append_assoc library p (codes "." ++ m)
    ∙ ap (λ l. library ++ (p ++ l)) (sym (append-nil (codes "." ++ m)))

-- the same, step by step
pub pushed_text : (f : File) (name : Span) (empty one two three four first own : List ℕ) (parts : List PathPart) → empty ≡ [] → first ≡ text_at f.src.now f.library.path.first → one ≡ empty ++ first → parts ≡ f.library.path.rest.items
    → two ≡ one ++ flat_map (part_text f.src.now) parts → three ≡ two ++ codes "/" → own ≡ text_at f.src.now name → four ≡ three ++ own → four ≡ name_by_path (file_view f) (step.Name name ∷ [])
pushed_text f name empty one two three four first own parts none its_first begun its_parts longer slash its_own all =
    let src = f.src.now in
    let one_is : one ≡ text_at src f.library.path.first = begun ∙ ap (λ l. l ++ first) none ∙ its_first in
    let two_is : two ≡ text_at src f.library.path.first ++ flat_map (part_text src) f.library.path.rest.items = longer ∙ ap (λ l. l ++ flat_map (part_text src) parts) one_is ∙ ap (λ (l : List PathPart). text_at src f.library.path.first ++ flat_map (part_text src) l) its_parts in
    all ∙ ap (λ l. l ++ own) (slash ∙ ap (λ l. l ++ codes "/") two_is)
    ∙ ap (λ l. ((text_at src f.library.path.first ++ flat_map (part_text src) f.library.path.rest.items) ++ codes "/") ++ l) its_own
    ∙ declared_text f name
