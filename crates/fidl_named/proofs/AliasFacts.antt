-- The declarations of ids, what names there mean, and what follows an alias.
use Rattle.std.proofs.Common.{◌≡◌, ◌<◌, ℕ, List, [], ◌∷◌, Option, Some, length, get_or, map, refl, ap, sym, subst, ◌∙◌, arith}
use Rattle.std.specs.Prelude.{slice_get}
use Rattle.std.specs.Option.{option_map}
use Rattle.std.proofs.Math.ListN.{length-map}
use Rattle.std.proofs.lemmas.Option.{slice_get_within, slice_get-map, slice_get_read, same_Some}
use Rattle.fidl_tree.specs.Leaf.{text_at}
use Rattle.fidl_tree.specs.Views.{path_view}
use Rattle.fidl_tree.specs.declared.path.Path.{Path}
use Rattle.fidl_tree.specs.declared.path.PathPart.{PathPart}
use Rattle.fidl_tree.specs.declared.file.File.{File}
use Rattle.fidl_tree.specs.declared.declaration.AliasDeclaration.{AliasDeclaration}
use Rattle.fidl_named.specs.declared.place.DeclarationId.{DeclarationId}
use Rattle.fidl_named.specs.declared.meaning.Wanted.{Wanted}
use Rattle.fidl_named.specs.declared.meaning.Predeclared.TheVariants as name
use Rattle.fidl_named.specs.declared.meaning.Meaning.{Meaning}
use Rattle.fidl_named.specs.Meanings.{components, declaration}
use Rattle.fidl_named.specs.Paths.{texts}
use Rattle.fidl_named.specs.Aliases.{Wants, by_itself, count, argument, IsAliasAt, Follows, itself, stays, IsEnd}
use Rattle.fidl_named.specs.Aliases.{own_end}
use Rattle.fidl_named.specs.FullNames.{HasDeclaration}

-- an element by what it and its neighbour in another list give
pub seen_at : {A B C : Type 0} (g : A → C) (v : B → C) (xs : List A) (ys : List B) (i : ℕ) (x : A) (y : B) → map g xs ≡ map v ys → slice_get ys i ≡ Some y → x ≡ get_or xs i x → g x ≡ v y
seen_at g v xs ys i x y same at is =
    let there : slice_get (map g xs) i ≡ Some (v y) = ap (λ l. slice_get l i) same ∙ slice_get-map v ys i ∙ ap (option_map v) at in
    let within = slice_get_within (map g xs) i (v y) there in
    let lt : i < length xs = omega (arith, within, length-map xs g) in
    let here : slice_get (map g xs) i ≡ Some (g x) = slice_get-map g xs i ∙ ap (option_map g) (slice_get_read xs (length xs) i x refl lt is) in
    same_Some (g x) (v y) (sym here ∙ there)

pub alias_id : (fs : List File) (p : DeclarationId) (f : File) (a : AliasDeclaration) → IsAliasAt fs p f a → HasDeclaration fs p
alias_id fs p f a h = record { file = f; declaration = h.declaration; file_at = h.file_at; stands = h.stands }

-- the file of an id, and that the declaration is within it
module _ (fs : List File) (p : DeclarationId) (f : File) (h : HasDeclaration fs p) (at : slice_get fs p.file ≡ Some f) where
  file_is : h.file ≡ f
  file_is = same_Some h.file f (sym h.file_at ∙ at)

  pub id_within : p.index < length f.declarations.items
  id_within = subst (λ (g : File). p.index < length g.declarations.items) file_is (slice_get_within h.file.declarations.items p.index h.declaration h.stands)

-- a place wants one kind
pub one_wanted : {X : Type 0} (IsHead : X → Type 0) (of : Option X) (a b : Wanted) → Wants IsHead of a → Wants IsHead of b → a ≡ b
one_wanted IsHead of a b by_itself by_itself = refl
one_wanted IsHead of a b (count head is) (count other it) = refl
one_wanted IsHead of a b (count head is) (argument other not) = absurd (not is)
one_wanted IsHead of a b (argument head not) (count other is) = absurd (not is)
one_wanted IsHead of a b (argument head not) (argument other neither) = refl

-- a path has the same components in plain data
same_texts : (src : List ℕ) (ps : List PathPart) → map (λ (q : PathPart). text_at src q.name) ps ≡ map (text_at src) (map (λ (q : PathPart). q.name) ps)
same_texts src [] = refl
same_texts src (p ∷ ps) = ap (λ l. text_at src p.name ∷ l) (same_texts src ps)

pub components_seen : (src : List ℕ) (p : Path) → components src p ≡ texts src (path_view p)
components_seen src p = ap (λ l. text_at src p.first ∷ l) (same_texts src p.rest.items)

-- what follows nothing is its own end
pub own_is_end : (fs : List File) (m : Meaning) → ((next : Meaning) → Follows fs m next → ⊥) → IsEnd fs m (own_end m)
own_is_end fs m none = record {
  resolved = itself m none;
  passed = stays m (λ next h. none next h.follows);
}
