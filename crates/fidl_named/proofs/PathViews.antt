-- Paths of the tree in plain data: components, text and place, and what their refusal says.
use Rattle.std.proofs.Common.{◌≡◌, ℕ, List, [], ◌∷◌, ◌++◌, map, refl, ap, sym, subst, ◌∙◌}
use Rattle.std.specs.Prelude.{Option, Some, None, option_map, flat_map, codes}
use Rattle.fidl_span.specs.declared.words.Span.{Span}
use Rattle.fidl_tree.specs.Leaf.{text_at}
use Rattle.fidl_tree.specs.Views.{path_view}
use Rattle.fidl_tree.specs.declared.path.Path.{Path}
use Rattle.fidl_tree.specs.declared.path.PathPart.{PathPart}
use Rattle.fidl_tree.specs.declared.file.File.{File}
use Rattle.fidl_named.specs.declared.place.Place.{Place}
use Rattle.fidl_named.specs.declared.fault.NameFault.{NameFault}
use Rattle.fidl_named.specs.declared.fault.NameFault.TheVariants.{DuplicateName, UnknownLibrary, UnknownName, AmbiguousName, AliasCycle, ImportCycle, BadImport, Memory}
use Rattle.fidl_named.specs.declared.meaning.Wanted.{Wanted}
use Rattle.fidl_named.specs.declared.meaning.Wanted.TheVariants as wanted
use Rattle.fidl_named.specs.declared.meaning.Predeclared.TheVariants as name
use Rattle.fidl_named.specs.declared.meaning.Meaning.{Meaning}
use Rattle.fidl_named.specs.declared.meaning.Meaning.TheVariants as meaning
use Rattle.fidl_named.specs.Names.{part_text, path_text}
use Rattle.fidl_named.specs.Imports.{last_span, path_span}
use Rattle.fidl_named.specs.Meanings.{components, dotted, Means, IsReading, IsAmbiguous, IsTrueOfName}
use Rattle.fidl_named.specs.Paths.{texts}
use Rattle.fidl_named.specs.Paths.{last_place, path_place, IsTrueOfPath}
use Rattle.fidl_named.specs.Aliases.{Wants, by_itself, count, argument, WantsKind, IsArrayName}
use Rattle.fidl_named.proofs.AliasFacts.{components_seen}

parts_seen : (src : List ℕ) (ps : List PathPart) → flat_map (part_text src) ps ≡ flat_map (λ d. codes "." ++ d) (map (text_at src) (map (λ (q : PathPart). q.name) ps))
parts_seen src [] = refl
parts_seen src (p ∷ ps) = ap (λ l. part_text src p ++ l) (parts_seen src ps)

-- its text is its components with dots between
pub text_seen : (src : List ℕ) (p : Path) → path_text src p ≡ dotted (texts src (path_view p))
text_seen src p = ap (λ l. text_at src p.first ++ l) (parts_seen src p.rest.items)

last_seen : (s : Span) (ps : List PathPart) → last_span s ps ≡ last_place s (map (λ (q : PathPart). q.name) ps)
last_seen s [] = refl
last_seen s (p ∷ ps) = last_seen p.name ps

pub place_seen : (p : Path) → path_span p ≡ path_place (path_view p)
place_seen p = ap (λ (l : Span). record { from = p.first.from; to = l.to }) (last_seen p.first p.rest.items)

-- what the refusal of a path says, it says of its plain data
module _ (fs : List File) (f : File) (number : ℕ) (kind : Wanted) (p : Path) where
  there : (place : Place) → place ≡ record { file = number; span = path_span p } → place ≡ record { file = number; span = path_place (path_view p) }
  there place is = is ∙ ap (λ (s : Span). record { file = number; span = s }) (place_seen p)

  pub refusal_seen : (fault : NameFault) → IsTrueOfName fs f number kind p fault → IsTrueOfPath fs f number kind (path_view p) fault
  refusal_seen (UnknownName place) h = (subst (λ n. (m : Meaning) → IsReading fs f kind n m → ⊥) (components_seen f.src.now p) h.0, there place h.1)
  refusal_seen (AmbiguousName place) h = (subst (IsAmbiguous fs f kind) (components_seen f.src.now p) h.0, there place h.1)
  refusal_seen (DuplicateName place) h = absurd h
  refusal_seen (UnknownLibrary place) h = absurd h
  refusal_seen (AliasCycle place) h = absurd h
  refusal_seen (ImportCycle place) h = absurd h
  refusal_seen (BadImport place) h = absurd h
  refusal_seen Memory h = tt

-- what a path means and what it wants
pub means_seen : (fs : List File) (f : File) (kind : Wanted) (p : Path) (m : Meaning) → Means fs f kind (components f.src.now p) m → Means fs f kind (texts f.src.now (path_view p)) m
means_seen fs f kind p m h = subst (λ n. Means fs f kind n m) (components_seen f.src.now p) h

pub wants_view : (fs : List File) (f : File) (of : Option Path) (kind : Wanted) → WantsKind fs f of kind → Wants (IsArrayName fs f) (option_map path_view of) kind
wants_view fs f None kind by_itself = by_itself
wants_view fs f (Some p) kind (count head is) = count (path_view p) (means_seen fs f wanted.«Type» p (meaning.Predeclared name.Array) is)
wants_view fs f (Some p) kind (argument head not) =
    argument (path_view p) (λ is. not (subst (λ n. Means fs f wanted.«Type» n (meaning.Predeclared name.Array)) (sym (components_seen f.src.now p)) is))
