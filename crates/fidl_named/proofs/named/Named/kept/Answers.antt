use Rattle.std.proofs.Common.{◌≡◌, ◌<◌, ◌∙◌, List, Option, Some, None, length, refl, ap, sym, subst}
use Rattle.std.specs.Prelude.{slice_get, IfSome}
use Rattle.std.specs.Option.{option_map}
use Rattle.std.proofs.lemmas.Option.{slice_get_read, slice_get-map}
use Rattle.std.proofs.lemmas.Bool.{ltb-true}
use Rattle.fidl_tree.specs.declared.file.File.{File}
use Rattle.fidl_named.specs.declared.kept_names.KeptNames.{KeptNames}
use Rattle.fidl_named.specs.declared.meaning.Meaning.{Meaning}
use Rattle.fidl_named.specs.Meanings.{components, Means}
use Rattle.fidl_named.specs.Scopes.{OfFile}
use Rattle.fidl_named.specs.KeptNames.{AreKept, AreKeptIn, kept_rows}
use Rattle.fidl_named.proofs.named.Named.kept.Goals as goal

some_weaker : {X : Type 0} (o : Option X) (P Q : X → Type 0) → ((x : X) → P x → Q x) → IfSome o P → IfSome o Q
some_weaker None P Q to h = h
some_weaker (Some x) P Q to h = to x h

pub returns : goal.returns
returns c =
    let files = c.args.self.now in
    let i = c.args.file_index in
    let rows = c.self.inside.kept.items in
    let kept = c.in_ok-get.field-0.now in
    let read = c.deref.result.now in
    let look = c.in_ok-get.ensures.lookup in
    let within : i < length read = ltb-true i (length read) (sym look.0) in
    let there : slice_get read i ≡ Some kept = slice_get_read read (length read) i kept refl within look.1 in
    let stands : slice_get rows i ≡ Some kept = subst (λ (l : List KeptNames). slice_get l i ≡ Some kept) c.deref.ensures.value there in
    let row : slice_get (kept_rows rows) i ≡ Some kept.names.items = slice_get-map (λ (r : KeptNames). r.names.items) rows i ∙ ap (option_map (λ (r : KeptNames). r.names.items)) stands in
    let are : AreKeptIn files (kept_rows rows) = subst (λ (fs : List File). AreKeptIn fs (kept_rows rows)) c.self.view_is c.self.invariant.kept_are in
    some_weaker c.find.result
    (λ (m : Meaning). (fs : List File) (f : File) → AreKept fs f kept.names.items → Means fs f c.args.wanted (components f.src.now c.args.path.now) m)
    (λ (m : Meaning). OfFile files i (λ f. Means files f c.args.wanted (components f.src.now c.args.path.now) m))
    (λ m h f at. h files f (are i f kept.names.items at row)) c.find.ensures
