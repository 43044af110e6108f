-- Where the last component of a path stands.
use Rattle.std.proofs.Common.{◌≡◌, ℕ, ◌+◌, ◌<◌, List, [], ◌∷◌, ◌++◌, length, get_or, take, ap, ◌∙◌, refl}
use Rattle.std.proofs.lemmas.List.{take_more}
use Rattle.fidl_span.specs.declared.words.Span.{Span}
use Rattle.fidl_tree.specs.declared.path.PathPart.{PathPart}
use Rattle.fidl_named.specs.Imports.{last_span}

last_span-append : (s : Span) (ps : List PathPart) (p : PathPart) → last_span s (ps ++ p ∷ []) ≡ p.name
last_span-append s [] p = refl
last_span-append s (q ∷ ps) p = last_span-append q.name ps p

pub last_span-more : (s : Span) (ps : List PathPart) (i : ℕ) (d : PathPart) → i < length ps → last_span s (take (i + 1) ps) ≡ (get_or ps i d).name
last_span-more s ps i d lt = ap (last_span s) (take_more ps i d lt) ∙ last_span-append s (take i ps) (get_or ps i d)
