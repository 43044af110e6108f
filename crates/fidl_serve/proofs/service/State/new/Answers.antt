use Rattle.std.proofs.Common.{ℕ, List, length, rules, sym, ap, subst, ◌∙◌}
use Rattle.std.specs.Prelude.{replicate}
use Rattle.fidl_script.specs.Script.{Replies}
use Rattle.fidl_serve.specs.Cursors.{left_of, ArePlaces}
use Rattle.fidl_serve.proofs.Places.{starts, starts_within}
use Rattle.fidl_serve.proofs.service.State.new.Goals as goal

pub returns-clause-places : goal.returns-clause-places
returns-clause-places c =
    let e = c.in_ok-places.ensures.items_if_clones_equal (λ y h. search rules) ∙ ap (λ (l : List Replies). replicate (length l) 0) c.methods.ensures in
    subst (λ (l : List ℕ). ArePlaces c.args.script.now l) (sym e) (starts_within c.args.script.now)

pub returns-clause-whole : goal.returns-clause-whole
returns-clause-whole c =
    let e = c.in_ok-places.ensures.items_if_clones_equal (λ y h. search rules) ∙ ap (λ (l : List Replies). replicate (length l) 0) c.methods.ensures in
    ap (λ (l : List ℕ). left_of c.args.script.now l) e ∙ starts c.args.script.now
