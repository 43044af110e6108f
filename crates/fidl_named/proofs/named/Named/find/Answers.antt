use Rattle.std.proofs.Common.{Option, subst}
use Rattle.std.specs.Prelude.{IfSome}
use Rattle.fidl_named.specs.declared.meaning.Meaning.{Meaning}
use Rattle.fidl_named.specs.Meanings.{components, Means}
use Rattle.fidl_named.specs.Scopes.{OfFile}
use Rattle.fidl_named.proofs.named.Named.find.Goals as goal

pub returns-in-Some : goal.returns-in-Some
returns-in-Some c = λ f at.
    let files = c.args.self.now in
    let kept = subst (λ (o : Option Meaning). IfSome o (λ m. OfFile files c.args.file_index (λ g. Means files g c.args.wanted (components g.src.now c.args.path.now) m))) c.in-Some.is c.kept.ensures in
    let means = kept f at in
    (means, λ y h. means.1 y h.0)
