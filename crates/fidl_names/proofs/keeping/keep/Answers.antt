use Rattle.std.proofs.Common.{Option, sym, subst}
use Rattle.fidl_named.specs.declared.kept_names.KeptName.{KeptName}
use Rattle.fidl_named.specs.declared.meaning.Meaning.{Meaning}
use Rattle.fidl_named.specs.Meanings.{components, IsJust, Means}
use Rattle.fidl_named.specs.KeptNames.{AreKept}
use Rattle.fidl_named.proofs.KeptMeanings.{kept_more}
use Rattle.fidl_names.proofs.keeping.keep.Goals as goal

pub returns-in_ok-add-in-Some : goal.returns-in_ok-add-in-Some
returns-in_ok-add-in-Some c =
    let files = c.args.scope.now.names.set.now in
    let f = c.args.scope.now.file.now in
    let name : KeptName = record { path = c.args.path; wanted = c.args.wanted; meaning = c.in-Some.meaning } in
    let just = subst (λ (o : Option Meaning). IsJust (Means files f c.args.wanted (components f.src.now c.args.path.now)) o) c.in-Some.is c.in_ok-find_meaning.ensures in
    subst (AreKept files f) (sym c.in_ok-add-in-Some.ensures) (kept_more files f c.args.kept.now.names.items name c.requires just.0)
