use Rattle.std.proofs.Common.{ap, sym, subst, ◌∙◌}
use Rattle.std.proofs.lemmas.Option.{IfSome_then}
use Rattle.fidl_named.specs.Names.{all_entries}
use Rattle.fidl_named.specs.FullNames.{IsDeclared}
use Rattle.fidl_named.proofs.Finding.{found_declared, found_only, found_none, stands_declared}
use Rattle.fidl_named.proofs.file_set.FileSet.find.Goals as goal

pub returns-in_err-id-clause-none : goal.returns-in_err-id-clause-none
returns-in_err-id-clause-none c = λ _.
    let es = c.self.inside.names.entries in
    found_none c.args.self.now es (c.self.invariant.0 ∙ ap (λ l. all_entries l 0) c.self.view_is) c.args.full.now (sym c.in_err-id.ensures.value)

pub returns-clause-found : goal.returns-clause-found
returns-clause-found c =
    let fs = c.args.self.now in
    let full = c.args.full.now in
    let p = c.in_ok-id.field-0.now in
    let es = c.self.inside.names.entries in
    let names = c.self.invariant.0 ∙ ap (λ l. all_entries l 0) c.self.view_is in
    IfSome_then c.get-2.result c.get-2.ensures.found (λ x h.
    let there : IsDeclared fs full p x.file.now x.declaration.now = stands_declared fs es names full p (sym c.in_ok-id.ensures.value) x.file.now x.declaration.now h.1 in
    subst (λ q. IsDeclared fs full q x.file.now x.declaration.now) (sym h.0) there)

pub returns-clause-only : goal.returns-clause-only
returns-clause-only c =
    let es = c.self.inside.names.entries in
    let names = c.self.invariant.0 ∙ ap (λ l. all_entries l 0) c.self.view_is in
    IfSome_then c.get-2.result c.get-2.ensures.found
    (λ x h q f d declared. found_only c.args.self.now es names c.args.full.now c.in_ok-id.field-0.now c.self.invariant.1 (sym c.in_ok-id.ensures.value) q f d declared ∙ sym h.0)

pub returns-clause-none : goal.returns-clause-none
returns-clause-none c = λ none q f d declared.
    let es = c.self.inside.names.entries in
    let names = c.self.invariant.0 ∙ ap (λ l. all_entries l 0) c.self.view_is in
    let r = found_declared c.args.self.now es names c.args.full.now c.in_ok-id.field-0.now (sym c.in_ok-id.ensures.value) in
    c.get-2.ensures.none none r.file r.declaration (record { file_at = r.declared.file_at; stands = r.declared.stands })
