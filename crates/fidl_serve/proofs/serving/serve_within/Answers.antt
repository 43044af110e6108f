use Rattle.std.proofs.Common.{ℕ, List, refl, sym, ap, subst, ◌∙◌}
use Rattle.fidl_table_format.specs.Section.{header_of}
use Rattle.fidl_table_format.specs.Protocol.{IsFirstProtocol, HasNoProtocol}
use Rattle.fidl_serve.specs.Cursors.{left_of, ArePlaces}
use Rattle.fidl_serve.proofs.Protocols.{has_one, is_for}
use Rattle.fidl_serve.proofs.Runs.{run_serves, serves_by, whole_by}
use Rattle.fidl_serve.proofs.Whole.{nothing_written}
use Rattle.fidl_serve.proofs.serving.serve_within.Goals as goal

pub unreachable-requires : goal.unreachable-requires
unreachable-requires g c = has_one c.args.table.now c.args.script.now c.requires (subst (λ (n : List ℕ). HasNoProtocol c.args.table.now (header_of c.args.table.now) n) c.protocol.ensures c.in-None.ensures.none)

pub returns-in-Err-clause-serves : goal.returns-in-Err-clause-serves
returns-in-Err-clause-serves g c = λ p e f. (refl, refl)

pub returns-in-Err-clause-whole : goal.returns-in-Err-clause-whole
returns-in-Err-clause-whole g c = λ p e f. nothing_written p c.args.script.now _ _

pub run-requires-clause-script : goal.run-requires-clause-script
run-requires-clause-script g c =
    let first = subst (λ (n : List ℕ). IsFirstProtocol c.args.table.now (header_of c.args.table.now) n c.in-Some.protocol.number) c.protocol.ensures c.in-Some.ensures.found in
    is_for c.args.table.now c.args.script.now c.in-Some.protocol c.requires c.in-Some.ensures.table first

pub run-requires-clause-places : goal.run-requires-clause-places
run-requires-clause-places g c = subst (λ (l : List ℕ). ArePlaces c.args.script.now l) (sym c.deref_mut.ensures.value) c.in-Ok.ensures.places

pub returns-clause-serves : goal.returns-clause-serves
returns-clause-serves g c =
    let first = subst (λ (n : List ℕ). IsFirstProtocol c.args.table.now (header_of c.args.table.now) n c.in-Some.protocol.number) c.protocol.ensures c.in-Some.ensures.found in
    let start = ap (λ (l : List ℕ). left_of c.args.script.now l) c.deref_mut.ensures.value ∙ c.in-Ok.ensures.whole in
    serves_by c.args.table.now c.args.script.now c.in-Some.protocol _ _ _ _ _ c.in-Some.ensures.table first (run_serves c.in-Some.protocol c.args.script.now _ _ _ _ _ _ start c.run.ensures.served)

pub returns-clause-whole : goal.returns-clause-whole
returns-clause-whole g c =
    let first = subst (λ (n : List ℕ). IsFirstProtocol c.args.table.now (header_of c.args.table.now) n c.in-Some.protocol.number) c.protocol.ensures c.in-Some.ensures.found in
    let start = ap (λ (l : List ℕ). left_of c.args.script.now l) c.deref_mut.ensures.value ∙ c.in-Ok.ensures.whole in
    whole_by c.args.table.now c.args.script.now c.in-Some.protocol _ _ _ _ _ c.entries-entries.ensures.well_formed c.in-Some.ensures.table first (run_serves c.in-Some.protocol c.args.script.now _ _ _ _ _ _ start c.run.ensures.served)
