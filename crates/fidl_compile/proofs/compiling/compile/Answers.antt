use Rattle.std.proofs.Common.{◌≡◌, List, length, map, sym, subst, ◌∙◌}
use Rattle.std.proofs.lemmas.List.{length-map}
use Rattle.std.proofs.lemmas.Result.{err_from_is_err_and}
use Rattle.fidl_tree.specs.declared.file.File.{File}
use Rattle.fidl_named.specs.Names.{all_declared, AreDistinct}
use Rattle.fidl_wire.specs.Figure.{Declarations}
use Rattle.fidl_table.specs.Shows.{Shows}
use Rattle.fidl_compile.specs.Sources.{AreAccepted}
use Rattle.fidl_compile.specs.Stages.{FilesRefused}
use Rattle.fidl_compile.proofs.Whole.{all_read, rules_refused, not_stopped, table_of}
use Rattle.fidl_distinct_names.proofs.Tables.{tables_differ}
use Rattle.fidl_compile.proofs.compiling.compile.Goals as goal

pub returns-in_err-checked-clause-fault_is_true : goal.returns-in_err-checked-clause-fault_is_true
returns-in_err-checked-clause-fault_is_true c =
    let sources = map (λ s. s.now) c.args.sources.now in
    let files = c.in_ok-files.field-0.files.items in
    let count : length files ≡ length sources = not_stopped _ c.in_default.not-Some c.in_ok-files.ensures.all ∙ sym (length-map c.args.sources.now (λ s. s.now)) in
    let same : c.in_ok-set.set ≡ files = c.in_ok-set.ensures.ok ∙ c.deref.ensures.value in
    let distinct = subst (λ (fs : List File). AreDistinct (all_declared fs)) c.deref.ensures.value c.in_ok-set.ensures.distinct in
    let fault = c.in_err-checked.field-0.0 in
    let refused = subst (λ (fs : List File). FilesRefused fs fault) same c.in_err-checked.ensures.fault_is_true in
    let p = err_from_is_err_and c.from_residual-in_err-checked.result c.from_residual-in_err-checked.ensures.1 in
    rw (p.1, p.2) (rules_refused sources files fault (all_read sources files count c.in_ok-files.ensures.read) distinct refused)

pub returns-clause-shows : goal.returns-clause-shows
returns-clause-shows c =
    let sources = map (λ s. s.now) c.args.sources.now in
    let files = c.in_ok-files.field-0.files.items in
    let count : length files ≡ length sources = not_stopped _ c.in_default.not-Some c.in_ok-files.ensures.all ∙ sym (length-map c.args.sources.now (λ s. s.now)) in
    let same : c.in_ok-set.set ≡ files = c.in_ok-set.ensures.ok ∙ c.deref.ensures.value in
    let kept = subst (λ (fs : List File). (ds : Declarations) × AreAccepted fs ds) same c.in_ok-checked.ensures.kept in
    let shows = subst (λ (fs : List File). Shows fs c.in_ok-write_table.field-0.items) (c.in_ok-checked.ensures.ok ∙ same) c.in_ok-write_table.ensures.shows in
    table_of sources files _ (all_read sources files count c.in_ok-files.ensures.read) kept shows

pub returns-in_err-write_table-clause-fault_is_true : goal.returns-in_err-write_table-clause-fault_is_true
returns-in_err-write_table-clause-fault_is_true c =
    let p = err_from_is_err_and c.from_residual-in_err-write_table.result c.from_residual-in_err-write_table.ensures.1 in
    rw (p.1, p.2) tt

pub returns-clause-distinct : goal.returns-clause-distinct
returns-clause-distinct c =
    let files = c.in_ok-files.field-0.files.items in
    let same : c.in_ok-set.set ≡ files = c.in_ok-set.ensures.ok ∙ c.deref.ensures.value in
    let kept = subst (λ (fs : List File). (ds : Declarations) × AreAccepted fs ds) same c.in_ok-checked.ensures.kept in
    let shows = subst (λ (fs : List File). Shows fs c.in_ok-write_table.field-0.items) (c.in_ok-checked.ensures.ok ∙ same) c.in_ok-write_table.ensures.shows in
    tables_differ files c.in_ok-write_table.field-0.items kept.1.resolved shows c.in_ok-write_table.ensures.well_formed
