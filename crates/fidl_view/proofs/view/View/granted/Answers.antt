use Rattle.std.proofs.Common.{◌≡◌, ℕ, List, ap, sym, subst, ◌∙◌}
use Rattle.std.specs.Prelude.{Some}
use Rattle.fidl_table_format.specs.declared.record.Entry.{Entry}
use Rattle.fidl_table_format.specs.Section.{entry_at}
use Rattle.fidl_table_format.specs.WellFormed.{WellFormed}
use Rattle.fidl_view.specs.Parts.{rights_of}
use Rattle.fidl_view.specs.Shows.{type_of}
use Rattle.fidl_view.proofs.Viewing as viewing
use Rattle.fidl_view.proofs.Content as content
use Rattle.fidl_view.proofs.view.View.granted.Goals as goal

pub returns-then-required : goal.returns-then-required
returns-then-required c v s =
    let d = c.args.self.decoded.now in
    let i = c.args.self.index in
    let p = c.args.self.place in
    let w : WellFormed d.table = subst (λ (b : List ℕ). WellFormed b) c.table.ensures c.entry-required.ensures.well_formed in
    let same : c.entry-required.result.rights ≡ (entry_at d.table i).rights = ap (λ (e : Entry). e.rights) (c.entry-required.ensures.value ∙ ap (λ (b : List ℕ). entry_at b i) c.table.ensures) in
    let found = viewing.granted_shown d w i p c.args.self.in_range v s c.in-Some.info (sym c.in-Some.is ∙ c.handle.ensures v s) in
    ap (λ n. Some n) (content.rights_same c.entry-required.result.rights c.in-Some.info c.if-required.true ∙ ap (λ n. rights_of n c.in-Some.info) same) ∙ found

pub returns-else-required : goal.returns-else-required
returns-else-required c v s =
    let d = c.args.self.decoded.now in
    let i = c.args.self.index in
    let p = c.args.self.place in
    let w : WellFormed d.table = subst (λ (b : List ℕ). WellFormed b) c.table.ensures c.entry-required.ensures.well_formed in
    let same : c.entry-required.result.rights ≡ (entry_at d.table i).rights = ap (λ (e : Entry). e.rights) (c.entry-required.ensures.value ∙ ap (λ (b : List ℕ). entry_at b i) c.table.ensures) in
    let found = viewing.granted_shown d w i p c.args.self.in_range v s c.in-Some.info (sym c.in-Some.is ∙ c.handle.ensures v s) in
    ap (λ n. Some n) (content.rights_other c.entry-required.result.rights c.in-Some.info c.if-required.false ∙ ap (λ n. rights_of n c.in-Some.info) same) ∙ found

pub returns-in-None : goal.returns-in-None
returns-in-None c v s =
    content.no_granted (type_of c.args.self.decoded.now c.args.self.index) v (sym c.in-None.is ∙ c.handle.ensures v s)
