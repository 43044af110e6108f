use Rattle.std.proofs.Common.{◌≡◌, ℕ, List, ap, sym, subst, ◌∙◌}
use Rattle.std.specs.Prelude.{Some}
use Rattle.std.proofs.lemmas.Bool.{eqb-true, eqb-false}
use Rattle.fidl_table_format.specs.declared.record.Entry.{Entry}
use Rattle.fidl_table_format.specs.declared.kind.EntryKind.TheVariants.{Box}
use Rattle.fidl_table_format.specs.Kind.{kind_of}
use Rattle.fidl_table_format.specs.Section.{entry_at}
use Rattle.fidl_view.proofs.Boxed.{box_number}
use Rattle.fidl_view.proofs.view.View.is_box.Goals as goal

pub returns-clause-yes : goal.returns-clause-yes
returns-clause-yes c t =
    let s = c.args.self in
    let e : c.entry.result ≡ entry_at s.decoded.now.table s.index = c.entry.ensures.value ∙ ap (λ (b : List ℕ). entry_at b s.index) c.table.ensures in
    subst (λ (x : Entry). kind_of x.kind ≡ Some Box) e (ap kind_of (eqb-true c.entry.result.kind 15 t))

pub returns-clause-no : goal.returns-clause-no
returns-clause-no c f is =
    let s = c.args.self in
    let e : c.entry.result ≡ entry_at s.decoded.now.table s.index = c.entry.ensures.value ∙ ap (λ (b : List ℕ). entry_at b s.index) c.table.ensures in
    eqb-false c.entry.result.kind 15 f (box_number c.entry.result.kind (subst (λ (x : Entry). kind_of x.kind ≡ Some Box) (sym e) is))
