use Rattle.std.proofs.Common.{◌≡◌, ◌∙◌, ap, sym, subst}
use Rattle.std.specs.Cmp.Lexicographic.{bytes_decides}
use Rattle.fidl_table_format.specs.Section.{header_of}
use Rattle.fidl_migrate.specs.Kept.{HasCounts}
use Rattle.fidl_migrate.proofs.Kept.{all_kept}
use Rattle.fidl_migrate.proofs.keeping.is_kept.Goals as goal

pub returns-then-keeps_entries : goal.returns-then-keeps_entries
returns-then-keeps_entries c = λ is.
    let old = c.args.old.now in
    let new = c.args.new.now in
    let before : c.read_header.result ≡ header_of old = c.read_header.ensures ∙ ap header_of c.bytes.ensures.value in
    let after : c.read_header-2.result ≡ header_of new = c.read_header-2.ensures ∙ ap header_of c.bytes-2.ensures.value in
    let counts : HasCounts (header_of old) (header_of new) = subst (λ h. HasCounts h (header_of new)) before (subst (HasCounts c.read_header.result) after (c.has_counts.ensures c.if-not-has_counts.false)) in
    let same : c.behind_values.result.now ≡ c.behind_values-then-keeps_entries.result.now =
    (bytes_decides c.behind_values.result.now c.behind_values-then-keeps_entries.result.now).0 (sym c.eq.ensures ∙ is) in
    all_kept old new c.bytes.ensures.well_formed counts (c.keeps_rows.ensures c.if-not-keeps_rows.false) (c.keeps_entries.ensures c.if-keeps_entries.true)
    (sym c.behind_values.ensures ∙ same ∙ c.behind_values-then-keeps_entries.ensures)
