use Rattle.std.proofs.Common.{◌+◌, ◌≤◌, List, ℕ, sym, subst, ◌∙◌, arith}
use Rattle.std.proofs.lemmas.Bool.{leb-true}
use Rattle.fidl_table_format.specs.Section.{name_at}
use Rattle.fidl_verify.specs.Runs.{HasEnds}
use Rattle.fidl_verify.specs.declared.runs.Class.TheVariants.{Word}
use Rattle.fidl_verify.proofs.Classes.{name_of_class}
use Rattle.fidl_verify.proofs.name.is_member_name.Goals as goal
use Rattle.fidl_verify.proofs.name.is_member_name.Goals.{then-from, else-from}

pub returns-then-has_ends-clause-value : goal.returns-then-has_ends-clause-value
returns-then-has_ends-clause-value c =
    let bytes = c.args.table.now.bytes.now in
    let h = c.args.table.now.header in
    elim c.if-from.branch [
      | then-from w ↦
          let fits : c.args.place + c.args.name_length ≤ c.args.table.now.header.names = omega arith in
          let is = name_of_class Word bytes h c.args.place c.args.name_length c.covers.result c.args.seen.now.words fits c.args.table.now.whole c.requires.words c.covers.ensures.value in
          let ends : HasEnds (name_at bytes h c.args.place c.args.name_length) = subst (λ (n : List ℕ). HasEnds n) w.name.ensures (w.has_ends.ensures.0 (sym w.value-is ∙ c.if-has_ends.true)) in (
            λ t. record { within = fits; identifier = record { some = ends.some; begins = ends.begins; ends = ends.ends; only = is.0 t } },
            λ n. is.1 n.identifier.only,
          )
      | else-from w ↦ absurd (omega (arith, w.if-from.false, leb-true _ _ (sym w.value-is ∙ c.if-has_ends.true)))
    ]
