use Rattle.std.proofs.Common.{refl, sym, ◌∙◌}
use Rattle.fidl_span.proofs.NameLaws.{bad_name_at}
use Rattle.fidl_span.proofs.names.name_or_number.Goals as goal

pub returns-else-is_identifier-clause-fault_is_true : goal.returns-else-is_identifier-clause-fault_is_true
returns-else-is_identifier-clause-fault_is_true c =
    let src = c.args.src.now in
    let run = c.word_end.ensures in (
      refl,
      record { ordered = run.ordered; within = run.within },
      record {
        run = run.run;
        bad = bad_name_at src c.args.at c.word_end.result c.requires.within run.ordered run.run c.requires.word_byte
            (sym c.is_ascii_digit.ensures.value ∙ c.if-is_ascii_digit.false)
            (sym c.is_identifier.ensures ∙ c.if-is_identifier.false);
      },
    )
