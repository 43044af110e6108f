use Rattle.std.proofs.Common.{◌∙◌, map, codes}
use Rattle.clap.proofs.WalkLemmas.{raw_values-rows}
use Rattle.clap.specs.Words.{found_of}
use Rattle.fidl_command_line.proofs.Commands.{some_value, no_value}
use Rattle.fidl_command_line.proofs.arguments.read_explain.Goals as goal

pub returns-in_default-clause-fault_is_true : goal.returns-in_default-clause-fault_is_true
returns-in_default-clause-fault_is_true c = no_value _ _ _ c.in_default.is (c.get_strs.ensures ∙ raw_values-rows (found_of c.args.matches.now) (codes "FAULT"))

pub returns-in-Some-asked_by-clause-ok : goal.returns-in-Some-asked_by-clause-ok
returns-in-Some-asked_by-clause-ok c = (
  map (λ w. w.now) c.in-Some.words.now,
  some_value _ _ _ _ c.in-Some.is (c.get_strs.ensures ∙ raw_values-rows (found_of c.args.matches.now) (codes "FAULT")),
  c.in-Some-asked_by.ensures.some,
)

pub returns-in-None-clause-fault_is_true : goal.returns-in-None-clause-fault_is_true
returns-in-None-clause-fault_is_true c = (
  map (λ w. w.now) c.in-Some.words.now,
  some_value _ _ _ _ c.in-Some.is (c.get_strs.ensures ∙ raw_values-rows (found_of c.args.matches.now) (codes "FAULT")),
  c.in-None.ensures.none,
)
