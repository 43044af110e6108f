use Rattle.fidl_commands.specs.Running.{by_guide}
use Rattle.fidl_commands.proofs.running.run_explain.Goals as goal

pub returns-in-Ok-clause-done : goal.returns-in-Ok-clause-done
returns-in-Ok-clause-done g c q = (_, by_guide _ (c.explain.ensures.some q), c.explain.ensures.done q)
