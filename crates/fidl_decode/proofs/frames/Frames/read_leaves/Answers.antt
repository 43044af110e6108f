use Rattle.fidl_decode_values.specs.Reading.{message}
use Rattle.fidl_decode_values.proofs.Unchanged.{same_le}
use Rattle.fidl_decode_values.proofs.Fitting.{le_more}
use Rattle.std.proofs.Common.{arith}
use Rattle.fidl_decode_columns.proofs.Leaves.{turns_stay}
use Rattle.fidl_decode_model.specs.Machine.{at_of}
use Rattle.fidl_decode.proofs.frames.Frames.read_leaves.Goals as goal

pub read_boxed-requires-clause-frame : goal.read_boxed-requires-clause-frame
read_boxed-requires-clause-frame c = c.requires.frame

pub read_boxed-requires-clause-state : goal.read_boxed-requires-clause-state
read_boxed-requires-clause-state c = c.requires.state

pub read_boxed-requires-clause-budget : goal.read_boxed-requires-clause-budget
read_boxed-requires-clause-budget c = c.requires.budget

pub read_elements-requires-clause-frame : goal.read_elements-requires-clause-frame
read_elements-requires-clause-frame c = c.requires.frame

pub read_elements-requires-clause-state : goal.read_elements-requires-clause-state
read_elements-requires-clause-state c = c.requires.state

pub read_elements-requires-clause-budget : goal.read_elements-requires-clause-budget
read_elements-requires-clause-budget c = c.requires.budget

pub read_content-requires-clause-frame : goal.read_content-requires-clause-frame
read_content-requires-clause-frame c = c.requires.frame

pub read_content-requires-clause-state : goal.read_content-requires-clause-state
read_content-requires-clause-state c = c.requires.state

pub read_content-requires-clause-budget : goal.read_content-requires-clause-budget
read_content-requires-clause-budget c = c.requires.budget

pub returns-in-Envelopes-clause-ended : goal.returns-in-Envelopes-clause-ended
returns-in-Envelopes-clause-ended c = tt

pub returns-in-Envelopes-clause-fault_is_true : goal.returns-in-Envelopes-clause-fault_is_true
returns-in-Envelopes-clause-fault_is_true c = tt

pub returns-in-Rows-clause-ok : goal.returns-in-Rows-clause-ok
returns-in-Rows-clause-ok c = c.read_boxed.ensures.ok

pub returns-in-Rows-clause-grows : goal.returns-in-Rows-clause-grows
returns-in-Rows-clause-grows c = c.read_boxed.ensures.grows

pub returns-in-Rows-clause-ended : goal.returns-in-Rows-clause-ended
returns-in-Rows-clause-ended c = c.read_boxed.ensures.ended

pub returns-in-Rows-clause-cost : goal.returns-in-Rows-clause-cost
returns-in-Rows-clause-cost c = c.read_boxed.ensures.cost

pub returns-in-Rows-clause-fault_is_true : goal.returns-in-Rows-clause-fault_is_true
returns-in-Rows-clause-fault_is_true c = c.read_boxed.ensures.fault_is_true

pub returns-in-Elements-clause-ok : goal.returns-in-Elements-clause-ok
returns-in-Elements-clause-ok c = c.read_elements.ensures.ok

pub returns-in-Elements-clause-grows : goal.returns-in-Elements-clause-grows
returns-in-Elements-clause-grows c = c.read_elements.ensures.grows

pub returns-in-Elements-clause-ended : goal.returns-in-Elements-clause-ended
returns-in-Elements-clause-ended c = c.read_elements.ensures.ended

pub returns-in-Elements-clause-cost : goal.returns-in-Elements-clause-cost
returns-in-Elements-clause-cost c = c.read_elements.ensures.cost

pub returns-in-Elements-clause-fault_is_true : goal.returns-in-Elements-clause-fault_is_true
returns-in-Elements-clause-fault_is_true c = c.read_elements.ensures.fault_is_true

pub returns-in-Content-clause-ok : goal.returns-in-Content-clause-ok
returns-in-Content-clause-ok c = c.read_content.ensures.ok

pub returns-in-Content-clause-grows : goal.returns-in-Content-clause-grows
returns-in-Content-clause-grows c = c.read_content.ensures.grows

pub returns-in-Content-clause-ended : goal.returns-in-Content-clause-ended
returns-in-Content-clause-ended c = c.read_content.ensures.ended

pub returns-in-Content-clause-cost : goal.returns-in-Content-clause-cost
returns-in-Content-clause-cost c = c.read_content.ensures.cost

pub returns-in-Content-clause-fault_is_true : goal.returns-in-Content-clause-fault_is_true
returns-in-Content-clause-fault_is_true c = c.read_content.ensures.fault_is_true

pub returns-in-Envelopes-clause-grows : goal.returns-in-Envelopes-clause-grows
returns-in-Envelopes-clause-grows c = same_le _

pub returns-in-Envelopes-clause-cost : goal.returns-in-Envelopes-clause-cost
returns-in-Envelopes-clause-cost c = le_more _ _

pub returns-in-Envelopes-clause-ok : goal.returns-in-Envelopes-clause-ok
returns-in-Envelopes-clause-ok c = turns_stay c.args.self.now.decoder.table.now (message c.args.self.now.decoder) c.args.frame (at_of c.args.state.now) c.requires.frame c.requires.state _ (omega arith)
