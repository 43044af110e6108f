use Rattle.fidl_links.proofs.ByteBits.{bit_here, bit_elsewhere}
use Rattle.fidl_links.proofs.bits.set_bit.Goals as goal

pub returns-clause-here : goal.returns-clause-here
returns-clause-here c = bit_here c.args.bytes.now c.args.i c.args.which c.requires.within c.requires.eight

pub returns-clause-elsewhere : goal.returns-clause-elsewhere
returns-clause-elsewhere c = bit_elsewhere c.args.bytes.now c.args.i c.args.which c.requires.within c.requires.eight
