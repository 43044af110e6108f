use Rattle.std.proofs.Common.{◌+◌, ◌-◌, ◌/◌, ◌<◌, length, arith}
use Rattle.fidl_serve.proofs.Searching.{ordinal_read, less_upto, more_from, found}
use Rattle.fidl_serve.proofs.method.method_place.Goals as goal

pub loop-low-preserved-then-here-ordinal : goal.loop-low-preserved-then-here-ordinal
loop-low-preserved-then-here-ordinal c =
    let methods = c.args.methods.now in
    let middle = c.loop-low.low + (c.loop-low.high - c.loop-low.low) / 2 in
    let within : middle < length methods = omega (arith, c.loop-low-test.true, c.loop-low.invariant.within) in
    let is = ordinal_read methods middle c.ordinal-here.result c.index-methods-middle.result within c.index-methods-middle.is c.ordinal-here.ensures in
    record {
      within = c.loop-low.invariant.within;
      less = less_upto methods c.args.ordinal middle c.ordinal-here.result c.requires.rise within is c.if-here-ordinal.true;
      more = c.loop-low.invariant.more;
    }

pub loop-low-preserved : goal.loop-low-preserved
loop-low-preserved c =
    let methods = c.args.methods.now in
    let middle = c.loop-low.low + (c.loop-low.high - c.loop-low.low) / 2 in
    let within : middle < length methods = omega (arith, c.loop-low-test.true, c.loop-low.invariant.within) in
    let is = ordinal_read methods middle c.ordinal-here.result c.index-methods-middle.result within c.index-methods-middle.is c.ordinal-here.ensures in
    record {
      within = omega (arith, within);
      less = c.loop-low.invariant.less;
      more = more_from methods c.args.ordinal middle c.ordinal-here.result c.requires.rise is c.if-ordinal-here.true;
    }

pub returns-else-ordinal-here : goal.returns-else-ordinal-here
returns-else-ordinal-here c =
    let methods = c.args.methods.now in
    let middle = c.loop-low.low + (c.loop-low.high - c.loop-low.low) / 2 in
    let within : middle < length methods = omega (arith, c.loop-low-test.true, c.loop-low.invariant.within) in
    let is = ordinal_read methods middle c.ordinal-here.result c.index-methods-middle.result within c.index-methods-middle.is c.ordinal-here.ensures in
    found methods c.args.ordinal middle c.ordinal-here.result c.requires.rise within is c.if-here-ordinal.false c.if-ordinal-here.false
