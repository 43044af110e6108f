use Rattle.std.proofs.Common.{refl, ap, arith}
use Rattle.fidl_table_format.specs.declared.record.Entry.{Entry}
use Rattle.fidl_decode_values.proofs.decoder.Decoder.body_of.Goals as goal

pub returns-clause-fine : goal.returns-clause-fine
returns-clause-fine c = record {
  table = c.args.self.now.coded;
  well = c.entry-parts.ensures.well_formed;
  entry = c.requires.entry;
  is = c.requires.kind;
  rows = omega (arith, c.args.self.now.placed, ap (λ (d : Entry). d.first) c.entry-parts.ensures.value);
  known = omega (arith, c.min.ensures, ap (λ (d : Entry). d.count) c.entry-parts.ensures.value);
  few = omega (arith, c.min.ensures);
}

pub returns-clause-entry : goal.returns-clause-entry
returns-clause-entry c = refl

pub returns-clause-base : goal.returns-clause-base
returns-clause-base c = refl

pub returns-clause-count : goal.returns-clause-count
returns-clause-count c = refl

pub returns-clause-depth : goal.returns-clause-depth
returns-clause-depth c = refl
