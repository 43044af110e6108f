use Rattle.std.proofs.Common.{◌+◌, ◌≤◌, sym, ap, subst}
use Rattle.std.specs.Prelude.{None}
use Rattle.fidl_table_format.specs.declared.kind.EntryKind.TheVariants.{Struct}
use Rattle.fidl_table_format.specs.declared.record.Entry.{Entry}
use Rattle.fidl_table_format.specs.Section.{header_of}
use Rattle.fidl_decode_model.specs.declared.frame.Remaining.TheVariants.{Rows}
use Rattle.fidl_decode_model.specs.Machine.{Passes}
use Rattle.fidl_decode_model.proofs.Visiting.{fine_as}
use Rattle.fidl_decode_values.specs.Reading.{message}
use Rattle.fidl_decode_values.proofs.decoder.Decoder.free_struct.Goals as goal

pub free_size-requires : goal.free_size-requires
free_size-requires c =
    let t = c.args.self.now.table.now in
    record { within = subst (λ (d : Entry). d.first + d.count ≤ (header_of t).rows) (sym c.entry-e.ensures.value) (fine_as t c.args.self.now.fine c.args.entry Struct c.requires.entry c.requires.kind).content.0 }

pub returns-clause-known : goal.returns-clause-known
returns-clause-known c =
    let t = c.args.self.now.table.now in
    let m = message c.args.self.now in
    let is = c.entry-e.ensures.value in
    let done = c.in_ok-done.done in
    record {
      entry = c.requires.entry;
      is = c.requires.kind;
      size = ap (λ (d : Entry). d.size) (sym is);
      wide = subst (λ (d : Entry). d.count ≤ done) is c.in_ok-done.ensures.wide;
      passes = subst (λ (d : Entry). Passes t m (Rows d.first d.count) d.count (d.first + d.count) 0 done None) is c.in_ok-done.ensures.passes;
    }
