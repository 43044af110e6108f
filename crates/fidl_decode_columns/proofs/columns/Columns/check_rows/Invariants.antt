use Rattle.std.proofs.Common.{◌+◌, ◌-◌, ◌*◌, ◌≤◌}
use Rattle.std.specs.Prelude.{IfNone}
use Rattle.fidl_table_format.specs.Section.{header_of}
use Rattle.fidl_table_format.specs.Terms.{declarations_of}
use Rattle.fidl_decode_model.specs.Faults.{message_of}
use Rattle.fidl_decode_model.specs.Rows.{table_rows, RowsRise}
use Rattle.fidl_decode_columns.specs.Columns.{IsFirstWrong, IsReadTo, IsBroken, IsWindow}
use Rattle.fidl_decode_columns.proofs.columns.Columns.check_rows.Given as goal

-- each struct before the first that is wrong is read up to this row
abbrev pub invariant-loop-i : goal.invariant-loop-i
invariant-loop-i l = record {
  rise : RowsRise (declarations_of l.self.table.now) (header_of l.self.table.now).entries l.structs.entry.nest l.structs.entry.size l.done (table_rows l.self.table.now (header_of l.self.table.now) l.i (l.structs.entry.first + l.structs.entry.count - l.i));
  wrong : IsFirstWrong (IsReadTo l.self.table.now (message_of l.self.links.now.came l.self.handles.now) l.structs l.i l.done) (IsBroken l.self.table.now (message_of l.self.links.now.came l.self.handles.now) l.structs) l.structs.count l.wrong;
  window : IsWindow l.self.links.now.came l.structs.base l.structs.entry.size l.window;
  below : l.i ≤ l.structs.entry.first + l.structs.entry.count;
  least : IfNone l.wrong (l.fn.steps + l.structs.count * (l.i - l.structs.entry.first) ≤ l.steps);
  grows : l.fn.steps ≤ l.steps;
  cost : l.steps ≤ l.fn.steps + 17 * (l.structs.count * l.done);
}
