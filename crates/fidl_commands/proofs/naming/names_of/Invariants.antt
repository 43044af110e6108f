use Rattle.std.proofs.Common.{◌≡◌, ◌++◌, ◌-◌, map}
use Rattle.fidl_table_format.specs.Section.{header_of}
use Rattle.fidl_commands.specs.Naming.{count_of, name_of, names_of, names_from}
use Rattle.fidl_commands.proofs.naming.names_of.Given as goal

-- the names so far, and those that are left
abbrev pub invariant-loop-index : goal.invariant-loop-index
invariant-loop-index l =
    let count = count_of l.fn.named (header_of l.fn.table) in
    names_of l.fn.named l.fn.table ≡ map (λ n. n.now) l.names.items ++ names_from (name_of l.fn.named l.fn.table) l.index (count - l.index)
