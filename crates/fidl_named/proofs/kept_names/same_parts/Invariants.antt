use Rattle.std.proofs.Common.{◌≡◌, map, take}
use Rattle.fidl_tree.specs.declared.path.PathPart.{PathPart}
use Rattle.fidl_named.proofs.kept_names.same_parts.Given as goal

-- the names so far are the same
abbrev pub invariant-loop-index : goal.invariant-loop-index
invariant-loop-index l = take l.index (map (λ (q : PathPart). q.name) l.one) ≡ take l.index (map (λ (q : PathPart). q.name) l.other)
