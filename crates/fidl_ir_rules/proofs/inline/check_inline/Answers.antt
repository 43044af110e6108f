use Rattle.std.proofs.Common.{rules, ◌≡◌, ◌∙◌, ℕ, List, length, nat_lt, ap, arith}
use Rattle.std.specs.Prelude.{filter}
use Rattle.std.proofs.Math.ListN.{length-map}
use Rattle.std.specs.Global.{Vec}
use Rattle.fidl_cycles.specs.Cycles.{points_of, IsFirstEdge}
use Rattle.fidl_wire.specs.Term.{Term}
use Rattle.fidl_ir.specs.Terms.{definition_view, definitions_view}
use Rattle.fidl_ir_rules.specs.Inline.{inline_names}
use Rattle.fidl_ir_rules.proofs.Targets.{edge_within, none_in_itself, in_itself}
use Rattle.fidl_ir_rules.proofs.inline.check_inline.Goals as goal

pub find_cycle-requires : goal.find_cycle-requires
find_cycle-requires c = λ one other e.
    let ds = c.args.definitions.now in
    let long : length (definitions_view ds) ≡ length ds = length-map ds definition_view in
    let is_graph = ap (λ (g : List (Vec ℕ)). points_of g) c.deref.ensures.value ∙ c.in_ok-graph.ensures in
    let within = edge_within (definitions_view ds) (length ds) long (points_of c.deref.result.now) is_graph one other e in
    let graph_long = ap length is_graph in
    omega (arith, within, graph_long, length-map c.deref.result.now (λ (v : Vec ℕ). v.items), length-map (definitions_view ds) (λ (d : Term). filter (λ (i : ℕ). nat_lt i (length ds)) (inline_names d)), long)

pub returns-in-Ok-clause-ok : goal.returns-in-Ok-clause-ok
returns-in-Ok-clause-ok c =
    let ds = c.args.definitions.now in
    let is_graph = ap (λ (g : List (Vec ℕ)). points_of g) c.deref.ensures.value ∙ c.in_ok-graph.ensures in
    none_in_itself (definitions_view ds) (length ds) (length-map ds definition_view) (points_of c.deref.result.now) is_graph (c.in_ok-find_cycle.ensures.none (search (rules, c.in-Ok.is)))

pub returns-clause-fault_is_true : goal.returns-clause-fault_is_true
returns-clause-fault_is_true c = λ marks.
    let ds = c.args.definitions.now in
    let is_graph = ap (λ (g : List (Vec ℕ)). points_of g) c.deref.ensures.value ∙ c.in_ok-graph.ensures in
    let edge : IsFirstEdge (points_of c.deref.result.now) c.in-Err.cycle_edge.from c.in-Err.cycle_edge.to = search (rules, c.in_ok-find_cycle.ensures.cycle) in
    in_itself (definitions_view ds) (length ds) (length-map ds definition_view) (points_of c.deref.result.now) is_graph c.in-Err.cycle_edge.from c.in-Err.cycle_edge.to edge
