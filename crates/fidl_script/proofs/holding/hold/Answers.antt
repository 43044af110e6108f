use Rattle.std.proofs.Common.{◌++◌, ◌∷◌, [], List, append-nil, sym, ap, ◌∙◌}
use Rattle.std.specs.Prelude.{not}
use Rattle.fidl_table_format.specs.declared.record.MethodRecord.{MethodRecord}
use Rattle.fidl_table_format.specs.Method.{is_strict}
use Rattle.fidl_script.specs.Script.{Replies}
use Rattle.fidl_script.specs.Held.{bodies_view, replies_of}
use Rattle.fidl_script.proofs.Looking.{same_record}
use Rattle.fidl_script.proofs.Given.{one_way, two_way_held, nothing_in}
use Rattle.fidl_script.proofs.holding.hold.Goals as goal

pub returns-in_default-clause-held : goal.returns-in_default-clause-held
returns-in_default-clause-held c so =
    let old = c.args.held.now.items in
    sym (ap (λ (l : List Replies). old ++ l) (one_way c.args.methods.now c.args.place (bodies_view c.args.bodies.items) c.requires c.in_default.ensures.none) ∙ append-nil old)

pub returns-then-is_empty-clause-none : goal.returns-then-is_empty-clause-none
returns-then-is_empty-clause-none c so = (c.in-Some.ensures.two_way, nothing_in c.args.bodies.items _ c.args.bodies.ok.0 (sym c.is_empty.ensures ∙ c.if-is_empty.true))

pub returns-clause-held : goal.returns-clause-held
returns-clause-held c so =
    let p = c.args.methods.now in
    let place = c.args.place in
    let old = c.args.held.now.items in
    let bodies = bodies_view c.args.bodies.items in
    let known = c.in-Some.ensures in
    let same = ap (λ (r : MethodRecord). replies_of r.ordinal (not (is_strict r)) bodies) (same_record p place c.in-Some.method known.table known.found) in
    c.in_ok-push.ensures.items ∙ ap (λ (r : Replies). old ++ r ∷ []) (c.new.ensures ∙ same) ∙ ap (λ (l : List Replies). old ++ l) (sym (two_way_held p place bodies known.two_way))
