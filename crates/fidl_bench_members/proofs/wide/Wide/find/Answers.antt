use Rattle.std.proofs.Common.{◌≡◌, ℕ, List, ap, sym, ◌∙◌}
use Rattle.fidl_members.specs.Entries.{Owner, owner}
use Rattle.fidl_bench_members.proofs.wide.Wide.find.Goals as goal

pub invariant_of-result : goal.invariant_of-result
invariant_of-result c =
    let place = c.in_ok-place.place in
    let own : c.args.table.now ≡ place.slot.table.now = sym (ap (λ (o : Owner). o.0) c.in_ok-place.ensures.of) in
    record {
      of_inside = c.in_ok-find.ensures;
      of_outside = c.in_ok-find-2.ensures;
      of_place = c.in_ok-place.ensures.of;
      of_nested = c.in_ok-nested.ensures ∙ ap (λ (t : List ℕ). owner t c.entry.result) own ∙ c.entry.ensures.value;
      of_truth = c.in_ok-find-3.ensures.of;
    }
