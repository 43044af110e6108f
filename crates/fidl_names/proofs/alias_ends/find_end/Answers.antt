use Rattle.std.proofs.Common.{Option, sym, subst}
use Rattle.fidl_named.specs.declared.meaning.Meaning.{Meaning}
use Rattle.fidl_named.specs.declared.meaning.Meaning.TheVariants as meaning
use Rattle.fidl_named.specs.Meanings.{IsJust}
use Rattle.fidl_named.specs.Aliases.{Follows, IsEnd, further}
use Rattle.fidl_named.proofs.AliasFacts.{own_is_end}
use Rattle.fidl_names.proofs.alias_ends.find_end.Goals as goal

pub returns-in-None : goal.returns-in-None
returns-in-None c =
    let fs = c.args.names.now.set.now in
    let m = meaning.Declared c.args.id in
    subst (IsEnd fs m) (sym c.own_end.ensures)
    (own_is_end fs m (subst (λ (o : Option Meaning). IsJust (Follows fs m) o) c.in-None.is c.in_ok-next_meaning.ensures))

pub passed_end-requires-clause-follows : goal.passed_end-requires-clause-follows
passed_end-requires-clause-follows c =
    subst (λ (o : Option Meaning). IsJust (Follows c.args.names.now.set.now (meaning.Declared c.args.id)) o) c.in-Some.is c.in_ok-next_meaning.ensures

pub returns-in-Some : goal.returns-in-Some
returns-in-Some c =
    let just = subst (λ (o : Option Meaning). IsJust (Follows c.args.names.now.set.now (meaning.Declared c.args.id)) o) c.in-Some.is c.in_ok-next_meaning.ensures in
    record {
      resolved = further (meaning.Declared c.args.id) c.in-Some.next c.end_of-end.result.resolved just.0 c.end_of-end.ensures.resolved;
      passed = c.passed_end.ensures;
    }
