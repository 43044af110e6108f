use Rattle.std.proofs.Common.{sym, ap, ◌∙◌, map, codes, inl, inr}
use Rattle.std.specs.Prelude.{Some}
use Rattle.std.specs.List.{list_any}
use Rattle.clap.proofs.WalkLemmas.{raw_values-rows}
use Rattle.clap.specs.Words.{found_of}
use Rattle.fidl_command_line.specs.Arguments.{is_one_path}
use Rattle.fidl_command_line.proofs.Commands.{some_value, no_value}
use Rattle.fidl_command_line.proofs.arguments.read_compile.Goals as goal

pub returns-in_default-clause-fault_is_true : goal.returns-in_default-clause-fault_is_true
returns-in_default-clause-fault_is_true c = inl (no_value _ _ _ c.in_default.is c.value_of.ensures)

pub returns-in_default-get_strs-clause-fault_is_true : goal.returns-in_default-get_strs-clause-fault_is_true
returns-in_default-get_strs-clause-fault_is_true c = inr (no_value _ _ _ c.in_default-get_strs.is (c.get_strs.ensures ∙ raw_values-rows (found_of c.args.matches.now) (codes "FILE")))

pub returns-then-is_source-clause-fault_is_true : goal.returns-then-is_source-clause-fault_is_true
returns-then-is_source-clause-fault_is_true c =
    let found = found_of c.args.matches.now in
    record {
      file = c.in-Some.out.now;
      sources = map (λ n. n.now) c.in-Some-get_strs.names.now;
      out = some_value _ _ _ _ c.in-Some.is c.value_of.ensures;
      given = some_value _ _ _ _ c.in-Some-get_strs.is (c.get_strs.ensures ∙ raw_values-rows found (codes "FILE"));
      among = sym c.in_ok-is_source.ensures ∙ c.if-is_source.true;
    }

pub returns-clause-ok : goal.returns-clause-ok
returns-clause-ok c =
    let found = found_of c.args.matches.now in
    let names = c.in_ok-sources.ensures.items in
    record {
      out = some_value _ _ _ _ c.in-Some.is c.value_of.ensures;
      snippet = c.is_given.ensures;
      sources = some_value _ _ _ _ c.in-Some-get_strs.is (c.get_strs.ensures ∙ raw_values-rows found (codes "FILE")) ∙ ap (λ ns. Some (map (λ n. n.now) ns)) (sym names);
      apart = ap (λ ns. list_any (is_one_path c.in-Some.out.now) (map (λ n. n.now) ns)) names ∙ sym c.in_ok-is_source.ensures ∙ c.if-is_source.false;
    }
