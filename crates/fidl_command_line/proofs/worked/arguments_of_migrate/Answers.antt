use Rattle.std.proofs.Common.{◌≡◌, ℕ, List, refl, sym, ap, ◌∙◌, true, false, codes}
use Rattle.std.specs.Prelude.{Some}
use Rattle.std.specs.Path.{path_join, path_sort_key_from}
use Rattle.fidl_command_line.specs.Arguments.{is_one_path}
use Rattle.fidl_command_line.proofs.worked.arguments_of_migrate.Goals as goal

apart : is_one_path (codes "new.fct") (codes "old.fct") ≡ false
unfolding path_join path_sort_key_from
apart = refl

same : is_one_path (codes "./old.fct") (codes "old.fct") ≡ true
unfolding path_join path_sort_key_from
same = refl

-- an argument has one value
one_value : (x y : List ℕ) → Some x ≡ Some y → x ≡ y
one_value x y e = cc

pub returns-clause-given : goal.returns-clause-given
returns-clause-given c = λ rows given o t out table. record {
  out = o ∙ ap Some (sym out);
  table = t ∙ ap Some (sym table);
  apart = ap (λ (name : List ℕ). is_one_path name given.table.now) out ∙ ap (is_one_path (codes "new.fct")) table ∙ apart;
}

pub returns-clause-refused : goal.returns-clause-refused
returns-clause-refused c = λ rows given o t is.
    let out = one_value given.out.now (codes "./old.fct") (sym is.out ∙ o) in
    let table = one_value given.table.now (codes "old.fct") (sym is.table ∙ t) in
    let never : true ≡ false = sym same ∙ ap (is_one_path (codes "./old.fct")) (sym table) ∙ ap (λ (name : List ℕ). is_one_path name given.table.now) (sym out) ∙ is.apart in
    cc

pub returns-clause-told : goal.returns-clause-told
returns-clause-told c = λ rows o t. record {
  file = codes "./old.fct";
  table = codes "old.fct";
  out = o;
  given = t;
  same = same;
}

pub returns-clause-line : goal.returns-clause-line
returns-clause-line c = refl
