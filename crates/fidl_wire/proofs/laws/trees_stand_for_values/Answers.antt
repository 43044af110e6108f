-- A variant is its level rolled up, whose fold is the step; the fold of a list or a union's content is its step once more.
use Rattle.std.proofs.Common.{sym, ap, ◌∙◌}
use Rattle.fidl_wire.specs.Value.{list, fields, table, union}
use Rattle.fidl_wire.specs.Views.{value_view}
use Rattle.fidl_wire.specs.declared.value.Value.{Value-F, fold-roll-Value}
use Rattle.fidl_wire.specs.declared.value.Values.{fold_out-Values}
use Rattle.fidl_wire.specs.declared.value.Members.{fold_out-Members}
use Rattle.fidl_wire.specs.declared.value.Content.{fold_out-Content}
use Rattle.fidl_wire.specs.declared.value.Value.TheVariants.{rolls-Absent, rolls-Bool, rolls-Number, rolls-Text, rolls-List, rolls-Fields, rolls-Handle, rolls-Table, rolls-Union}
use Rattle.fidl_wire.proofs.laws.trees_stand_for_values.Goals as goal

pub returns-clause-absence : goal.returns-clause-absence
returns-clause-absence c = ap value_view (sym rolls-Absent) ∙ fold-roll-Value _ _ _ _ _ _ _ _ _ _ Value-F.Absent

pub returns-clause-bools : goal.returns-clause-bools
returns-clause-bools c b = ap value_view (sym (rolls-Bool b)) ∙ fold-roll-Value _ _ _ _ _ _ _ _ _ _ (Value-F.Bool b)

pub returns-clause-numbers : goal.returns-clause-numbers
returns-clause-numbers c z = ap value_view (sym (rolls-Number z)) ∙ fold-roll-Value _ _ _ _ _ _ _ _ _ _ (Value-F.Number z)

pub returns-clause-texts : goal.returns-clause-texts
returns-clause-texts c bytes = ap value_view (sym (rolls-Text bytes)) ∙ fold-roll-Value _ _ _ _ _ _ _ _ _ _ (Value-F.Text bytes)

pub returns-clause-lists : goal.returns-clause-lists
returns-clause-lists c vs = ap value_view (sym (rolls-List vs)) ∙ fold-roll-Value _ _ _ _ _ _ _ _ _ _ (Value-F.List vs) ∙ ap list (fold_out-Values _ _ _ _ _ _ _ _ _ _ vs)

pub returns-clause-structs : goal.returns-clause-structs
returns-clause-structs c vs = ap value_view (sym (rolls-Fields vs)) ∙ fold-roll-Value _ _ _ _ _ _ _ _ _ _ (Value-F.Fields vs) ∙ ap fields (fold_out-Values _ _ _ _ _ _ _ _ _ _ vs)

pub returns-clause-handles : goal.returns-clause-handles
returns-clause-handles c h = ap value_view (sym (rolls-Handle h)) ∙ fold-roll-Value _ _ _ _ _ _ _ _ _ _ (Value-F.Handle h)

pub returns-clause-tables : goal.returns-clause-tables
returns-clause-tables c n ms = ap value_view (sym (rolls-Table n ms)) ∙ fold-roll-Value _ _ _ _ _ _ _ _ _ _ (Value-F.Table n ms) ∙ ap (table n) (fold_out-Members _ _ _ _ _ _ _ _ _ _ ms)

pub returns-clause-unions : goal.returns-clause-unions
returns-clause-unions c ordinal m = ap value_view (sym (rolls-Union ordinal m)) ∙ fold-roll-Value _ _ _ _ _ _ _ _ _ _ (Value-F.Union ordinal m) ∙ ap (union ordinal) (fold_out-Content _ _ _ _ _ _ _ _ _ _ m)
