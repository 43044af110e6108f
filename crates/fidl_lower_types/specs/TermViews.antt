-- What types are at once, as the code has it, and what the code knows of the files.
use Rattle.std.specs.Prelude.{◌≡◌, List, [], ◌∷◌}
use Rattle.fidl_consts.specs.Tables.{AreConsts}
use Rattle.fidl_declarations.specs.FormViews.{forms_view}
use Rattle.fidl_constraints.specs.BehindViews.{use_view}
use Rattle.fidl_ir.specs.Terms.{term_view}
use Rattle.fidl_lower_types.specs.declared.sources.Sources.{Sources}
use Rattle.fidl_lower_types.specs.declared.node.Node.{Node as CodeNode}
use Rattle.fidl_lower_types.specs.declared.node.Node.TheVariants as code
use Rattle.fidl_lower_types.specs.Numbers.{all_forms}
use Rattle.fidl_lower_types.specs.NumberViews.{AreNumbers}
use Rattle.fidl_lower_types.specs.declared.node.Shape.{Shape}
use Rattle.fidl_wire.specs.Term.{Term}
use Rattle.fidl_lower_types.specs.Terms.{Node, leaf, holds, made_of}

abbrev pub node_view : CodeNode → Node
node_view (code.Leaf t) = leaf (term_view t)
node_view (code.Elements number next s) = holds number (use_view next) s

-- the files with the values of their constants, all their forms and the numbers of their layouts
pub record AreKnown (s : Sources) : Type 0 where
  pub consts : AreConsts s.named.now s.consts.now
  pub forms : forms_view s.forms.now ≡ all_forms s.named.now
  pub numbers : AreNumbers (all_forms s.named.now) s.numbers.now

-- the first shape of the second, that of the third and so on, the last one of this term
abbrev pub made_of_all : List Shape → Term → Term
made_of_all [] e = e
made_of_all (s ∷ ss) e = made_of s (made_of_all ss e)
