-- What the entries of a true table say.
use Rattle.std.proofs.Common.{◌≡◌, List, refl}
use Rattle.fidl_tree.specs.declared.file.File.{File}
use Rattle.fidl_named.specs.declared.meaning.Meaning.{Meaning}
use Rattle.fidl_named.specs.declared.meaning.Meaning.TheVariants as meaning
use Rattle.fidl_named.specs.declared.meaning.Predeclared.TheVariants as name
use Rattle.fidl_consts.specs.Values.{HasValue}
use Rattle.fidl_consts.specs.Dependencies.{IsKnownNode, IsNode}

module _ (files : List File) where
  -- what has a value, but for the greatest bound, is a declaration or a member
  pub known_with_value : (m : Meaning) → HasValue files m → (m ≡ meaning.Predeclared name.Max → ⊥) → IsKnownNode files m
  known_with_value _ HasValue.maximum other = absurd (other refl)
  known_with_value _ (HasValue.constant p f c stands) other = record { file = f; place = _; is = IsNode.declaration p f stands.declaration stands.at }
  known_with_value _ (HasValue.member p f l i m stands is) other = record { file = f; place = _; is = IsNode.member p f l i m stands is }
