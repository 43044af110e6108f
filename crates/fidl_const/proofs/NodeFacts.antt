-- What declarations and members are, by what names of them mean.
use Rattle.std.proofs.Common.{◌≡◌, ℕ, List, Some, ap, sym, subst, ◌∙◌}
use Rattle.std.specs.Prelude.{slice_get}
use Rattle.fidl_tree.specs.declared.file.File.{File}
use Rattle.fidl_tree.specs.declared.value_member.ValueMember.{ValueMember}
use Rattle.fidl_tree.specs.declared.type_constructor.ValuesLayout.{ValuesLayout, out-ValuesLayout}
use Rattle.fidl_named.specs.declared.place.Place.{Place}
use Rattle.fidl_named.specs.declared.place.DeclarationId.{DeclarationId}
use Rattle.fidl_named.specs.declared.meaning.Meaning.{Meaning}
use Rattle.fidl_named.specs.declared.meaning.Meaning.TheVariants as meaning
use Rattle.fidl_consts.specs.Types.{IsValuesAt}
use Rattle.fidl_consts.specs.Dependencies.{IsNode}

-- a member with its layout and file
pub record IsMemberAt (fs : List File) (p : DeclarationId) (i : ℕ) : Type 0 where
  pub file : File
  pub layout : ValuesLayout
  pub value : ValueMember
  pub at : IsValuesAt fs p file layout
  pub there : slice_get (out-ValuesLayout layout).members.items i ≡ Some value

pub node_member : (fs : List File) (m : Meaning) (f : File) (place : Place) (p : DeclarationId) (i : ℕ) → m ≡ meaning.Member p i → IsNode fs m f place → IsMemberAt fs p i
node_member fs m f place p i is (IsNode.declaration q g d at) = absurd (cc)
node_member fs m f place p i is (IsNode.member q g l j v here there) =
    let same : q ≡ p = cc in
    let number : j ≡ i = cc in
    record {
      file = g;
      layout = l;
      value = v;
      at = subst (λ (x : DeclarationId). IsValuesAt fs x g l) same here;
      there = ap (slice_get (out-ValuesLayout l).members.items) (sym number) ∙ there;
    }
