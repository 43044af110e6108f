-- What declarations and members have, as code finds it.
use Rattle.std.proofs.Common.{◌≡◌, ℕ, List, Some, None, refl, ap, sym, subst, ◌∙◌}
use Rattle.std.specs.Prelude.{slice_get}
use Rattle.fidl_tree.specs.declared.file.File.{File}
use Rattle.fidl_tree.specs.declared.value_member.ValueMember.{ValueMember}
use Rattle.fidl_tree.specs.declared.type_constructor.ValuesLayout.{ValuesLayout, out-ValuesLayout}
use Rattle.fidl_tree.specs.declared.declaration.Declaration.{Declaration}
use Rattle.fidl_tree.specs.declared.declaration.DeclarationBody.TheVariants.{Const, Alias}
use Rattle.fidl_tree.specs.declared.declaration.AliasDeclaration.{AliasDeclaration}
use Rattle.fidl_tree.specs.declared.declaration.ConstDeclaration.{ConstDeclaration}
use Rattle.fidl_named.specs.declared.place.DeclarationId.{DeclarationId}
use Rattle.fidl_named.specs.declared.meaning.Meaning.{Meaning}
use Rattle.fidl_named.specs.declared.meaning.Meaning.TheVariants as meaning
use Rattle.fidl_named.specs.Aliases.{IsAliasAt}
use Rattle.fidl_named.specs.Constraints.{IsDeclarationAt, ordinary}
use Rattle.fidl_consts.specs.declared.consts.Entry.{Entry}
use Rattle.fidl_consts.specs.declared.consts.Limits.{Limits}
use Rattle.fidl_consts.specs.declared.fault.ConstFault.{ConstFault}
use Rattle.fidl_consts.specs.PlainValues.{seen, text_length}
use Rattle.fidl_consts.specs.Types.{IsConstAt, IsStringType, IsValuesAt, constraints_of}
use Rattle.fidl_consts.specs.Values.{HasValue, Offers, constant, member, maximum}
use Rattle.fidl_consts.specs.Dependencies.{IsKnownNode}
use Rattle.fidl_consts.specs.Strings.{BoundFails, IsConstraintOf, TextFits}
use Rattle.fidl_const.specs.Evaluating.{ConstantFails, Fails}
use Rattle.fidl_consts.specs.Evaluated.{ConstantHolds}
use Rattle.fidl_consts.specs.Tables.{AreLimits, IsMemoryOr}
use Rattle.fidl_const.specs.Columns.{IsFound}
use Rattle.fidl_named.proofs.ResolvedMeanings.{one_alias, one_file as alias_file}
use Rattle.fidl_consts.proofs.Standing.{one_file, one_declaration}
use Rattle.fidl_const.proofs.NodeFacts.{node_member}
use Rattle.fidl_consts.proofs.Reports.{reports_more}

module _ (fs : List File) (p : DeclarationId) where
  alias_stands : (f : File) (a : AliasDeclaration) (h : IsAliasAt fs p f a) → IsDeclarationAt fs p f h.declaration
  alias_stands f a h = record { file_at = h.file_at; stands = h.stands }

  -- what has an id is no constant and alias both
  const_or_alias : (f g : File) (c : ConstDeclaration) (a : AliasDeclaration) → IsConstAt fs p f c → IsAliasAt fs p g a → ⊥
  const_or_alias f g c a h k =
      let bodies : Const c ≡ Alias a = sym h.body ∙ ap (λ (d : Declaration). d.body) (one_declaration fs p f g h.declaration k.declaration h.at (alias_stands g a k)) ∙ k.body in
      cc

  one_const : (f g : File) (c d : ConstDeclaration) → IsConstAt fs p f c → IsConstAt fs p g d → c ≡ d
  one_const f g c d h k =
      let bodies : Const c ≡ Const d = sym h.body ∙ ap (λ (x : Declaration). x.body) (one_declaration fs p f g h.declaration k.declaration h.at k.at) ∙ k.body in
      cc

-- a constant
module _ (fs : List File) (p : DeclarationId) (f : File) (c : ConstDeclaration) (at : IsConstAt fs p f c) where
  pub found_const : (e : Entry) → Offers fs (meaning.Declared p) e.own (seen e.value) → (IsStringType fs f c.constructor → TextFits fs p.file f c.constructor (text_length (seen e.value)))
      → IsFound fs (meaning.Declared p) (record { value = Some e; limits = None })
  found_const e offers text = record {
    value = offers;
    no_value = λ none has. absurd (cc);
    limits = λ q g a is h. tt;
    no_limits = λ none q g a is h string.
        let same : q ≡ p = cc in
        const_or_alias fs p f g c a at (subst (λ (x : DeclarationId). IsAliasAt fs x g a) same h);
    holds = λ q g d is h.
        let same : p ≡ q = cc in
        holds_at q same g d h;
  }
    where
      holds : ConstantHolds fs p f c
      holds = record { own = e.own; known = seen e.value; offers = offers; text = text }

      holds_at : (q : DeclarationId) → p ≡ q → (g : File) (d : ConstDeclaration) → IsConstAt fs q g d → ConstantHolds fs q g d
      holds_at q same g d h =
          let here = subst (λ (x : DeclarationId). IsConstAt fs x g d) (sym same) h in
          let file = one_file fs p f g at.declaration here.declaration at.at here.at in
          let const = one_const fs p f g c d at here in
          subst (λ (x : DeclarationId). ConstantHolds fs x g d) same (subst (λ (x : File). ConstantHolds fs p x d) file (subst (ConstantHolds fs p f) const holds))

  pub const_reported : (fault : ConstFault) → IsMemoryOr (ConstantFails fs p f c) fault → IsMemoryOr (Fails fs) fault
  const_reported = reports_more (ConstantFails fs p f c) (Fails fs) (λ fault h. Fails.of_constant p f c at h)

-- no constant
value_of_const : (fs : List File) (p : DeclarationId) (m : Meaning) → m ≡ meaning.Declared p → ((f : File) (c : ConstDeclaration) → IsConstAt fs p f c → ⊥) → HasValue fs m → ⊥
value_of_const fs p m is none (maximum) = cc
value_of_const fs p m is none (constant q f c at) = let same : q ≡ p = cc in none f c (subst (λ (x : DeclarationId). IsConstAt fs x f c) same at)
value_of_const fs p m is none (member q f l i v at there) = cc

module _ (fs : List File) (p : DeclarationId) (no_const : (f : File) (c : ConstDeclaration) → IsConstAt fs p f c → ⊥) where
  no_holds : (q : DeclarationId) (g : File) (c : ConstDeclaration) → meaning.Declared p ≡ meaning.Declared q → IsConstAt fs q g c → ConstantHolds fs q g c
  no_holds q g c is h = let same : q ≡ p = cc in absurd (no_const g c (subst (λ (x : DeclarationId). IsConstAt fs x g c) same h))

  -- an alias of strings
  pub found_limits : (f : File) (a : AliasDeclaration) (l : Limits) → IsAliasAt fs p f a → AreLimits fs (IsConstraintOf fs p.file f a.constructor) l → IsFound fs (meaning.Declared p) (record { value = None; limits = Some l })
  found_limits f a l at are = record {
    value = tt;
    no_value = λ none has. value_of_const fs p (meaning.Declared p) refl no_const has;
    limits = λ q g b is h. let same : p ≡ q = cc in limits_at q same g b h;
    no_limits = λ none q g b is h string. cc;
    holds = λ q g c is h. no_holds q g c is h;
  }
    where
      limits_at : (q : DeclarationId) → p ≡ q → (g : File) (b : AliasDeclaration) → IsAliasAt fs q g b → AreLimits fs (IsConstraintOf fs q.file g b.constructor) l
      limits_at q same g b h =
          let here = subst (λ (x : DeclarationId). IsAliasAt fs x g b) (sym same) h in
          let file = alias_file fs p p f g a b at here refl in
          let alias = one_alias fs p p f g a b at here refl in
          subst (λ (x : DeclarationId). AreLimits fs (IsConstraintOf fs x.file g b.constructor) l) same
          (subst (λ (x : File). AreLimits fs (IsConstraintOf fs p.file x b.constructor) l) file
          (subst (λ (x : AliasDeclaration). AreLimits fs (IsConstraintOf fs p.file f x.constructor) l) alias are))

  -- what has neither
  pub found_nothing : ((g : File) (a : AliasDeclaration) → IsAliasAt fs p g a → IsStringType fs g a.constructor → ⊥) → IsFound fs (meaning.Declared p) (record { value = None; limits = None })
  found_nothing no_string = record {
    value = tt;
    no_value = λ none has. value_of_const fs p (meaning.Declared p) refl no_const has;
    limits = λ q g a is h. tt;
    no_limits = λ none q g a is h string.
        let same : q ≡ p = cc in
        no_string g a (subst (λ (x : DeclarationId). IsAliasAt fs x g a) same h) string;
    holds = λ q g c is h. no_holds q g c is h;
  }

-- of an alias, whether its type is one of strings
pub other_type : (fs : List File) (p : DeclarationId) (f : File) (a : AliasDeclaration) → IsAliasAt fs p f a → (IsStringType fs f a.constructor → ⊥) → (g : File) (b : AliasDeclaration) → IsAliasAt fs p g b → IsStringType fs g b.constructor → ⊥
other_type fs p f a at other g b h string =
    let file = alias_file fs p p f g a b at h refl in
    let alias = one_alias fs p p f g a b at h refl in
    other (subst (λ (x : AliasDeclaration). IsStringType fs f x.constructor) (sym alias) (subst (λ (x : File). IsStringType fs x b.constructor) (sym file) string))

pub bound_reported : (fs : List File) (p : DeclarationId) (f : File) (a : AliasDeclaration) → IsAliasAt fs p f a → IsStringType fs f a.constructor → (fault : ConstFault)
    → IsMemoryOr (BoundFails fs f p.file (ordinary f (constraints_of a.constructor))) fault → IsMemoryOr (Fails fs) fault
bound_reported fs p f a at string =
    reports_more (BoundFails fs f p.file (ordinary f (constraints_of a.constructor))) (Fails fs) (λ fault h. Fails.of_bound p f a at string h)

-- a member
module _ (fs : List File) (p : DeclarationId) (i : ℕ) (m : Meaning) (is : m ≡ meaning.Member p i) where
  pub found_member : (e : Entry) → Offers fs (meaning.Member p i) e.own (seen e.value) → IsFound fs m (record { value = Some e; limits = None })
  found_member e offers = record {
    value = subst (λ (x : Meaning). Offers fs x e.own (seen e.value)) (sym is) offers;
    no_value = λ none has. cc;
    limits = λ q g a other h. tt;
    no_limits = λ none q g a other h string. cc;
    holds = λ q g c other h. absurd (cc);
  }

  pub no_member : ((f : File) (l : ValuesLayout) (v : ValueMember) → IsValuesAt fs p f l → slice_get (out-ValuesLayout l).members.items i ≡ Some v → ⊥) → IsKnownNode fs m → ⊥
  no_member none known =
      let k = node_member fs m known.file known.place p i is known.is in
      none k.file k.layout k.value k.at k.there
