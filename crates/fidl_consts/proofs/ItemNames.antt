-- Constraints that are just names.
use Rattle.std.proofs.Common.{◌≡◌, ℕ, List, Option, Some, None, inr, refl, sym, ap, subst}
use Rattle.std.specs.Prelude.{Result, IfOk, IfErr, IfSome, IsNone}
use Rattle.std.proofs.lemmas.Result.{IfOk-weaker, IfErr-weaker}
use Rattle.fidl_span.specs.declared.words.Span.{Span}
use Rattle.fidl_tree.specs.declared.file.File.{File}
use Rattle.fidl_tree.specs.Syntax.{Path}
use Rattle.fidl_named.specs.declared.meaning.Meaning.{Meaning}
use Rattle.fidl_named.specs.Paths.{path_place}
use Rattle.fidl_named.specs.Constraints.{ItemMeans}
use Rattle.fidl_consts.specs.declared.const_type.ConstType.{ConstType}
use Rattle.fidl_consts.specs.declared.const_value.ConstValue.{ConstValue}
use Rattle.fidl_consts.specs.declared.consts.Entry.{Entry}
use Rattle.fidl_consts.specs.declared.fault.ConstFault.{ConstFault}
use Rattle.fidl_consts.specs.declared.fault.ConstFault.TheVariants.{WrongKind}
use Rattle.fidl_consts.specs.PlainValues.{seen}
use Rattle.fidl_consts.specs.Values.{Gives, Offers}
use Rattle.fidl_consts.specs.Tables.{IsMemoryOr}
use Rattle.fidl_consts.specs.Refusals.{Misfits, at}
use Rattle.fidl_consts.specs.Constraints.{ItemNameGives, ItemNameFails}

-- an option that isn't there, and one that is
pub none_is : {X : Type 0} (o : Option X) → o ≡ None → IsNone o
none_is o is = subst IsNone (sym is) refl

pub some_is : {X : Type 0} (P : X → Type 0) (o : Option X) → IfSome o P → (x : X) → o ≡ Some x → P x
some_is P o h x is = subst (λ o. IfSome o P) is h

module _ (fs : List File) (f : File) (n : ℕ) (end : Meaning) (rank : ℕ) (t : ConstType) (path : Path) where
  pub meant : (found : Option Meaning) → IfSome found (ItemMeans fs f (Some end) rank path) → (m : Meaning) → found ≡ Some m → ItemMeans fs f (Some end) rank path m
  meant found h m is = some_is (ItemMeans fs f (Some end) rank path) found h m is

  module _ (span : Span) (span_is : span ≡ path_place path) where
    pub unmeant : (found : Option Meaning) → found ≡ None → (IsNone found → (m : Meaning) → ItemMeans fs f (Some end) rank path m → ⊥) → IsMemoryOr (ItemNameFails fs f n end rank t path) (WrongKind (at n span))
    unmeant found is none = inr (ItemNameFails.nothing (none (none_is found is)) (ap (λ s. WrongKind (at n s)) span_is))

    module _ (found : Option Meaning) (h : IfSome found (ItemMeans fs f (Some end) rank path)) (m : Meaning) (is : found ≡ Some m) where
      pub misfit : (e : Entry) → Offers fs m e.own (seen e.value) → (r : Result ConstValue ConstFault) → IfErr r (λ fault. (files : List File) → Offers files m e.own (seen e.value) → Misfits files m t (at n span) fault)
          → IfErr r (IsMemoryOr (ItemNameFails fs f n end rank t path))
      misfit e offers r fault_is_true = IfErr-weaker r (λ fault. (files : List File) → Offers files m e.own (seen e.value) → Misfits files m t (at n span) fault) (IsMemoryOr (ItemNameFails fs f n end rank t path))
          (λ fault k. inr (ItemNameFails.misfit m (meant found h m is) (subst (λ s. Misfits fs m t (at n s) fault) span_is (k fs offers)))) fault_is_true

      pub gives : (e : Entry) → Offers fs m e.own (seen e.value) → (r : Result ConstValue ConstFault) → IfOk r (λ v. (files : List File) → Offers files m e.own (seen e.value) → Gives files m t (seen v))
          → IfOk r (λ v. ItemNameGives fs f end rank t path (seen v))
      gives e offers r ok = IfOk-weaker r (λ v. (files : List File) → Offers files m e.own (seen e.value) → Gives files m t (seen v)) (λ v. ItemNameGives fs f end rank t path (seen v))
          (λ v k. record { meaning = m; means = meant found h m is; gives = k fs offers }) ok
