-- The ordinals of a protocol's methods rise, so that each is of one place.
use Rattle.std.proofs.Common.{◌≡◌, ◌<◌, ℕ, suc, refl, arith, inl, inr}
use Rattle.std.proofs.lemmas.Bool.{cases_order}
use Rattle.fidl_verify.specs.Lookups.{TableProtocol, IsProtocolOfTable, protocol_record}
use Rattle.fidl_table_format.specs.Section.{header_of}
use Rattle.fidl_table_format.specs.Protocol.{methods_before}
use Rattle.fidl_verify.proofs.Ordered.{rising_keys}
use Rattle.fidl_verify.proofs.Ordinals.{ordinals_rise}
use Rattle.fidl_script.specs.Script.{method_of}

module _ (p : TableProtocol) (is : IsProtocolOfTable p) where
  next_rises : (j : ℕ) → suc j < (protocol_record p).methods → (method_of p j).ordinal < (method_of p (suc j)).ordinal
  next_rises j less =
      ordinals_rise p.table is.well_formed p.number (methods_before p.table (header_of p.table) p.number) (methods_before p.table (header_of p.table) (suc p.number)) is.within refl refl j (omega (arith, less))

  pub rises : (i j : ℕ) → i < j → j < (protocol_record p).methods → (method_of p i).ordinal < (method_of p j).ordinal
  rises i j less within = rising_keys (λ k. (method_of p k).ordinal) (protocol_record p).methods next_rises i j less within

  pub one_place : (i j : ℕ) → i < (protocol_record p).methods → j < (protocol_record p).methods → (method_of p i).ordinal ≡ (method_of p j).ordinal → i ≡ j
  one_place i j p q e =
      elim (cases_order i j) [
        | inl same ↦ same
        | inr (inl less) ↦ let up = rises i j less q in absurd (omega (arith, up, e))
        | inr (inr more) ↦ let up = rises j i more p in absurd (omega (arith, up, e))
      ]
