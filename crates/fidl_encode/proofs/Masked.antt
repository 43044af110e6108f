-- The numbers of enums, by their entry.
use Rattle.std.proofs.Common.{◌≡◌, ℕ, ℤ, List, [], refl, sym, subst, ◌∙◌, length}
use Rattle.std.specs.Prelude.{◌≢◌, IfSome, Contains}
use Rattle.fidl_wire.specs.Term as ty
use Rattle.fidl_wire.specs.Value.{Value, absent, number}
use Rattle.fidl_wire.specs.Figure.{Declarations}
use Rattle.fidl_wire.specs.Typed.{IsTyped, InRange}
use Rattle.fidl_wire.specs.Encoding.{number_bytes}
use Rattle.fidl_table_format.specs.declared.record.Entry.{Entry}
use Rattle.fidl_table_format.specs.Section.{header_of}
use Rattle.fidl_table_format.specs.Terms.{underlying, strict_values, value_number}
use Rattle.fidl_encode.specs.declared.fault.EncodeFault.TheVariants.{UnknownValue}
use Rattle.fidl_encode.specs.Broken.{Breaks}
use Rattle.fidl_encode.specs.Writing.{Written, IsOver, IsWithin}
use Rattle.fidl_encode.specs.Parts.{value_part, IsWritten}
use Rattle.fidl_encode.proofs.Adding.{append-nil}
use Rattle.fidl_encode.proofs.Ending.{written_inline, within_same}

module _ (ds : Declarations) (t : List ℕ) (v : Value) (e f : Entry) (same : e ≡ f) where
  abbrev term : Entry → ty.Term
  term e = ty.enum (underlying e) (strict_values t (header_of t) e)

  abbrev number_is : ℕ → ℤ
  number_is w = value_number (underlying e) w

  abbrev Lists : ℤ → Type 0
  Lists z = IfSome (strict_values t (header_of t) e) (λ zs. Contains zs z)

  -- a value that is no number in range is not of the enum
  pub enum_none : ((z : ℤ) → InRange (underlying e) z → v ≢ number z) → IsTyped ds (term f) v → ⊥
  enum_none none h = by v none (subst (λ e. IsTyped ds (term e) v) (sym same) h)
    where
      by : (v : Value) → ((z : ℤ) → InRange (underlying e) z → v ≢ number z) → IsTyped ds (term e) v → ⊥
      by absent none h = h
      by (number z) none h = none z h.0 refl
      by _ none h = h

  -- a number in range that it does not list is no value of it
  pub enum_unlisted : (w : ℕ) → v ≡ number (number_is w) → InRange (underlying e) (number_is w) → (Lists (number_is w) → ⊥) → Breaks ds (term f) v UnknownValue
  enum_unlisted w is range not =
      subst (λ e. Breaks ds (term e) v UnknownValue) same (subst (λ v. Breaks ds (term e) v UnknownValue) (sym is) (range, not))

  pub enum_written : (w depth at : ℕ) (a b : Written) → v ≡ number (number_is w) → InRange (underlying e) (number_is w) → Lists (number_is w)
      → IsOver a.bytes b.bytes at (number_bytes (underlying e) (number_is w)) → length b.bytes ≡ length a.bytes → b.handles ≡ a.handles → IsWithin a
      → IsWritten (value_part ds (term f) v) depth at a b
  enum_written w depth at a b is range lists over long beside within =
      subst (λ e. IsWritten (value_part ds (term e) v) depth at a b) same
      (subst (λ v. IsWritten (value_part ds (term e) v) depth at a b) (sym is)
      (written_inline (value_part ds (term e) (number (number_is w))) depth at a b (number_bytes (underlying e) (number_is w)) [] (range, lists) refl refl over long (beside ∙ sym (append-nil a.handles)) (within_same a b long beside within)))
