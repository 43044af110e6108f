-- What limits say of the strings that keep to them, and of those that don't.
use Rattle.std.proofs.Common.{◌≡◌, ◌<◌, ◌≤◌, ℕ, List, Option, Some, None, true, false, ap, inr, arith}
use Rattle.std.specs.Prelude.{IfSome, IsSomeAnd}
use Rattle.fidl_span.specs.declared.words.Span.{Span}
use Rattle.fidl_tree.specs.declared.file.File.{File}
use Rattle.fidl_tree.specs.Syntax.{Value}
use Rattle.fidl_tree.specs.declared.type_constructor.TypeConstructor.{TypeConstructor}
use Rattle.fidl_tree.specs.declared.declaration.ConstDeclaration.{ConstDeclaration}
use Rattle.fidl_named.specs.declared.place.DeclarationId.{DeclarationId}
use Rattle.fidl_tree.specs.Views.{type_view, value_view}
use Rattle.fidl_consts.specs.declared.consts.Limits.{Limits}
use Rattle.fidl_consts.specs.declared.fault.ConstFault.TheVariants.{OutOfRange, WrongKind}
use Rattle.fidl_consts.specs.Refusals.{type_span, value_span}
use Rattle.fidl_consts.specs.Strings.{Allows, IsConstraintOf, IsExceeded, IsOptionalText, TextFails, TextFits, long, optional}
use Rattle.fidl_consts.specs.Tables.{AreLimits, IsBoundAmong, IsMemoryOr}

-- a string that isn't longer than the limit is no longer than what the limit keeps to
within_limit : (fs : List File) (h : File) (v : Value) (count : ℕ) (o : Option ℕ) → IsSomeAnd o (Allows fs h v) → (IsSomeAnd o (λ bound. bound < count) → ⊥) → Allows fs h v count
within_limit fs h v count None allows not = absurd (allows)
within_limit fs h v count (Some bound) allows not =
    let below = allows.within in
    let keeps : count ≤ bound = omega (arith, not) in
    record { bound = allows.bound; no_word = allows.no_word; is = allows.is; within = omega (arith, below, keeps) }

pub fits_limits : (fs : List File) (n : ℕ) (f : File) (t : TypeConstructor) (limits : Limits) (count : ℕ) → AreLimits fs (IsConstraintOf fs n f t) limits → limits.optional ≡ false
    → (IsSomeAnd limits.greatest (λ bound. bound < count) → ⊥) → TextFits fs n f t count
fits_limits fs n f t limits count are plain not = λ of_number h v among. within_limit fs h v count limits.greatest (are.plain plain of_number h v among) not

exceeds_bound : (fs : List File) (n : ℕ) (f : File) (t : TypeConstructor) (count : ℕ) (o : Option ℕ) → IfSome o (IsBoundAmong fs (IsConstraintOf fs n f t)) → IsSomeAnd o (λ bound. bound < count) → IsExceeded fs n f t count
exceeds_bound fs n f t count None among past = absurd (past)
exceeds_bound fs n f t count (Some bound) among past = record {
  of_number = among.of_number;
  file = among.file;
  value = among.value;
  bound = bound;
  constraint = among.among;
  is = among.is;
  past = past;
}

module _ (fs : List File) (p : DeclarationId) (f : File) (c : ConstDeclaration) (limits : Limits) (count : ℕ) (are : AreLimits fs (IsConstraintOf fs p.file f c.constructor) limits) where
  pub long_fails : (s : Span) → s ≡ value_span (value_view c.value) → IsSomeAnd limits.greatest (λ bound. bound < count) → IsMemoryOr (TextFails fs p f c count) (OutOfRange (record { file = p.file; span = s }))
  long_fails s is past =
      inr (long (exceeds_bound fs p.file f c.constructor count limits.greatest are.reached past) (ap (λ (x : Span). OutOfRange (record { file = p.file; span = x })) is))

  pub optional_fails : (s : Span) → s ≡ type_span (type_view c.constructor) → limits.optional ≡ true → IsMemoryOr (TextFails fs p f c count) (WrongKind (record { file = p.file; span = s }))
  optional_fails s is word =
      let k = are.word word in
      let text : IsOptionalText fs p.file f c.constructor = record { of_number = k.of_number; file = k.file; value = k.value; constraint = k.among; word = k.word } in
      inr (optional text (ap (λ (x : Span). WrongKind (record { file = p.file; span = x })) is))
