-- The bodies that a text spells.
use Rattle.std.proofs.Common.{◌≡◌, ◌≢◌, ◌≤◌, ◌+◌, ℕ, List, [], length, refl, sym, ap, subst, ◌∙◌}
use Rattle.fidl_limits.specs.declared.limits.TheConstants.{MAX_MESSAGE_BYTES}
use Rattle.fidl_wire.specs.Value.{Value}
use Rattle.fidl_wire.specs.Term as ty
use Rattle.fidl_wire.specs.declared.handle.HandleInfo.{HandleInfo}
use Rattle.fidl_wire.specs.Message.{Encodes}
use Rattle.fidl_table_format.specs.Terms.{declarations_of}
use Rattle.fidl_table_format.specs.WellFormed.{WellFormed}
use Rattle.fidl_spelling.specs.Spells.{Spelled, SpellsWithin}
use Rattle.fidl_spelling.proofs.WordLaws.{words_same}
use Rattle.fidl_encode.specs.Told.{IsTold}
use Rattle.fidl_encode.specs.declared.fault.EncodeFault.{EncodeFault}
use Rattle.fidl_encode.specs.declared.fault.EncodeFault.TheVariants.{Memory}
use Rattle.fidl_encode.proofs.Whole.{no_message}
use Rattle.fidl_reading.specs.Reads.{IfJudged, type_at}
use Rattle.fidl_reading.specs.declared.fault.NotationFault.{NotationFault}
use Rattle.fidl_reading.specs.declared.fault.NotationFault.TheVariants.{Syntax, UnknownName, OutOfRange, Repeated}
use Rattle.fidl_reading.specs.declared.fault.NotationFault.TheVariants as unread
use Rattle.fidl_reading.proofs.Named.{single_at}
use Rattle.fidl_script.specs.Script.{Body, FitsBehindHeader}
use Rattle.fidl_script.specs.Text.{HasBody, SpellsBody}
use Rattle.fidl_script.specs.Held.{body_view}
use Rattle.fidl_encode.specs.declared.message.Message.{Message}
use Rattle.std.specs.Prelude.{Option, Some, None, MatchOption, IfSome, IfNone, Result, Ok, Err, IfOk, OnOk}

-- a refusal to read says that there is no value, unless it is memory that ran out
pub judged_none : (Q : Type 0) (f : NotationFault) → f ≢ unread.Memory → IfJudged Q f → Q
judged_none Q (Syntax at) other h = h
judged_none Q (UnknownName at) other h = h
judged_none Q (OutOfRange at) other h = h
judged_none Q (Repeated at) other h = h
judged_none Q unread.Memory other h = absurd (other refl)

-- no body, as a refusal says
pub refused_body : {A E : Type 0} (r : Result (Option A) E) (P R : Type 0) (Q : A → Type 0) → IfOk r (λ found. found ≡ None) → OnOk r R → (R → P) → IfOk r (λ found. MatchOption found P Q)
refused_body (Ok None) P R Q e h g = g h
refused_body (Ok (Some x)) P R Q e h g = absurd (cc e)
refused_body (Err f) P R Q e h g = tt

-- what follows of a body, or of none
pub body_so : {A E : Type 0} (r : Result (Option A) E) (P R : Type 0) (Q S : A → Type 0) → (P → R) → ((x : A) → Q x → S x) → IfOk r (λ found. MatchOption found P Q) → IfOk r (λ found. MatchOption found R S)
body_so (Ok None) P R Q S f g h = f h
body_so (Ok (Some x)) P R Q S f g h = g x h
body_so (Err e) P R Q S f g h = tt

module _ (b : List ℕ) (entry : ℕ) where
  -- a value that is not encoded
  pub none_encoded : (v : Value) (f : EncodeFault) → IsTold (declarations_of b) (ty.named entry) v f → f ≢ Memory → (body : Body) → ¬ (HasBody b entry v body)
  none_encoded v f told other body h = no_message (declarations_of b) (ty.named entry) v f told other body.bytes body.handles h.encodes

  -- one that is encoded, where its message fits
  pub has_fitting : (v : Value) (m : Message) → Encodes (declarations_of b) (ty.named entry) v m.bytes.items m.handles.items → (o : Option Message) → IfSome o (λ x. (x ≡ m) × FitsBehindHeader (body_view x))
      → IfNone o (¬ (FitsBehindHeader (body_view m))) → MatchOption o ((body : Body) → ¬ (HasBody b entry v body)) (λ x. HasBody b entry v (body_view x))
  has_fitting v m encodes None fits none =
      λ body h. (
      let same : body.bytes ≡ m.bytes.items = ap (λ (n : List ℕ × List HandleInfo). n.0) (sym h.encodes.message ∙ encodes.message) in
      let short : 16 + length body.bytes ≤ MAX_MESSAGE_BYTES = h.short in
      none (subst (λ (l : List ℕ). 16 + length l ≤ MAX_MESSAGE_BYTES) same short)
      )
  has_fitting v m encodes (Some x) fits none = record {
    encodes = subst (λ (y : Message). Encodes (declarations_of b) (ty.named entry) v y.bytes.items y.handles.items) (sym fits.0) encodes;
    short = fits.1;
  }

  module _ (text : List ℕ) where
    -- a text that is not read
    pub none_read : ((v : Value) → ¬ (SpellsWithin (declarations_of b) (ty.named entry) text v)) → (body : Body) → ¬ (SpellsBody b entry text body)
    none_read none body h = none h.value h.spells

    module _ (w : WellFormed b) (v : Value) (read : SpellsWithin (declarations_of b) (ty.named entry) text v) where
      -- the value that was read is the only one
      only_value : (u : Value) → SpellsWithin (declarations_of b) (ty.named entry) text u → u ≡ v
      only_value u h =
          let same = words_same text text h.1.0 read.1.0 refl h.1.1 read.1.1 in
          sym (single_at b w entry v u read.1.0 [] [] read.1.3 (subst (λ ws. Spelled (declarations_of b) (type_at b entry) u ws []) same h.1.3)).0

      pub none_spelled : ((body : Body) → ¬ (HasBody b entry v body)) → (body : Body) → ¬ (SpellsBody b entry text body)
      none_spelled none body h = none body (subst (λ (u : Value). HasBody b entry u body) (only_value h.value h.spells) h.has)

      pub one_spelled : (body : Body) → HasBody b entry v body → SpellsBody b entry text body
      one_spelled body h = record { value = v; spells = read; has = h }
