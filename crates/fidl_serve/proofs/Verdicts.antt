-- What a verdict says of its frame.
use Rattle.std.proofs.Common.{◌≡◌, ℕ, List, Bool, true, false, cond, refl}
use Rattle.std.specs.Prelude.{IsTrue, not, ◌==◌}
use Rattle.fidl_verify.specs.Lookups.{TableProtocol, protocol_record}
use Rattle.fidl_requests.specs.declared.ended.Ended.TheVariants.{StrictUnknown}
use Rattle.fidl_requests.specs.declared.verdict.Verdict.{Verdict}
use Rattle.fidl_requests.specs.declared.verdict.Verdict.TheVariants.{Silence, Unknown, Call, End}
use Rattle.fidl_requests.specs.Methods.{IsRequested, IsUnrequested, is_two_way}
use Rattle.fidl_requests.specs.Verdict.{frame_head, IsVerdict, no_header, unknown, wrong_call, bad_body, called}

-- a two-way call of a method of the protocol
pub record IsCall (p : TableProtocol) (frame : List ℕ) (txid ordinal : ℕ) : Type 0 where
  pub number : ℕ
  pub requested : IsRequested p (frame_head frame).ordinal number
  pub two_way : IsTrue (is_two_way p.table number)
  pub txid_is : (frame_head frame).txid ≡ txid
  pub ordinal_is : (frame_head frame).ordinal ≡ ordinal

-- a call of no method with a request that is replied to
pub record IsUnknownCall (p : TableProtocol) (frame : List ℕ) (txid ordinal : ℕ) : Type 0 where
  pub unrequested : IsUnrequested p (frame_head frame).ordinal
  pub txid_is : (frame_head frame).txid ≡ txid
  pub ordinal_is : (frame_head frame).ordinal ≡ ordinal

-- what each verdict says
abbrev Says : TableProtocol → (frame : List ℕ) → Verdict → Type 0
Says p frame Silence = Unit {0}
Says p frame (Unknown txid ordinal) = IsUnknownCall p frame txid ordinal
Says p frame (Call txid ordinal) = IsCall p frame txid ordinal
Says p frame (End e) = Unit {0}

unknown_says : (p : TableProtocol) (frame : List ℕ) (a b c d : Bool) → IsUnrequested p (frame_head frame).ordinal
    → Says p frame (cond a (End StrictUnknown) (cond b (cond c (End StrictUnknown) Silence) (cond d (Unknown (frame_head frame).txid (frame_head frame).ordinal) (End StrictUnknown))))
unknown_says p frame true b c d u = tt
unknown_says p frame false true true d u = tt
unknown_says p frame false true false d u = tt
unknown_says p frame false false c true u = record { unrequested = u; txid_is = refl; ordinal_is = refl }
unknown_says p frame false false c false u = tt

call_says : (p : TableProtocol) (frame : List ℕ) (number : ℕ) (b : Bool) → is_two_way p.table number ≡ b → IsRequested p (frame_head frame).ordinal number → Says p frame (cond b (Call (frame_head frame).txid (frame_head frame).ordinal) Silence)
call_says p frame number true e r = record {
  number = number;
  requested = r;
  two_way = e;
  txid_is = refl;
  ordinal_is = refl;
}
call_says p frame number false e r = tt

says : (p : TableProtocol) (frame : List ℕ) (v : Verdict) → IsVerdict p frame v → Says p frame v
says p frame _ (no_header h) = tt
says p frame _ (unknown h u) = unknown_says p frame (not (frame_head frame).flexible) ((frame_head frame).txid == 0) ((protocol_record p).openness == 0) ((protocol_record p).openness == 2) u
says p frame _ (wrong_call number h r c) = tt
says p frame _ (bad_body number h r c b) = tt
says p frame _ (called number h r c b) = call_says p frame number (is_two_way p.table number) refl r

pub call_is : (p : TableProtocol) (frame : List ℕ) (txid ordinal : ℕ) → IsVerdict p frame (Call txid ordinal) → IsCall p frame txid ordinal
call_is p frame txid ordinal i = says p frame (Call txid ordinal) i

pub unknown_is : (p : TableProtocol) (frame : List ℕ) (txid ordinal : ℕ) → IsVerdict p frame (Unknown txid ordinal) → IsUnknownCall p frame txid ordinal
unknown_is p frame txid ordinal i = says p frame (Unknown txid ordinal) i
