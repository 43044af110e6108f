-- The parts of a whole frame stand within it.
use Rattle.std.proofs.Common.{◌≡◌, ℕ, zero, suc, ◌+◌, ◌-◌, ◌*◌, ◌<◌, ◌≤◌, List, [], ◌∷◌, ◌++◌, true, length, take, drop, leb, arith, refl, sym, ap, subst, ◌∙◌}
use Rattle.std.specs.Prelude.{◌&&◌, set}
use Rattle.std.specs.Int.{w32, from_le_bytes}
use Rattle.std.proofs.lemmas.Grind.{common_steps}
use Rattle.std.proofs.lemmas.List.{take-take, drop-drop, take_rest, take_more_set}
use Rattle.std.proofs.lemmas.Slice.{between_is}
use Rattle.fidl_limits.specs.declared.limits.TheConstants.{MAX_MESSAGE_BYTES, MAX_MESSAGE_HANDLES}
use Rattle.fidl_wire.specs.Field.{number_at}
use Rattle.fidl_wire.specs.declared.handle.HandleInfo.{HandleInfo}
use Rattle.fidl_frames.specs.Frames.{frame_length, is_proper, IsFrame}
use Rattle.fidl_requests.specs.Frame.{message_length, handle_count, message_of, handle_of, handles_from, handles_of}

-- a number of the head is one of the frame
head_number : (frame : List ℕ) (place : ℕ) → place + 4 ≤ 8 → number_at w32 (take 8 frame) place ≡ number_at w32 frame place
head_number frame place within =
    ap (λ (l : List ℕ). from_le_bytes w32 l)
    (between_is (take 8 frame) place (place + 4) ∙ ap (λ (l : List ℕ). drop place l) (take-take (place + 4) 8 frame within) ∙ sym (between_is frame place (place + 4)))

-- the numbers of a whole frame's bytes and handles are within the limits, and its parts fill it
pub record Parts (frame : List ℕ) : Type 0 where
  pub short : message_length frame ≤ MAX_MESSAGE_BYTES
  pub few : handle_count frame ≤ MAX_MESSAGE_HANDLES
  pub long : length frame ≡ 8 + message_length frame + 12 * handle_count frame

-- two numbers within their limits
both_within : (a b : ℕ) → leb a MAX_MESSAGE_BYTES && leb b MAX_MESSAGE_HANDLES ≡ true → (a ≤ MAX_MESSAGE_BYTES) × (b ≤ MAX_MESSAGE_HANDLES)
both_within a b h = grind (arith, common_steps)

parts_by : (frame : List ℕ) (a b : ℕ) → a ≡ message_length frame → b ≡ handle_count frame → leb a MAX_MESSAGE_BYTES && leb b MAX_MESSAGE_HANDLES ≡ true → length frame ≡ 8 + a + 12 * b → Parts frame
parts_by frame a b e f proper long =
    let within = both_within a b proper in
    record { short = omega (arith, within.0, e); few = omega (arith, within.1, f); long = omega (arith, long, e, f) }

pub parts : (frame : List ℕ) → IsFrame frame → Parts frame
unfolding message_length handle_count frame_length is_proper
parts frame is = parts_by frame (number_at w32 (take 8 frame) 0) (number_at w32 (take 8 frame) 4) (head_number frame 0 (omega arith)) (head_number frame 4 (omega arith)) is.proper is.long

-- the handles of one record more
pub one_more : (k : ℕ) (bytes : List ℕ) → handles_from (suc k) bytes ≡ handles_from k bytes ++ handle_of (drop (12 * k) bytes) ∷ []
one_more zero bytes = refl
one_more (suc k) bytes =
    let e : 12 + 12 * k ≡ 12 * suc k = omega arith in
    ap (λ (l : List HandleInfo). handle_of bytes ∷ l) (one_more k (drop 12 bytes) ∙ ap (λ (l : List ℕ). handles_from k (drop 12 bytes) ++ handle_of l ∷ []) (drop-drop (12 * k) 12 bytes ∙ ap (λ (n : ℕ). drop n bytes) e))

-- the same of the bytes that a frame holds
pub parts_of : (bytes frame : List ℕ) → bytes ≡ frame → IsFrame bytes → Parts frame
parts_of bytes frame e is = parts frame (subst IsFrame e is)

pub its_length : (bytes frame : List ℕ) (n : ℕ) → bytes ≡ frame → n ≡ number_at w32 bytes 0 → n ≡ message_length frame
unfolding message_length
its_length bytes frame n e is = is ∙ ap (λ (b : List ℕ). number_at w32 b 0) e

pub its_count : (bytes frame : List ℕ) (n : ℕ) → bytes ≡ frame → n ≡ number_at w32 bytes 4 → n ≡ handle_count frame
unfolding handle_count
its_count bytes frame n e is = is ∙ ap (λ (b : List ℕ). number_at w32 b 4) e

pub its_message : (bytes frame : List ℕ) (n : ℕ) → bytes ≡ frame → n ≡ message_length frame → take (8 + n - 8) (drop 8 bytes) ≡ message_of frame
unfolding message_of
its_message bytes frame n e is = ap (λ (b : List ℕ). take (8 + n - 8) (drop 8 b)) e ∙ ap (λ (m : ℕ). take (8 + m - 8) (drop 8 frame)) is

pub its_handles : (bytes frame : List ℕ) (n count : ℕ) (hs : List HandleInfo) → bytes ≡ frame → n ≡ message_length frame → count ≡ handle_count frame
    → hs ≡ handles_from count (take (length bytes - (8 + n)) (drop (8 + n) bytes)) → hs ≡ handles_of frame
unfolding handles_of
its_handles bytes frame n count hs e is k h =
    h
    ∙ ap (λ (l : List ℕ). handles_from count l) (take_rest bytes (8 + n) ∙ ap (λ (b : List ℕ). drop (8 + n) b) e ∙ ap (λ (m : ℕ). drop (8 + m) frame) is)
    ∙ ap (λ (m : ℕ). handles_from m (drop (8 + message_length frame) frame)) k

-- a handle more is read
pub read_one : (bytes : List ℕ) (room : List HandleInfo) (place : ℕ) (h : HandleInfo) → place < length room → take place room ≡ handles_from place bytes
    → h ≡ handle_of (take (length bytes - 12 * place) (drop (12 * place) bytes)) → take (place + 1) (set room place h) ≡ handles_from (place + 1) bytes
read_one bytes room place h within so_far is =
    let next : suc place ≡ place + 1 = omega arith in
    take_more_set room place h within
    ∙ ap (λ (l : List HandleInfo). l ++ h ∷ []) so_far
    ∙ ap (λ (g : HandleInfo). handles_from place bytes ++ g ∷ []) (is ∙ ap handle_of (take_rest bytes (12 * place)))
    ∙ sym (one_more place bytes)
    ∙ ap (λ (n : ℕ). handles_from n bytes) next
