-- Whether bytes begin with a whole frame.
use Rattle.std.proofs.Common.{◌≡◌, ℕ, ◌<◌, ◌≤◌, List, [], length, take, drop, true, false, arith, sym, ap, ◌∙◌}
use Rattle.std.proofs.lemmas.List.{take-take, take-append-drop, length-take}
use Rattle.fidl_frames.specs.Frames.{Tail, Cut, between, inside, past_limit, frames_of, frame_length, is_proper, IsFrame}
use Rattle.fidl_frames.proofs.Cuts.{cut_begun, cut_past_limit}
use Rattle.fidl_dump.specs.Faults.{HasNoFrame}

inside_is : inside ≡ between → ⊥
inside_is e = cc

past_limit_is : past_limit ≡ between → ⊥
past_limit_is e = cc

none_of : (bytes : List ℕ) (tail : Tail) → (tail ≡ between → ⊥) → frames_of bytes ≡ record { frames = []; tail = tail } → HasNoFrame bytes
none_of bytes tail never e = (ap (λ (c : Cut). c.frames) e, λ h. never (sym (ap (λ (c : Cut). c.tail) e) ∙ h))

pub short_head : (bytes : List ℕ) → 0 < length bytes → length bytes < 8 → HasNoFrame bytes
short_head bytes some short = none_of bytes inside inside_is (cut_begun bytes (record { some = some; short = λ h. absurd (omega (arith, h, short)) }))

pub short_frame : (bytes : List ℕ) (end : ℕ) → 0 < length bytes → is_proper (take 8 bytes) ≡ true → end ≡ frame_length (take 8 bytes) → length bytes < end → HasNoFrame bytes
short_frame bytes end some proper long short = none_of bytes inside inside_is (cut_begun bytes (record { some = some; short = λ h. (proper, omega (arith, long, short)) }))

pub long_frame : (bytes : List ℕ) → 8 ≤ length bytes → is_proper (take 8 bytes) ≡ false → HasNoFrame bytes
long_frame bytes head improper =
    let whole : length (take 8 bytes) ≡ 8 = simp length-take (omega arith) in
    let twice : take 8 (take 8 bytes) ≡ take 8 bytes = take-take 8 8 bytes (omega arith) in
    none_of bytes past_limit past_limit_is
    (ap frames_of (sym (take-append-drop 8 bytes)) ∙ cut_past_limit (take 8 bytes) (drop 8 bytes) (record { head = whole; improper = ap is_proper twice ∙ improper }))

pub whole : (bytes : List ℕ) (end : ℕ) → 8 ≤ end → end ≤ length bytes → is_proper (take 8 bytes) ≡ true → end ≡ frame_length (take 8 bytes) → IsFrame (take end bytes)
whole bytes end low within proper long =
    let front : take 8 (take end bytes) ≡ take 8 bytes = take-take 8 end bytes low in
    let all : length (take end bytes) ≡ end = simp length-take (omega arith) in
    record {
      head = omega (arith, all, low);
      proper = ap is_proper front ∙ proper;
      long = all ∙ long ∙ ap frame_length (sym front);
    }
