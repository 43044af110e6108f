-- The frames of an input (docs/service.md, "Frames").
--
-- A frame is the number of its message's bytes (4), the number of its handles (4), the message, and
-- twelve bytes for each handle.
use Rattle.std.specs.Prelude.{◌≡◌, ℕ, zero, suc, ◌+◌, ◌-◌, ◌*◌, ◌<◌, ◌≤◌, Bool, true, false, leb, ltb}
use Rattle.std.specs.Prelude.{◌&&◌, List, [], ◌∷◌, length, take, if◌then◌else◌}
use Rattle.std.specs.Int.{w32}
use Rattle.fidl_wire.specs.Field.{number_at}
use Rattle.fidl_limits.specs.declared.limits.TheConstants.{MAX_MESSAGE_BYTES, MAX_MESSAGE_HANDLES}

-- how long the frame is that begins with these eight bytes
unfoldable pub frame_length : (head : List ℕ) → ℕ
frame_length head = 8 + number_at w32 head 0 + 12 * number_at w32 head 4

-- whether its message is within the limits of bytes and handles
unfoldable pub is_proper : (head : List ℕ) → Bool
is_proper head = leb (number_at w32 head 0) MAX_MESSAGE_BYTES
    && leb (number_at w32 head 4) MAX_MESSAGE_HANDLES

-- what stands at the front of bytes that begin between frames
pub data Front : Type 0 where
  -- the input ends
  nothing : Front
  -- a frame begins, and the input ends inside it
  cut : Front
  -- a frame begins that is past a limit
  improper : Front
  -- a whole frame
  whole : Front

abbrev pub front_of : List ℕ → Front
front_of [] = nothing
front_of (b ∷ bs) =
    if ltb (length (b ∷ bs)) 8 then cut
    else (if is_proper (take 8 (b ∷ bs))
    then (if ltb (length (b ∷ bs)) (frame_length (take 8 (b ∷ bs))) then cut else whole)
    else improper)

-- how an input ends after its whole frames
pub data Tail : Type 0 where
  between : Tail
  inside : Tail
  past_limit : Tail

-- an input, cut into frames
pub record Cut : Type 0 where
  pub frames : List (List ℕ)
  pub tail : Tail

abbrev pub cut_at : Front → List ℕ → Cut → Cut
cut_at nothing bytes rest = record { frames = []; tail = between }
cut_at cut bytes rest = record { frames = []; tail = inside }
cut_at improper bytes rest = record { frames = []; tail = past_limit }
cut_at whole bytes rest =
    record { frames = take (frame_length (take 8 bytes)) bytes ∷ rest.frames; tail = rest.tail }

-- the frames of what stands after the first k bytes of an input
abbrev pub frames_behind : (k : ℕ) → List ℕ → Cut
frames_behind zero [] = cut_at nothing [] (record { frames = []; tail = between })
frames_behind (suc k) [] = cut_at nothing [] (record { frames = []; tail = between })
frames_behind zero (b ∷ bs) = cut_at (front_of (b ∷ bs)) (b ∷ bs)
    (frames_behind (frame_length (take 8 (b ∷ bs)) - 1) bs)
frames_behind (suc k) (b ∷ bs) = frames_behind k bs

-- the whole frames of an input, and what stands after them
unfoldable pub frames_of : (input : List ℕ) → Cut
frames_of input = frames_behind 0 input

-- one whole frame and no more
pub record IsFrame (bytes : List ℕ) : Type 0 where
  pub head : 8 ≤ length bytes
  pub proper : is_proper (take 8 bytes) ≡ true
  pub long : length bytes ≡ frame_length (take 8 bytes)

-- the beginning of a frame, of one byte at least, and not all of it
pub record IsBegun (bytes : List ℕ) : Type 0 where
  pub some : 0 < length bytes
  pub short : 8 ≤ length bytes
      → (is_proper (take 8 bytes) ≡ true) × (length bytes < frame_length (take 8 bytes))

-- eight bytes with which a frame begins that is past a limit
pub record IsPastLimit (bytes : List ℕ) : Type 0 where
  pub head : length bytes ≡ 8
  pub improper : is_proper (take 8 bytes) ≡ false
