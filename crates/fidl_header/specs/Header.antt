-- The header of a message, 16 bytes: transaction id (4), at-rest flags (2), dynamic flags (1), magic
-- number (1), ordinal (8) (docs/service.md, "Headers").
use Rattle.std.specs.Prelude.{◌≡◌, ◌≢◌, ℕ, ◌≤◌, ◌==◌, not, bit_and, List, ◌∷◌, ◌++◌, length}
use Rattle.std.specs.Prelude.{slice_index, if◌then◌else◌}
use Rattle.std.specs.Int.{w32, w64, to_le_bytes}
use Rattle.fidl_wire.specs.Field.{number_at}
use Rattle.fidl_header.specs.declared.header.Header.{Header}

-- bytes that begin with a header of version 2, whose message does not overflow
pub record IsHeader (bytes : List ℕ) : Type 0 where
  pub long : 16 ≤ length bytes
  pub magic : slice_index bytes 7 ≡ 1
  pub version : bit_and (slice_index bytes 4) 2 ≢ 0
  pub whole : bit_and (slice_index bytes 6) 64 ≡ 0

-- what a header says
abbrev pub header_of : List ℕ → Header
header_of bytes = record {
  txid = number_at w32 bytes 0;
  flexible = not (bit_and (slice_index bytes 6) 128 == 0);
  ordinal = number_at w64 bytes 8;
}

-- the bytes of a header
abbrev pub header_bytes : Header → List ℕ
header_bytes h =
    to_le_bytes w32 h.txid
    ++ (2 ∷ 0 ∷ (if h.flexible then 128 else 0) ∷ 1 ∷ to_le_bytes w64 h.ordinal)
