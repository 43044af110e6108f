-- Worked facts of structs without members, and of the enums of the samples.
use Rattle.std.proofs.Common.{◌≡◌, ℕ, zero, suc, ◌+◌, ◌-◌, ◌<◌, pos, negsuc, [], ◌∷◌, get_or, refl, sym, arith}
use Rattle.std.specs.Prelude.{Contains, slice_index_or, IsTrue, true, false, replicate}
use Rattle.fidl_wire.specs.Value.{Values, none, value}
use Rattle.fidl_wire.specs.Encoding.{zeros}
use Rattle.fidl_wire.specs.Figure.{Declarations}
use Rattle.fidl_wire.specs.Standing.{Stands}
use Rattle.fidl_decode_model.specs.Faults.{message_of}
use Rattle.fidl_decode_model.specs.Machine.{StateFine}
use Rattle.fidl_decode_model.specs.Worth.{MembersWorth}
use Rattle.fidl_decode_model.specs.Rows.{TypedRows, enc_rows}
use Rattle.fidl_decode_model.specs.State.{Message, Position, Members, StandsAt, after_rows}
use Rattle.fidl_decode_columns.specs.Samples.{at_start}

-- no members are left: zeros
module _ (ds : Declarations) (m : Message) (size base done : ℕ) (from to : Position) where
  at_end : (vs : Values) → TypedRows ds [] vs → StandsAt m (enc_rows ds size done [] vs) (base + done) from → to ≡ after_rows ds [] vs base from → (from ≡ to) × Stands m.bytes (base + done) (zeros (size - done))
  at_end none h s e = (sym e, s.inline)
  at_end (value v vs) h s e = absurd h

  pub zeros_only : Members ds m 0 size base done [] from to → (from ≡ to) × Stands m.bytes (base + done) (zeros (size - done))
  zeros_only x = at_end x.values x.typed x.stands x.end

  pub only_zeros : from ≡ to → Stands m.bytes (base + done) (zeros (size - done)) → (w : ℕ) → MembersWorth ds m 0 size base done [] from to w
  only_zeros e z w = (record { values = none; typed = tt; shallow = omega arith; stands = record { inline = z; out = tt; carried = tt }; end = sym e }, omega arith)

-- the message of the worked structs, before anything is read
pub fine_start : StateFine (message_of (0 ∷ 5 ∷ []) []) at_start
fine_start = record { next = omega arith; handle = omega arith; few = omega arith }

pub not_five : ◌≡◌ {A = ℕ} 5 0 → ⊥
not_five e = absurd (omega (arith, e))

-- what is false marks nothing
no_mark : IsTrue false → ⊥
no_mark e = cc

-- the one number that is noted
pub only_seven : (n : ℕ) → IsTrue (slice_index_or (false ∷ false ∷ false ∷ false ∷ false ∷ false ∷ false ∷ true ∷ []) n false) → 7 ≡ n
only_seven zero e = absurd (no_mark e)
only_seven (suc zero) e = absurd (no_mark e)
only_seven (suc (suc zero)) e = absurd (no_mark e)
only_seven (suc (suc (suc zero))) e = absurd (no_mark e)
only_seven (suc (suc (suc (suc zero)))) e = absurd (no_mark e)
only_seven (suc (suc (suc (suc (suc zero))))) e = absurd (no_mark e)
only_seven (suc (suc (suc (suc (suc (suc zero)))))) e = absurd (no_mark e)
only_seven (suc (suc (suc (suc (suc (suc (suc zero))))))) e = refl
only_seven (suc (suc (suc (suc (suc (suc (suc (suc n)))))))) e = absurd (no_mark e)

-- numbers that are none of the values
pub zero_is_none : Contains (pos 7 ∷ []) (pos 0) → ⊥
zero_is_none y = go y.0 y.1 y.2
  where
    go : (k : ℕ) → k < 1 → slice_index_or (pos 7 ∷ []) k (pos 0) ≡ pos 0 → ⊥
    go zero lt e = cc
    go (suc k) lt e = absurd (omega (arith, lt))

pub two_is_none : Contains (negsuc 0 ∷ pos 1 ∷ []) (pos 2) → ⊥
two_is_none y = go y.0 y.1 y.2
  where
    go : (k : ℕ) → k < 2 → slice_index_or (negsuc 0 ∷ pos 1 ∷ []) k (pos 2) ≡ pos 2 → ⊥
    go zero lt e = cc
    go (suc zero) lt e = cc
    go (suc (suc k)) lt e = absurd (omega (arith, lt))

-- each of some zeros
pub zeros_read : (n i : ℕ) → get_or (zeros n) i 0 ≡ 0
zeros_read zero i = refl
zeros_read (suc n) zero = refl
zeros_read (suc n) (suc i) = zeros_read n i

pub none_marked : (n i : ℕ) → IsTrue (slice_index_or (replicate n false) i false) → ⊥
none_marked zero i e = no_mark e
none_marked (suc n) zero e = no_mark e
none_marked (suc n) (suc i) e = none_marked n i e
