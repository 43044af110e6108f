-- One law for each kind: which values of it stand at a place.
use Rattle.std.proofs.Common.{◌≡◌, ℕ, zero, suc, ◌+◌, ◌<◌, ◌≤◌, ◌^◌, ◌%◌, true, false, ℤ, pos, List, [], ◌∷◌, length, get_or, refl, sym, ap, subst, ◌∙◌, arith, FitsSigned}
use Rattle.fidl_limits.specs.declared.limits.TheConstants.{MAX_DEPTH}
use Rattle.std.proofs.Math.Facts.{sfits_to_z}
use Rattle.std.proofs.lemmas.Int.{of_z-to_z}
use Rattle.std.proofs.lemmas.Nat.{le_bytes_2, le_bytes_4, le_bytes_8}
use Rattle.std.specs.Prelude.{Bool, Option, IfSome, Contains}
use Rattle.std.specs.Int.{Width, w8, w16, w32, w64, byte_len, from_le_bytes, to_le_bytes, cast_signed, cast_unsigned}
use mir.Val.{bits}
use Rattle.fidl_wire.specs.Value.{Value, absent, bool, number, handle}
use Rattle.fidl_wire.specs.Term.{Term, Kind, int8, int16, int32, int64, uint8, uint16, uint32, uint64, width}
use Rattle.fidl_wire.specs.Term as ty
use Rattle.fidl_wire.specs.Figure.{Declarations, size_of}
use Rattle.fidl_wire.specs.Typed.{IsTyped, InRange, InMask}
use Rattle.fidl_wire.specs.Encoding.{Encoding, inline_only, kind_of, number_bytes, encoding_of}
use Rattle.fidl_wire.specs.Standing.{Stands}
use Rattle.fidl_decode_model.specs.Work.{Work}
use Rattle.fidl_decode_model.specs.State.{Message, Position, after, StandsAt, ValueAt}
use Rattle.fidl_table_format.specs.Number.{number_standing}
use Rattle.fidl_decode_model.proofs.Numbers.{number_is}

-- ---- numbers: any bytes are one

-- the bytes from a place on
abbrev pub bytes_at : List ℕ → (place n : ℕ) → List ℕ
bytes_at m place zero = []
bytes_at m place (suc n) = get_or m place 0 ∷ bytes_at m (place + 1) n

pub bytes_stand : (m : List ℕ) (place n : ℕ) → place + n ≤ length m → Stands m place (bytes_at m place n)
bytes_stand m place zero room = tt
bytes_stand m place (suc n) room = (omega arith, refl, bytes_stand m (place + 1) n (omega arith))

pub length-bytes_at : (m : List ℕ) (place n : ℕ) → length (bytes_at m place n) ≡ n
length-bytes_at m place zero = refl
length-bytes_at m place (suc n) = ap suc (length-bytes_at m (place + 1) n)

pub small-bytes_at : (m : List ℕ) (place n : ℕ) → ((i : ℕ) → get_or m i 0 < 256) → (i : ℕ) → get_or (bytes_at m place n) i 0 < 256
small-bytes_at m place zero h i = omega arith
small-bytes_at m place (suc n) h zero = h place
small-bytes_at m place (suc n) h (suc i) = small-bytes_at m (place + 1) n h i

-- a number of the kind with these bytes
abbrev Read : Kind → List ℕ → Type 0
Read kind bs = (z : ℤ) × InRange kind z × (number_bytes kind z ≡ bs)

below_16 : (bs : List ℕ) → ((i : ℕ) → get_or bs i 0 < 256) → from_le_bytes w16 bs < 2 ^ 16
below_16 bs h = let a = h 0 in let b = h 1 in omega arith

below_32 : (bs : List ℕ) → ((i : ℕ) → get_or bs i 0 < 256) → from_le_bytes w32 bs < 2 ^ 32
below_32 bs h = let a = h 0 in let b = h 1 in let c = h 2 in let d = h 3 in omega arith

below_64 : (bs : List ℕ) → ((i : ℕ) → get_or bs i 0 < 256) → from_le_bytes w64 bs < 2 ^ 64
below_64 bs h = let a = h 0 in let b = h 1 in let c = h 2 in let d = h 3 in let e = h 4 in let f = h 5 in let g = h 6 in let k = h 7 in omega arith

one_byte : (b : ℕ) → b < 256 → to_le_bytes w8 b ≡ b ∷ []
one_byte b h = let e : b % 256 ≡ b = omega arith in ap (λ (x : ℕ). x ∷ []) e

number_8 : (bs : List ℕ) → length bs ≡ 1 → ((i : ℕ) → get_or bs i 0 < 256) → (n : ℕ) × (n < 2 ^ 8) × (to_le_bytes w8 n ≡ bs)
number_8 [] e h = absurd (omega (arith, e))
number_8 (b ∷ []) e h = (b, h 0, one_byte b (h 0))
number_8 (b ∷ c ∷ bs) e h = absurd (omega (arith, e))

signed : (w : Width) (bs : List ℕ) (n : ℕ) → n < 2 ^ bits w → to_le_bytes w n ≡ bs → (z : ℤ) × FitsSigned w z × (to_le_bytes w (cast_unsigned w z) ≡ bs)
signed w bs n h e = (cast_signed w n, sfits_to_z {w = w} (record { fits = h }), ap (λ k. to_le_bytes w k) (of_z-to_z w n h) ∙ e)

pub number_read : (kind : Kind) (bs : List ℕ) → length bs ≡ byte_len (width kind) → ((i : ℕ) → get_or bs i 0 < 256) → Read kind bs
number_read uint8 bs e h = let r = number_8 bs e h in (pos r.0, r.1, r.2)
number_read uint16 bs e h = (pos (from_le_bytes w16 bs), below_16 bs h, le_bytes_2 bs (from_le_bytes w16 bs) e h refl)
number_read uint32 bs e h = (pos (from_le_bytes w32 bs), below_32 bs h, le_bytes_4 bs (from_le_bytes w32 bs) e h refl)
number_read uint64 bs e h = (pos (from_le_bytes w64 bs), below_64 bs h, le_bytes_8 bs (from_le_bytes w64 bs) e h refl)
number_read int8 bs e h = let r = number_8 bs e h in signed w8 bs r.0 r.1 r.2
number_read int16 bs e h = signed w16 bs (from_le_bytes w16 bs) (below_16 bs h) (le_bytes_2 bs (from_le_bytes w16 bs) e h refl)
number_read int32 bs e h = signed w32 bs (from_le_bytes w32 bs) (below_32 bs h) (le_bytes_4 bs (from_le_bytes w32 bs) e h refl)
number_read int64 bs e h = signed w64 bs (from_le_bytes w64 bs) (below_64 bs h) (le_bytes_8 bs (from_le_bytes w64 bs) e h refl)

-- a term whose values are the numbers of this kind for which P holds
pub record Numeric (ds : Declarations) (u : Term) (kind : Kind) (P : ℤ → Type 0) : Type 0 where
  pub own : kind_of u ≡ kind
  pub size : size_of ds u ≡ byte_len (width kind)
  pub only : (v : Value) → IsTyped ds u v → (z : ℤ) × (v ≡ number z) × InRange kind z × P z
  pub typed : (z : ℤ) → InRange kind z → P z → IsTyped ds u (number z)

pub numeric_number : (ds : Declarations) (kind : Kind) → Numeric ds (ty.number kind) kind (λ z. Unit {0})
numeric_number ds kind = record { own = refl; size = refl; only = only; typed = λ z h p. h }
  where
    only : (v : Value) → IsTyped ds (ty.number kind) v → (z : ℤ) × (v ≡ number z) × InRange kind z × Unit {0}
    only (number z) h = (z, refl, h, tt)
    only _ h = absurd h

pub numeric_bits : (ds : Declarations) (kind : Kind) (mask : Option ℕ) → Numeric ds (ty.bits kind mask) kind (λ z. IfSome mask (λ m. InMask m z))
numeric_bits ds kind mask = record { own = refl; size = refl; only = only; typed = λ z h p. (h, p) }
  where
    only : (v : Value) → IsTyped ds (ty.bits kind mask) v → (z : ℤ) × (v ≡ number z) × InRange kind z × IfSome mask (λ m. InMask m z)
    only (number z) h = (z, refl, h.0, h.1)
    only _ h = absurd h

pub numeric_enum : (ds : Declarations) (kind : Kind) (values : Option (List ℤ)) → Numeric ds (ty.enum kind values) kind (λ z. IfSome values (λ zs. Contains zs z))
numeric_enum ds kind values = record { own = refl; size = refl; only = only; typed = λ z h p. (h, p) }
  where
    only : (v : Value) → IsTyped ds (ty.enum kind values) v → (z : ℤ) × (v ≡ number z) × InRange kind z × IfSome values (λ zs. Contains zs z)
    only (number z) h = (z, refl, h.0, h.1)
    only _ h = absurd h

-- the number that stands at a place, where bytes of it do
pub standing : (kind : Kind) (m : List ℕ) (place : ℕ) → place + byte_len (width kind) ≤ length m → ((i : ℕ) → get_or m i 0 < 256) → InRange kind (number_standing kind m place) × Stands m place (number_bytes kind (number_standing kind m place))
standing kind m place room small =
    let n = byte_len (width kind) in
    let r = number_read kind (bytes_at m place n) (length-bytes_at m place n) (small-bytes_at m place n small) in
    let s : Stands m place (number_bytes kind r.0) = subst (λ (l : List ℕ). Stands m place l) (sym r.2) (bytes_stand m place n room) in
    let is : number_standing kind m place ≡ r.0 = number_is kind m place r.0 r.1 s in
    (subst (λ z. InRange kind z) (sym is) r.1, subst (λ z. Stands m place (number_bytes kind z)) (sym is) s)

-- ---- what the values of a leaf are worth

pub light_number : (ds : Declarations) (u : Term) (kind : Kind) (P : ℤ → Type 0) → Numeric ds u kind P → (v : Value) → IsTyped ds u v → Work v ≡ 0
light_number ds u kind P numeric v h = ap (λ (v : Value). Work v) (numeric.only v h).1

pub light_bool : (ds : Declarations) (v : Value) → IsTyped ds ty.bool v → Work v ≤ 1
light_bool ds (bool b) h = omega arith
light_bool ds _ h = absurd h

pub light_handle : (ds : Declarations) (optional : Bool) (subtype rights : ℕ) (v : Value) → IsTyped ds (ty.handle optional subtype rights) v → Work v ≤ 1
light_handle ds optional subtype rights (handle info) h = omega arith
light_handle ds optional subtype rights absent h = omega arith
light_handle ds optional subtype rights _ h = absurd h

module _ (ds : Declarations) (m : Message) (held place : ℕ) (from : Position) where
  module _ (u : Term) (kind : Kind) (P : ℤ → Type 0) (numeric : Numeric ds u kind P) where
    pub numeric_item : (to : Position) → ValueAt ds m held u place from to → (from ≡ to) × P (number_standing kind m.bytes place)
    numeric_item to x =
        let r = numeric.only x.value x.typed in
        let enc : encoding_of ds u x.value ≡ inline_only (number_bytes kind r.0) = ap (λ (v : Value). encoding_of ds u v) r.1 ∙ ap (λ (k : Kind). inline_only (number_bytes k r.0)) numeric.own in
        let stands = subst (λ (e : Encoding). StandsAt m e place from) enc x.stands in
        let end : to ≡ from = x.end ∙ ap (λ (v : Value). after ds u v place from) r.1 in
        (sym end, subst P (sym (number_is kind m.bytes place r.0 r.2 stands.inline)) r.3)

    pub item_numeric : place + byte_len (width kind) ≤ length m.bytes → ((i : ℕ) → get_or m.bytes i 0 < 256) → held ≤ MAX_DEPTH → P (number_standing kind m.bytes place) → ValueAt ds m held u place from from
    item_numeric room small deep p =
        let s = standing kind m.bytes place room small in
        let z = number_standing kind m.bytes place in
        record {
          value = number z;
          typed = numeric.typed z s.0 p;
          shallow = omega arith;
          stands = record { inline = subst (λ (k : Kind). Stands m.bytes place (number_bytes k z)) (sym numeric.own) s.1; out = tt; carried = tt };
          end = refl;
        }

  -- ---- a bool: 0 or 1
  pub bool_item : (to : Position) → ValueAt ds m held ty.bool place from to → (from ≡ to) × (get_or m.bytes place 0 ≤ 1)
  bool_item to x = only x.value x.typed x.stands x.end
    where
      only : (v : Value) → IsTyped ds ty.bool v → StandsAt m (encoding_of ds ty.bool v) place from → to ≡ after ds ty.bool v place from → (from ≡ to) × (get_or m.bytes place 0 ≤ 1)
      only (bool true) h s e = let is : get_or m.bytes place 0 ≡ 1 = s.inline.1 in (sym e, omega arith)
      only (bool false) h s e = let is : get_or m.bytes place 0 ≡ 0 = s.inline.1 in (sym e, omega arith)
      only _ h s e = absurd h

  pub item_bool : place < length m.bytes → get_or m.bytes place 0 ≤ 1 → held ≤ MAX_DEPTH → ValueAt ds m held ty.bool place from from
  item_bool room le deep = go (get_or m.bytes place 0) refl le
    where
      go : (b : ℕ) → get_or m.bytes place 0 ≡ b → b ≤ 1 → ValueAt ds m held ty.bool place from from
      go zero e h = record { value = bool false; typed = tt; shallow = omega arith; stands = record { inline = (room, e, tt); out = tt; carried = tt }; end = refl }
      go (suc zero) e h = record { value = bool true; typed = tt; shallow = omega arith; stands = record { inline = (room, e, tt); out = tt; carried = tt }; end = refl }
      go (suc (suc b)) e h = absurd (omega arith)
