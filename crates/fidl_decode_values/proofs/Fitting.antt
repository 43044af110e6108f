-- Places and sizes of a message are small numbers. Said of variables alone, so that nothing else is looked at.
use Rattle.std.proofs.Common.{◌≡◌, ℕ, suc, ◌+◌, ◌-◌, ◌^◌, ◌<◌, ◌≤◌, arith, inl, inr}
use Rattle.std.specs.Int.{next_multiple_of}
use Rattle.fidl_decode_model.specs.Steps.{Spends}
use Rattle.fidl_decode_model.specs.Machine.{IsInside}
use Rattle.fidl_limits.specs.declared.limits.TheConstants.{MAX_DEPTH, MAX_MESSAGE_BYTES, MAX_MESSAGE_HANDLES}

-- what lies in front of more, and what comes behind it
pub front : (p j k len : ℕ) → p + (j + k) ≤ len → p + j ≤ len
front p j k len h = omega arith

pub apart : (p j k len : ℕ) → p + (j + k) ≤ len → p + j + k ≤ len
apart p j k len h = omega arith

-- a place in the message
pub inside : (p j len : ℕ) → p + suc j ≤ len → len ≤ MAX_MESSAGE_BYTES → p < MAX_MESSAGE_BYTES
inside p j len h short = omega arith

pub at_most : (n len : ℕ) → n ≤ len → len ≤ MAX_MESSAGE_BYTES → n ≤ MAX_MESSAGE_BYTES
at_most n len h short = omega arith

pub small : (n len : ℕ) → n ≤ len → len ≤ MAX_MESSAGE_BYTES → n < 2 ^ 64
small n len h short = omega arith

-- an object that fits what is left
pub ended : (next size len : ℕ) → next ≤ len → size ≤ len - next → next + size ≤ len
ended next size len h fits = omega arith

-- the number of a handle
pub few_32 : (k n : ℕ) → k ≤ n → n ≤ MAX_MESSAGE_HANDLES → k < 2 ^ 32 - 1
few_32 k n h few = omega arith

pub deeper : (d : ℕ) → d ≤ MAX_DEPTH → d + 1 < 2 ^ 8
deeper d h = omega arith

pub deeper_64 : (d : ℕ) → d ≤ MAX_DEPTH → d + 1 < 2 ^ 64
deeper_64 d h = omega arith

-- steps, one for each byte
pub counted_on : (steps size len : ℕ) → steps < 2 ^ 44 → size ≤ len → len ≤ MAX_MESSAGE_BYTES → steps + size < 2 ^ 64
counted_on steps size len budget h short = omega arith

-- sizes are rounded by eight
pub some_8 : 0 < 8
some_8 = omega arith

pub rounded : (n : ℕ) → n < 2 ^ 60 → next_multiple_of n 8 < 2 ^ 64
rounded n h = omega arith

-- the same of what does not pass what is left of a message
pub rounded_left : (n next len : ℕ) → n ≤ len - next → len ≤ MAX_MESSAGE_BYTES → next_multiple_of n 8 < 2 ^ 64
rounded_left n next len h short = rounded n (omega arith)

-- a count and a marker, and a text behind them, of which an envelope counts the bytes
pub counted_front : (next counted len : ℕ) → 16 ≤ counted → counted ≤ len - next → next + 16 ≤ len
counted_front next counted len some h = omega arith

pub counted_whole : (next counted size len : ℕ) → counted ≤ len - next → counted ≡ 16 + size → next + 16 + size ≤ len
counted_whole next counted size len h is = omega arith

pub part_room : (from n size len : ℕ) → n ≤ size → from + size ≤ len → from + n ≤ len
part_room from n size len le h = omega arith

pub part_order : (from n size : ℕ) → n ≤ size → from + n ≤ from + size
part_order from n size le = omega arith

pub size_in : (from size len : ℕ) → from + size ≤ len → size ≤ len
size_in from size len h = omega arith

-- steps that are taken, and what pays for them
pub le_more : (n k : ℕ) → n ≤ n + k
le_more n k = omega arith

pub pays_text : (steps next size : ℕ) → steps + size + next ≤ steps + (next + 16 + size)
pays_text steps next size = omega arith

pub pays_whole : (steps next size : ℕ) → steps + size + next ≤ steps + (next + size)
pays_whole steps next size = omega arith

-- the budget of what is left behind some steps, and the cost of what is read of it, where x, f and w are the work of what is out of line, of the frame and
-- of all
pub budget_on : (x f w old now limit : ℕ) → old ≤ now → x + 0 + f + (now - old) ≤ w → old + w < limit → now + (x + f) < limit
budget_on x f w old now limit begun less budget = omega arith

pub cost_on : (x f w old now new : ℕ) → old ≤ now → x + 0 + f + (now - old) ≤ w → new ≤ now + (x + f) → new ≤ old + w
cost_on x f w old now new begun less cost = omega arith

pub cost_now : (x f w old now : ℕ) → old ≤ now → x + 0 + f + (now - old) ≤ w → now ≤ old + w
cost_now x f w old now begun less = omega arith

pub grows_on : (a b c : ℕ) → a ≤ b → b < c → a ≤ c
grows_on a b c p q = omega arith

pub rises_on : (a b c : ℕ) → a ≤ b → b < c → a < c
rises_on a b c p q = omega arith

-- the first of some rows
pub first_in : (first count rows : ℕ) → first + count ≤ rows → (count ≡ 0 → ⊥) → first < rows
first_in first count rows h some = omega arith

pub some_left : (count : ℕ) → (count ≡ 0 → ⊥) → 0 < count
some_left count some = omega arith

-- steps that stay as they are, and those of a visit
pub eq_le : (a b : ℕ) → b ≡ a → a ≤ b
eq_le a b e = omega arith

-- a call that counts no fewer steps, or one more at least, and so many at most
pub spends_any : (a b k : ℕ) → a ≤ b → b ≤ a + k → Spends a b 0 k
spends_any a b k p q = record { least = omega arith; most = q }

pub spends_some : (a b k : ℕ) → a < b → b ≤ a + k → Spends a b 1 k
spends_some a b k p q = record { least = omega arith; most = q }

pub not_fewer : (a b k : ℕ) → Spends a b 0 k → a ≤ b
not_fewer a b k s = let h = s.least in omega arith

pub one_more : (a b k : ℕ) → Spends a b 1 k → a < b
one_more a b k s = let h = s.least in omega arith

pub no_steps : (a k : ℕ) → Spends a a 0 k
no_steps a k = record { least = omega arith; most = omega arith }

pub same_steps : (a b k : ℕ) → b ≡ a → Spends a b 0 k
same_steps a b k e = record { least = omega arith; most = omega arith }

pub more_steps : (a b k l : ℕ) → Spends a b 0 k → k ≤ l → Spends a b 0 l
more_steps a b k l s le = let most = s.most in record { least = s.least; most = omega arith }

pub lt_le : (a b : ℕ) → a < b → a ≤ b
lt_le a b h = omega arith

pub budget_44 : (n : ℕ) → n < 2 ^ 42 → n < 2 ^ 44
budget_44 n h = omega arith

pub spent_text : (steps size next : ℕ) → steps + size + next ≡ steps + (next + size)
spent_text steps size next = omega arith

pub pays_same : (new old next after : ℕ) → new ≡ old → next ≤ after → new + next ≤ old + after
pays_same new old next after e h = omega arith

pub le_one : (inside size : ℕ) → IsInside inside size → inside ≤ 1
le_one inside size h = elim h [ inl e ↦ omega (arith, e) | inr p ↦ omega (arith, p.0) ]

-- what is left is less after each step
pub smaller_on : (x f w now new : ℕ) → x + 0 + f + (new - now) ≤ w → now < new → x + f < w
smaller_on x f w now new less rises = omega arith

pub next_fits : (first count rows known limit : ℕ) → first + count ≤ rows → known ≡ rows → known < limit → (count ≡ 0 → ⊥) → first + 1 < limit
next_fits first count rows known limit h is fits some = omega arith
