-- Places and steps of columns. Said of variables alone, so that nothing else is looked at.
use Rattle.std.proofs.Common.{◌≡◌, ℕ, suc, ◌+◌, ◌-◌, ◌*◌, ◌<◌, ◌≤◌, ap, ◌∙◌, arith, mul-suc}
use Rattle.std.proofs.Math.Nat.{mul-le-mul_left, mul-le-mul_right}

pub times_next : (size i : ℕ) → size * (i + 1) ≡ size * i + size
times_next size i = let next : i + 1 ≡ suc i = omega arith in ap (λ k. size * k) next ∙ mul-suc size i

-- the next struct begins where one ends
pub next_start : (start base size i : ℕ) → start ≡ base + size * i → start + size ≡ base + size * (i + 1)
next_start start base size i is = omega (arith, is, times_next size i)

-- the struct at a place, of so many that fit
pub struct_room : (start base size i n len : ℕ) → start ≡ base + size * i → i < n → base + size * n ≤ len → start + size ≤ len
struct_room start base size i n len is lt room =
    let up : size * (i + 1) ≤ size * n = mul-le-mul_left size (let le : i + 1 ≤ n = omega (arith, lt) in le) in
    omega (arith, is, times_next size i, up, room)

-- a member of it
pub member_room : (start base size offset width i n len : ℕ) → start ≡ base + size * i → i < n → base + size * n ≤ len → offset + width ≤ size → start + offset + width ≤ len
member_room start base size offset width i n len is lt room fits = omega (arith, struct_room start base size i n len is lt room, fits)

-- fewer of them
pub fewer_room : (base size limit n len : ℕ) → limit ≤ n → base + size * n ≤ len → base + size * limit ≤ len
fewer_room base size limit n len le room = let up : size * limit ≤ size * n = mul-le-mul_left size le in omega (arith, up, room)

-- the bytes of all gaps are no more than the message has
pub gaps_fit : (limit n width size base len : ℕ) → limit ≤ n → width ≤ size → base + size * n ≤ len → limit * width ≤ len
gaps_fit limit n width size base len le fits room =
    let up : limit * width ≤ n * width = mul-le-mul_right width le in
    let on : n * width ≤ n * size = mul-le-mul_left n fits in
    let turned : n * size ≡ size * n = omega arith in
    omega (arith, up, on, turned, room)

pub gaps_cost : (limit n width : ℕ) → limit ≤ n → limit * width ≤ n * width
gaps_cost limit n width le = mul-le-mul_right width le

-- a row's steps are within what its bytes pay for
pub row_cost : (n done key next old mid new : ℕ) → done ≤ key → key < next → mid ≤ old + 17 * (n * done) → new ≤ mid + n * (key - done) + 17 * n → new ≤ old + 17 * (n * next)
row_cost n done key next old mid new before some so_far row =
    let gap : done + (key - done) ≡ key = omega (arith, before) in
    let parts : n * (done + (key - done) + 1) ≡ n * done + n * (key - done) + n = omega arith in
    let up : n * (done + (key - done) + 1) ≤ n * next = mul-le-mul_left n (let le : done + (key - done) + 1 ≤ next = omega (arith, gap, some) in le) in
    omega (arith, parts, up, so_far, row)

-- and the bytes behind the last
pub end_cost : (n done size old mid new : ℕ) → done ≤ size → mid ≤ old + 17 * (n * done) → new ≤ mid + n * (size - done) → new ≤ old + 17 * (n * size)
end_cost n done size old mid new before so_far end =
    let parts : n * (done + (size - done)) ≡ n * done + n * (size - done) = omega arith in
    let whole : done + (size - done) ≡ size = omega (arith, before) in
    let up : n * (done + (size - done)) ≡ n * size = ap (λ k. n * k) whole in
    omega (arith, parts, up, so_far, end)
