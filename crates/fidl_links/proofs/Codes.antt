-- What is read of a word after a link was written over it.
use Rattle.std.proofs.Common.{◌≡◌, ℕ, ◌+◌, ◌*◌, ◌/◌, ◌%◌, ◌^◌, ◌<◌, ◌≤◌, arith}
use Rattle.fidl_links.specs.Coding.{counts_of, inside_of, first_of, place_of, out_of_line, inline, with_low, with_high}

module _ (object counted handles first : ℕ) (o : object % 8 ≡ 0) (few : object ≤ 2 ^ 24) (c : counted % 8 ≡ 0) (long : counted ≤ 2 ^ 24) (h : handles < 2 ^ 7) (f : first < 2 ^ 7) where
  abbrev out : ℕ
  out = out_of_line object counted handles first

  pub out_top : out / 2 ^ 63 ≡ 0
  out_top = omega arith

  pub out_counts : counts_of out ≡ counted + handles * 2 ^ 32
  out_counts = omega arith

  pub out_place : place_of out ≡ object
  out_place = omega arith

  pub out_first : first_of out ≡ first
  out_first = omega arith

module _ (w handles first : ℕ) (h : handles < 2 ^ 7) (f : first < 2 ^ 7) where
  abbrev ins : ℕ
  ins = inline w handles first

  pub ins_top : ins / 2 ^ 63 ≡ 1
  ins_top = omega arith

  pub ins_low : ins % 2 ^ 32 ≡ w % 2 ^ 32
  ins_low = omega arith

  pub ins_inside : inside_of ins ≡ handles * 2 ^ 32 + 2 ^ 48
  ins_inside = omega arith

  pub ins_first : first_of ins ≡ first
  ins_first = omega arith

module _ (w x : ℕ) (small : x < 2 ^ 32) where
  pub low_low : with_low w x % 2 ^ 32 ≡ x
  low_low = omega arith

  pub low_high : with_low w x / 2 ^ 32 ≡ w / 2 ^ 32
  low_high = omega arith

  pub high_low : with_high w x % 2 ^ 32 ≡ w % 2 ^ 32
  high_low = omega arith

  pub high_high : with_high w x / 2 ^ 32 ≡ x
  high_high = omega arith

  pub low_top : with_low w x / 2 ^ 63 ≡ w / 2 ^ 63
  low_top = omega arith

  pub low_inside : inside_of (with_low w x) ≡ inside_of w
  low_inside = omega arith

  pub low_first : first_of (with_low w x) ≡ first_of w
  low_first = omega arith
