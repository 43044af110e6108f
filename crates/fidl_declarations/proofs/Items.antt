-- The element of a list that a loop has come to, seen as plain data.
use Rattle.std.proofs.Common.{◌≡◌, ℕ, ◌+◌, ◌<◌, List, length, get_or, take, map, ap, sym, subst, ◌∙◌, arith}
use Rattle.std.specs.List.{Contains, AllByRecursion}
use Rattle.std.proofs.lemmas.List.Elements.{Contains-get_or}
use Rattle.std.proofs.Math.ListN.{get_or-map, length-map}
use Rattle.fidl_cycles.proofs.Lists.{all_take}

module _ {X Y : Type 0} (g : X → Y) (xs : List X) (i : ℕ) (x : X) (lt : i < length xs) (is : x ≡ get_or xs i x) where
  seen_within : i < length (map g xs)
  seen_within = omega (arith, lt, length-map xs g)

  seen_is : g x ≡ get_or (map g xs) i (g x)
  seen_is = ap g is ∙ sym (get_or-map g xs i x)

  -- it is one of them
  pub among_seen : Contains (map g xs) (g x)
  among_seen = subst (Contains (map g xs)) (sym seen_is) (Contains-get_or (map g xs) i (g x) seen_within)

  -- what holds so far, and of it, holds one further
  pub all_seen : (P : Y → Type 0) → AllByRecursion P (take i (map g xs)) → P (g x) → AllByRecursion P (take (i + 1) (map g xs))
  all_seen P h p = all_take (map g xs) i (g x) seen_within seen_is P h p
