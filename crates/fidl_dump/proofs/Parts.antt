-- The frame at an offset of some bytes, and what stands behind it when it has been lent out and comes back.
use Rattle.std.proofs.Common.{◌≡◌, ℕ, ◌+◌, ◌-◌, ◌≤◌, List, ◌++◌, length, take, drop, arith, sym, ap, subst, ◌∙◌}
use Rattle.std.proofs.lemmas.List.{drop-drop, length-append, length-take, length-drop, take_rest}
use Rattle.std.proofs.lemmas.Slice.{drop-put_mid}
use Rattle.fidl_frames.specs.Frames.{IsFrame}
use borrow.Rule.Slice.PartMut.{put_mid, post_of}

-- the part keeps its length where the whole does
part_long : (at k : ℕ) (bytes part : List ℕ) → at + k ≤ length bytes → length (put_mid at k bytes part) ≡ length bytes → length part ≡ k
part_long at k bytes part within long =
    omega (arith, within, long, length-append (take at bytes) (part ++ post_of at k bytes), length-append part (post_of at k bytes), length-take at bytes, length-drop k (drop at bytes), length-drop at bytes)

pub behind_part : (at size k : ℕ) (bytes part : List ℕ) → k ≡ at + size - at → at + size ≤ length bytes → length (put_mid at k bytes part) ≡ length bytes → drop (at + size) (put_mid at k bytes part) ≡ drop size (drop at bytes)
behind_part at size k bytes part e within long =
    drop-put_mid at k bytes part (at + size) (omega (arith, e)) (omega (arith, within)) (part_long at k bytes part (omega (arith, e, within)) long) ∙ sym (drop-drop size at bytes)

module _ (bytes : List ℕ) (at size : ℕ) where
  pub whole_at : IsFrame (take size (take (length bytes - at) (drop at bytes))) → IsFrame (take size (drop at bytes))
  whole_at is = subst (λ (l : List ℕ). IsFrame (take size l)) (take_rest bytes at) is

  pub ends_within : at ≤ length bytes → size ≤ length (take (length bytes - at) (drop at bytes)) → at + size ≤ length bytes
  ends_within begins ends = omega (arith, begins, ends, ap length (take_rest bytes at), length-drop at bytes)

  pub part_at : (frame : List ℕ) → frame ≡ take (at + size - at) (drop at bytes) → frame ≡ take size (drop at bytes)
  part_at frame is = let e : at + size - at ≡ size = omega arith in is ∙ ap (λ (n : ℕ). take n (drop at bytes)) e

pub none_behind : (bytes : List ℕ) (at : ℕ) → length bytes ≤ at → length (drop at bytes) ≡ 0
none_behind bytes at all = omega (arith, all, length-drop at bytes)
