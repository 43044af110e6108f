-- Members that the layout does not have, part by part.
use Rattle.std.proofs.Common.{◌≡◌, ◌↔◌, List, ◌∷◌, ℕ, Bool, true, false, IsTrue, sym, ◌∙◌}
use Rattle.std.specs.Prelude.{codes}
use Rattle.fidl_wire.specs.declared.handle.HandleInfo.{HandleInfo}
use Rattle.fidl_wire.specs.Value.{Member, known, unknown}
use Rattle.fidl_spelling.specs.Words.{Words}
use Rattle.fidl_spelling.specs.Spells.{The, One, ◌⨾◌, AreHex}
use Rattle.fidl_spelling.proofs.Det.{word_tail}
use Rattle.fidl_reading.specs.Reads.{StandsNot, AHandleList, ASide, ARaw}
use Rattle.fidl_reading.proofs.Narrowing.{Narrows, the_word, passed}
use Rattle.fidl_reading.proofs.Leading.{not_begun}

-- neither side
pub no_side : (b : Bool) (ws : Words) → (IsTrue b ↔ ((rest : Words) × (ws ≡ codes "in" ∷ rest))) → b ≡ false → StandsNot (The "out") ws → (inline : Bool) → StandsNot (ASide inline) ws
no_side b ws h is out true r e = not_begun b ws (codes "in") h is r e
no_side b ws h is out false r e = out r e

-- the parts
pub record Parts : Type 0 where
  pub inline : Bool
  pub bytes : List ℕ
  pub handles : List HandleInfo

raw_parts : (from : Words) → Narrows ARaw from (λ (v : Parts). The "unknown" ⨾ (ASide v.inline ⨾ One (AreHex v.bytes) ⨾ AHandleList v.handles)) from
raw_parts from = record { narrow = λ u r p. go u r p }
  where
    go : (u : Member) (r : Words) → ARaw u from r → (v : Parts) × (The "unknown" ⨾ (ASide v.inline ⨾ One (AreHex v.bytes) ⨾ AHandleList v.handles)) from r
    go (unknown inline bytes hs) r p = (record { inline = inline; bytes = bytes; handles = hs }, p)
    go (known v) r p = absurd p

one_side : (a b : Bool) (ws r s : Words) → ASide a ws r → ASide b ws s → r ≡ s
one_side a b ws r s p q = word_tail _ _ r s (sym p ∙ q)

-- the word `unknown`, and the side, were read
pub after_side : (from to mid : Words) (inline : Bool) → The "unknown" from to → ASide inline to mid → Narrows ARaw from (λ (v : Parts). One (AreHex v.bytes) ⨾ AHandleList v.handles) mid
after_side from to mid inline e a = passed (λ (v : Parts). ASide v.inline) _ to mid (the_word "unknown" _ from to (raw_parts from) e) (λ v s b. one_side inline v.inline to mid s a b)

-- and the bytes
pub after_bytes : (from to mid next : Words) (inline : Bool) (bytes : List ℕ) → The "unknown" from to → ASide inline to mid → One (AreHex bytes) mid next → Narrows ARaw from (λ (v : Parts). AHandleList v.handles) next
after_bytes from to mid next inline bytes e a b = passed (λ (v : Parts). One (AreHex v.bytes)) _ mid next (after_side from to mid inline e a) (λ v s q. word_tail b.0 q.0 next s (sym b.2 ∙ q.2))
