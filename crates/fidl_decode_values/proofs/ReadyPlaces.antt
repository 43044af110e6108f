-- Parts of what can be read are free, and a value can be read where its kind's size can.
use Rattle.std.proofs.Common.{◌≡◌, ℕ, ◌+◌, ◌<◌, ◌≤◌, List, length, sym, subst, ◌∙◌, arith}
use Rattle.std.specs.Prelude.{Some}
use Rattle.fidl_wire.specs.Term as ty
use Rattle.fidl_wire.specs.Figure.{Figure, figure_of}
use Rattle.fidl_table_format.specs.declared.kind.EntryKind.{EntryKind}
use Rattle.fidl_table_format.specs.Kind.{kind_of}
use Rattle.fidl_table_format.specs.Section.{header_of, entry_at}
use Rattle.fidl_table_format.specs.Terms.{declarations_of, term_as}
use Rattle.fidl_decode_model.specs.Invariants.{IsFine}
use Rattle.fidl_decode_model.specs.State.{Message, Position}
use Rattle.fidl_decode_model.specs.Frontier.{AreFree, IsAhead}
use Rattle.fidl_decode_model.proofs.Visiting.{figure_is}
use Rattle.fidl_decode_model.proofs.Stated.{stated}
use Rattle.fidl_decode_values.specs.Ready.{PlaceReady, ValueReady}

-- a part of what is free
pub free_part : (s : Position) (a b c d : ℕ) → AreFree s a b → a ≤ c → d ≤ b → AreFree s c d
free_part s a b c d free low high k from to =
    free k (omega (arith, low, from)) (omega (arith, high, to))

-- a part of the objects from the next one on
pub ahead_part : (m : Message) (s : Position) (c d : ℕ) → IsAhead m s → s.next ≤ c
    → d ≤ length m.bytes → AreFree s c d
ahead_part m s c d ahead low high = free_part s s.next (length m.bytes) c d ahead.free low high

-- what lies behind two parts
pub le_two : (a b c : ℕ) → a ≤ a + b + c
le_two a b c = omega arith

-- the first eight of sixteen bytes, and the last
pub first_free : (m : Message) (s : Position) (p : ℕ) → PlaceReady m s p 16 8 → AreFree s p (p + 8)
first_free m s p ready =
    free_part s p (p + 16) p (p + 8) ready.1.free (omega arith) (omega arith)

pub last_free : (m : Message) (s : Position) (p : ℕ) → PlaceReady m s p 16 8
    → AreFree s (p + 8) (p + 8 + 8)
last_free m s p ready =
    free_part s p (p + 16) (p + 8) (p + 8 + 8) ready.1.free (omega arith) (omega arith)

pub last_ready : (m : Message) (s : Position) (p : ℕ) → PlaceReady m s p 16 8
    → PlaceReady m s (p + 8) 8 8
last_ready m s p ready =
    let before = ready.1.before in
    let even = ready.2 in (
      ready.0,
      record { before = omega (arith, before); free = last_free m s p ready },
      omega (arith, even),
    )

module _ (t : List ℕ) (fine : IsFine t) (m : Message) (s : Position) (e place : ℕ)
    (k : EntryKind) (lt : e < (header_of t).entries)
    (is : kind_of (entry_at t e).kind ≡ Some k) where
  abbrev own : Figure
  own = figure_of (declarations_of t).figures (term_as k t (header_of t) (entry_at t e))

  same : own ≡ figure_of (declarations_of t).figures (ty.named e)
  same = figure_is t fine e k lt is ∙ sym (stated t e lt)

  -- what a value of the entry can be read from, and the same by its kind
  pub place_of : ValueReady t m s e place → PlaceReady m s place own.size own.align
  place_of r = subst (λ (f : Figure). PlaceReady m s place f.size f.align) (sym same) r

  pub value_of : PlaceReady m s place own.size own.align → ValueReady t m s e place
  value_of r = subst (λ (f : Figure). PlaceReady m s place f.size f.align) same r
