-- After a turn, what is left of the frames on the stack can still be read.
use Rattle.std.proofs.Common.{inl, inr, ℕ, ◌+◌, ◌++◌, List, [], ◌∷◌, arith}
use Rattle.std.specs.Option.{option_to_list}
use Rattle.std.specs.Prelude.{Option, Some, None}
use Rattle.fidl_decode_model.specs.declared.frame.Frame.{Frame}
use Rattle.fidl_decode_model.specs.declared.frame.Turn.{Turn}
use Rattle.fidl_decode_model.specs.State.{Message, Position}
use Rattle.fidl_decode_model.specs.Frontier.{IsAhead, IsClear, ClearIf, AreApart, ApartIf, IsIn, InIf, Moves}
use Rattle.fidl_decode_model.specs.Machine.{Turns}
use Rattle.fidl_decode_model.proofs.Moving.{clear_still}
use Rattle.fidl_decode_values.specs.Ready.{IsApart, AreClear, StackReady}

-- ---- frames at the stack's end

apart_turned : (f g : Frame) → AreApart f g → AreApart g f
apart_turned f g h = elim h [
  | inl x ↦ inr x
  | inr x ↦ inl x
]

apart_both : (f : Frame) (gs hs : List Frame) → IsApart f gs → IsApart f hs → IsApart f (gs ++ hs)
apart_both f [] hs a b = b
apart_both f (g ∷ gs) hs a b = (a.0, apart_both f gs hs a.1 b)

apart_front : (f : Frame) (gs hs : List Frame) → IsApart f (gs ++ hs) → IsApart f gs × IsApart f hs
apart_front f [] hs a = (tt, a)
apart_front f (g ∷ gs) hs a = let r = apart_front f gs hs a.1 in ((a.0, r.0), r.1)

-- each frame of the first is apart from all of the second
abbrev EachApart : (fs gs : List Frame) → Type 0
EachApart [] gs = Unit {0}
EachApart (f ∷ fs) gs = IsApart f gs × EachApart fs gs

module _ (t : List ℕ) where
  clear_both : (s : Position) (fs gs : List Frame) → AreClear t s fs → AreClear t s gs → EachApart fs gs → AreClear t s (fs ++ gs)
  clear_both s [] gs a b e = b
  clear_both s (f ∷ fs) gs a b e = (a.0, apart_both f fs gs a.1 e.0, clear_both s fs gs a.2 b e.1)

  clear_apart : (s : Position) (fs gs : List Frame) → AreClear t s (fs ++ gs) → AreClear t s fs × AreClear t s gs × EachApart fs gs
  clear_apart s [] gs a = (tt, a, tt)
  clear_apart s (f ∷ fs) gs a =
      let r = clear_apart s fs gs a.2 in
      let k = apart_front f fs gs a.1 in
      ((a.0, k.0, r.0), r.1, (k.1, r.2))

  -- ---- the others, while the topmost is read
  clear_others : (f : Frame) (s r : Position) (gs : List Frame) (below rest : Option Frame) (m : Message) → Moves t m (f.base + f.done) (f.base + f.size) s r below rest → AreClear t s gs → EachApart gs (f ∷ []) → AreClear t r gs
  clear_others f s r [] below rest m moves a e = tt
  clear_others f s r (g ∷ gs) below rest m moves a e =
      (clear_still t m (f.base + f.done) (f.base + f.size) g s r moves.stays a.0 e.0.0, a.1, clear_others f s r gs below rest m moves a.2 e.1)

  -- a frame that is apart from the topmost is apart from what a turn leaves of it
  apart_in : (f g h : Frame) (s : Position) (next : ℕ) → IsClear t s g → AreApart g f → IsIn (f.base + f.done) (f.base + f.size) s.next next h → AreApart g h
  apart_in f g h s next clear apart place =
      let before = clear.before in
      elim place [
        | inl x ↦ let own = x.0 in let end = x.1 in elim apart [
          | inl y ↦ inl (omega (arith, y, own))
          | inr y ↦ inr (omega (arith, y, end))
        ]
        | inr x ↦ let own = x.0 in inl (omega (arith, before, own))
      ]

  each_in : (f : Frame) (gs : List Frame) (s : Position) (next : ℕ) (o : Option Frame) → AreClear t s gs → EachApart gs (f ∷ []) → InIf (f.base + f.done) (f.base + f.size) s.next next o → EachApart gs (option_to_list o)
  each_in f [] s next o a e x = tt
  each_in f (g ∷ gs) s next None a e x = (tt, each_in f gs s next None a.2 e.1 x)
  each_in f (g ∷ gs) s next (Some h) a e x = ((apart_in f g h s next a.0 e.0.0 x, tt), each_in f gs s next (Some h) a.2 e.1 x)

  only_clear : (s : Position) (o : Option Frame) → ClearIf t s o → AreClear t s (option_to_list o)
  only_clear s None x = tt
  only_clear s (Some f) x = (x, tt, tt)

  each_both : (fs gs hs : List Frame) → EachApart fs hs → EachApart gs hs → EachApart (fs ++ gs) hs
  each_both [] gs hs a b = b
  each_both (f ∷ fs) gs hs a b = (a.0, each_both fs gs hs a.1 b)

  rest_apart : (rest below : Option Frame) → ApartIf below rest → EachApart (option_to_list rest) (option_to_list below)
  rest_apart None below x = tt
  rest_apart (Some g) None x = (tt, tt)
  rest_apart (Some g) (Some f) x = ((apart_turned f g x, tt), tt)

  -- the topmost frame can be read
  pub top_ready : (m : Message) (fs : List Frame) (f : Frame) (s : Position) → StackReady t m s (fs ++ f ∷ []) → IsClear t s f
  top_ready m fs f s ready = (clear_apart s fs (f ∷ []) ready.1).1.0

  module _ (m : Message) (fs : List Frame) (f : Frame) (old new : Position) (spent : ℕ) (x : Turn) (turns : Turns t m f old new spent x) (ready : StackReady t m old (fs ++ f ∷ [])) where
    moves : Moves t m (f.base + f.done) (f.base + f.size) old new x.below x.rest
    moves = turns.moves ready.0 (top_ready m fs f old ready)

    pub turn_ready : StackReady t m new ((fs ++ option_to_list x.rest) ++ option_to_list x.below)
    turn_ready =
        let parts = clear_apart old fs (f ∷ []) ready.1 in
        let others = clear_others f old new fs x.below x.rest m moves parts.0 parts.2 in
        let from_rest = each_in f fs old new.next x.rest parts.0 parts.2 moves.rest_in in
        let from_below = each_in f fs old new.next x.below parts.0 parts.2 moves.below_in in
        let upper = clear_both new fs (option_to_list x.rest) others (only_clear new x.rest moves.rest_clear) from_rest in
        (moves.ahead, clear_both new (fs ++ option_to_list x.rest) (option_to_list x.below) upper (only_clear new x.below moves.below_clear) (each_both fs (option_to_list x.rest) (option_to_list x.below) from_below (rest_apart x.rest x.below moves.apart)))

  pub one_ready : (m : Message) (s : Position) (o : Option Frame) → IsAhead m s → ClearIf t s o → StackReady t m s (option_to_list o)
  one_ready m s o ahead clear = (ahead, only_clear s o clear)
