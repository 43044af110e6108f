-- What is still to be read is never linked: how what is read moves from one state to the next.
use Rattle.std.proofs.Common.{◌≡◌, ℕ, false, get_or-set_other, ◌+◌, ◌-◌, ◌*◌, ◌/◌, ◌%◌, ◌<◌, ◌≤◌, ◌⊎◌, inl, inr, List, length, ◌∙◌, arith}
use Rattle.std.specs.Prelude.{Option, Some, None}
use Rattle.fidl_decode_model.specs.declared.frame.Frame.{Frame}
use Rattle.fidl_decode_model.specs.State.{Message, Position}
use Rattle.fidl_decode_model.proofs.Staying.{free_still, stays_all, stays_linked, stays_opened, stays_begun, ahead_still}
use Rattle.std.specs.Int.{next_multiple_of}
use Rattle.fidl_decode_model.specs.State.{linked, opened, begun}
use Rattle.fidl_decode_model.specs.Frontier.{IsFree, IsOutside, Stays, IsAhead, CanRead, LeftEven, IsClear, ClearIf, IsIn, InIf, ApartIf, Moves}

pub stays_then : (a b c d : ℕ) (s mid r : Position) → Stays a b s.next mid.next s mid → Stays c d mid.next r.next mid r → ((a ≤ c) × (d ≤ b)) ⊎ ((s.next ≤ c) × (d ≤ mid.next)) → Stays a b s.next r.next s r
stays_then a b c d s mid r one two within = record {
  objects = λ i x y. two.objects i (λ p q. inner 8 (8 * i) within x y p q) (λ p q. y (omega (arith, one.grows, p)) q) ∙ one.objects i x (λ p q. y p (omega (arith, two.grows, q)));
  records = λ j x y. two.records j (λ p q. inner 4 (4 * j) within x y p q) (λ p q. y (omega (arith, one.grows, p)) q) ∙ one.records j x (λ p q. y p (omega (arith, two.grows, q)));
  grows = omega (arith, one.grows, two.grows);
}
  where
    inner : (n k : ℕ) → ((a ≤ c) × (d ≤ b)) ⊎ ((s.next ≤ c) × (d ≤ mid.next)) → IsOutside k n a b → IsOutside k n s.next r.next → c ≤ k → k + n ≤ d → ⊥
    inner n k (inl w) x y p q = x (omega (arith, w.0, p)) (omega (arith, w.1, q))
    inner n k (inr w) x y p q = y (omega (arith, w.0, p)) (omega (arith, w.1, q, two.grows))

pub stays_more : (a b c d : ℕ) (s r : Position) → c ≤ a → b ≤ d → Stays a b s.next r.next s r → Stays c d s.next r.next s r
stays_more a b c d s r le more h = record {
  objects = λ i x y. h.objects i (λ p q. x (omega (arith, le, p)) (omega (arith, more, q))) y;
  records = λ j x y. h.records j (λ p q. x (omega (arith, le, p)) (omega (arith, more, q))) y;
  grows = h.grows;
}

module _ (t : List ℕ) (m : Message) where
  -- a frame that has nothing in common with what is read stays clear
  pub clear_still : (a b : ℕ) (g : Frame) (s r : Position) → Stays a b s.next r.next s r → IsClear t s g → (g.base + g.size ≤ a) ⊎ (b ≤ g.base + g.done) → IsClear t r g
  clear_still a b g s r h c apart = record {
    before = omega (arith, c.before, h.grows);
    free = λ k x y. free_still a b s.next r.next s r h k (side apart k x y) (inl (omega (arith, y, c.before))) (c.free k x y);
    even = c.even;
  }
    where
      side : (g.base + g.size ≤ a) ⊎ (b ≤ g.base + g.done) → (k : ℕ) → g.base + g.done ≤ k → k < g.base + g.size → (k < a) ⊎ (b ≤ k)
      side (inl le) k x y = inl (omega (arith, y, le))
      side (inr ge) k x y = inr (omega (arith, x, ge))

  -- what lies in a frame, or in objects read since, lies in a wider range too
  in_wider : (a b : ℕ) (g h : Frame) (k n l : ℕ) → k ≤ n → n ≤ l → IsIn a b k n g → IsIn (g.base + g.done) (g.base + g.size) n l h → IsIn a b k l h
  in_wider a b g h k n l kn nl (inl x) (inl y) = inl (omega (arith, x.0, y.0), omega (arith, x.1, y.1))
  in_wider a b g h k n l kn nl (inr x) (inl y) = inr (omega (arith, x.0, y.0), omega (arith, x.1, y.1, nl))
  in_wider a b g h k n l kn nl w (inr y) = inr (omega (arith, y.0, kn), y.1)

  in_wider_if : (a b : ℕ) (g : Frame) (o : Option Frame) (k n l : ℕ) → k ≤ n → n ≤ l → IsIn a b k n g → InIf (g.base + g.done) (g.base + g.size) n l o → InIf a b k l o
  in_wider_if a b g None k n l kn nl x y = tt
  in_wider_if a b g (Some h) k n l kn nl x y = in_wider a b g h k n l kn nl x y

  later : (a b : ℕ) (o : Option Frame) (k n l : ℕ) → n ≤ l → InIf a b k n o → InIf a b k l o
  later a b None k n l nl x = tt
  later a b (Some g) k n l nl (inl x) = inl x
  later a b (Some g) k n l nl (inr x) = inr (x.0, omega (arith, x.1, nl))

  in_more : (a b c d : ℕ) (o : Option Frame) (k n : ℕ) → c ≤ a → b ≤ d → InIf a b k n o → InIf c d k n o
  in_more a b c d None k n le more x = tt
  in_more a b c d (Some g) k n le more (inl x) = inl (omega (arith, x.0, le), omega (arith, x.1, more))
  in_more a b c d (Some g) k n le more (inr x) = inr x

  within : (a b : ℕ) (g : Frame) (k n : ℕ) → IsIn a b k n g → ((a ≤ g.base + g.done) × (g.base + g.size ≤ b)) ⊎ ((k ≤ g.base + g.done) × (g.base + g.size ≤ n))
  within a b g k n x = x

  -- nothing is read
  pub moves_none : (a b : ℕ) (s : Position) → IsAhead m s → Moves t m a b s s None None
  moves_none a b s ahead = record { stays = stays_all a b s.next s.next s; ahead = ahead; below_clear = tt; rest_clear = tt; below_in = tt; rest_in = tt; apart = tt }

  pub moves_start : (f : Frame) (s : Position) → IsAhead m s → IsClear t s f → Moves t m (f.base + f.done) (f.base + f.size) s s None (Some f)
  moves_start f s ahead clear = record { stays = stays_all (f.base + f.done) (f.base + f.size) s.next s.next s; ahead = ahead; below_clear = tt; rest_clear = clear; below_in = tt; rest_in = inl (omega arith, omega arith); apart = tt }

  -- what is entered is left to read
  pub moves_enter : (a b : ℕ) (f : Frame) (s : Position) → IsAhead m s → IsClear t s f → a ≤ f.base + f.done → f.base + f.size ≤ b → Moves t m a b s s (Some f) None
  moves_enter a b f s ahead clear le more = record { stays = stays_all a b s.next s.next s; ahead = ahead; below_clear = clear; rest_clear = tt; below_in = inl (le, more); rest_in = tt; apart = tt }

  -- one turn after another on what is left
  pub moves_then : (a b : ℕ) (g : Frame) (old mid new : Position) (below rest : Option Frame) → Moves t m a b old mid None (Some g) → Moves t m (g.base + g.done) (g.base + g.size) mid new below rest → Moves t m a b old new below rest
  moves_then a b g old mid new below rest one two = record {
    stays = stays_then a b (g.base + g.done) (g.base + g.size) old mid new one.stays two.stays one.rest_in;
    ahead = two.ahead;
    below_clear = two.below_clear;
    rest_clear = two.rest_clear;
    below_in = in_wider_if a b g below old.next mid.next new.next one.stays.grows two.stays.grows one.rest_in two.below_in;
    rest_in = in_wider_if a b g rest old.next mid.next new.next one.stays.grows two.stays.grows one.rest_in two.rest_in;
    apart = two.apart;
  }

  -- what is below is read, up to what is left of it
  pub moves_below : (a b : ℕ) (g : Frame) (old mid new : Position) (found rest : Option Frame) → Moves t m a b old mid (Some g) rest → Moves t m (g.base + g.done) (g.base + g.size) mid new None found → Moves t m a b old new found rest
  moves_below a b g old mid new found rest one two = record {
    stays = stays_then a b (g.base + g.done) (g.base + g.size) old mid new one.stays two.stays one.below_in;
    ahead = two.ahead;
    below_clear = two.rest_clear;
    rest_clear = kept rest one.rest_clear one.apart;
    below_in = in_wider_if a b g found old.next mid.next new.next one.stays.grows two.stays.grows one.below_in two.rest_in;
    rest_in = later a b rest old.next mid.next new.next two.stays.grows one.rest_in;
    apart = still_apart found rest two.rest_in one.rest_clear one.apart;
  }
    where
      kept : (o : Option Frame) → ClearIf t mid o → ApartIf (Some g) o → ClearIf t new o
      kept None c x = tt
      kept (Some h) c (inl x) = clear_still (g.base + g.done) (g.base + g.size) h mid new two.stays c (inr x)
      kept (Some h) c (inr x) = clear_still (g.base + g.done) (g.base + g.size) h mid new two.stays c (inl x)

      still_apart : (o p : Option Frame) → InIf (g.base + g.done) (g.base + g.size) mid.next new.next o → ClearIf t mid p → ApartIf (Some g) p → ApartIf o p
      still_apart None p x c y = tt
      still_apart (Some h) None x c y = tt
      still_apart (Some h) (Some f) (inl x) c (inl y) = inl (omega (arith, x.1, y))
      still_apart (Some h) (Some f) (inl x) c (inr y) = inr (omega (arith, x.0, y))
      still_apart (Some h) (Some f) (inr x) c y = inr (omega (arith, x.0, c.before))

  -- nothing is left but what is below
  pub moves_tail : (a b : ℕ) (g : Frame) (old new : Position) (rest : Option Frame) → Moves t m a b old new (Some g) rest → Moves t m a b old new None (Some g)
  moves_tail a b g old new rest h = record { stays = h.stays; ahead = h.ahead; below_clear = tt; rest_clear = h.below_clear; below_in = tt; rest_in = h.below_in; apart = tt }

  -- a part of a frame is read, and behind it the rest is left
  pub moves_part : (f : Frame) (a b : ℕ) (h : Frame) (old new : Position) (found : Option Frame) → IsClear t old f → Moves t m a b old new found None → a ≤ b → f.base + f.done ≤ a → b ≤ h.base + h.done → h.base + h.size ≤ f.base + f.size → h.base + h.done ≤ h.base + h.size → LeftEven t h h.left
      → Moves t m (f.base + f.done) (f.base + f.size) old new found (Some h)
  moves_part f a b h old new found clear one up from over end order even = record {
    stays = stays_more a b (f.base + f.done) (f.base + f.size) old new from (omega (arith, over, end, order)) one.stays;
    ahead = one.ahead;
    below_clear = one.below_clear;
    rest_clear = clear_still a b h old new one.stays own (inr over);
    below_in = in_more a b (f.base + f.done) (f.base + f.size) found old.next new.next from (omega (arith, over, end, order)) one.below_in;
    rest_in = inl (omega (arith, from, over, behind), end);
    apart = apart found one.below_in;
  }
    where
      behind : a ≤ h.base + h.done
      behind = omega (arith, up, over)

      own : IsClear t old h
      own = record { before = omega (arith, clear.before, end); free = λ k x y. clear.free k (omega (arith, x, behind, from)) (omega (arith, y, end)); even = even }

      apart : (o : Option Frame) → InIf a b old.next new.next o → ApartIf o (Some h)
      apart None x = tt
      apart (Some g) (inl x) = inl (omega (arith, x.1, over))
      apart (Some g) (inr x) = inr (omega (arith, x.0, clear.before, end))

  -- the object of a marker is the next one, and left to read
  pub moves_linked : (a b marker n : ℕ) (f : Frame) (old : Position) → IsAhead m old → b ≤ old.next → marker % 8 ≡ 0 → a ≤ marker → marker + 8 ≤ b →
      next_multiple_of n 8 ≤ length m.bytes - old.next → old.next ≤ length m.bytes → f.base ≡ old.next → f.done ≡ 0 → f.size ≡ next_multiple_of n 8 →
      LeftEven t f f.left
      → Moves t m a b old (linked marker n old) (Some f) None
  moves_linked a b marker n f old ahead before even from to room short here none whole stands = record {
    stays = stays;
    ahead = ahead_still m a b old (linked marker n old) stays before (omega (arith, ahead.even)) ahead;
    below_clear = record {
      before = omega (arith, here, whole);
      free = λ k x y. free_still a b 0 0 old (linked marker n old)
          (stays_linked a b 0 0 marker n old from to even) k (inr (omega (arith, x, here, none, before))) (inr (omega arith))
          (ahead.free k (omega (arith, x, here, none)) (omega (arith, y, here, whole, room, short)));
      even = stands;
    };
    rest_clear = tt;
    below_in = inr (omega (arith, here, none), omega (arith, here, whole));
    rest_in = tt;
    apart = tt;
  }
    where
      stays : Stays a b old.next (linked marker n old).next old (linked marker n old)
      stays = stays_linked a b old.next (linked marker n old).next marker n old from to even

  -- what lies in a part is in the whole
  pub moves_more : (a b c d : ℕ) (old new : Position) (found : Option Frame) → c ≤ a → b ≤ d → Moves t m a b old new found None → Moves t m c d old new found None
  moves_more a b c d old new found le more h = record {
    stays = stays_more a b c d old new le more h.stays;
    ahead = h.ahead;
    below_clear = h.below_clear;
    rest_clear = tt;
    below_in = in_more a b c d found old.next new.next le more h.below_in;
    rest_in = tt;
    apart = h.apart;
  }

  -- the member in an envelope is left to read
  pub moves_opened : (p : ℕ) (f : Frame) (old : Position) → IsAhead m old → CanRead old p 8 → p % 8 ≡ 0 → f.base ≡ p → f.done ≡ 0 → f.size ≡ 4 → LeftEven t f f.left → Moves t m p (p + 8) old (opened p old) (Some f) None
  moves_opened p f old ahead read even here none four stands = record {
    stays = stays_opened p old.next old.next old even;
    ahead = ahead_still m p (p + 8) old (opened p old) (stays_opened p old.next old.next old even) read.before ahead.even ahead;
    below_clear = record { before = omega (arith, read.before, here, four); free = λ k x y. own k (omega (arith, x, here, none)) (omega (arith, y, here, four)); even = stands };
    rest_clear = tt;
    below_in = inl (omega (arith, here, none), omega (arith, here, four));
    rest_in = tt;
    apart = tt;
  }
    where
      own : (k : ℕ) → p ≤ k → k < p + 4 → IsFree (opened p old) k
      own k x y = (
        (read.free k x (omega (arith, y))).0,
        get_or-set_other old.records ((p + 4) / 4) (k / 4) (old.handle + 1) 0 (λ e. omega (arith, e, even, x, y)) ∙ (read.free k x (omega (arith, y))).1,
      )

  -- the member of an envelope is the next object, and left to read
  pub moves_begun : (p n : ℕ) (f : Frame) (old : Position) → IsAhead m old → CanRead old p 8 → p % 8 ≡ 0 → next_multiple_of n 8 ≤ length m.bytes - old.next → old.next ≤ length m.bytes → f.base ≡ old.next → f.done ≡ 0 → f.size ≡ next_multiple_of n 8 → LeftEven t f f.left
      → Moves t m p (p + 8) old (begun false p n old) (Some f) None
  moves_begun p n f old ahead read even room short here none whole stands = record {
    stays = stays_begun false p n old.next (begun false p n old).next old even;
    ahead = ahead_still m p (p + 8) old (begun false p n old) (stays_begun false p n old.next (begun false p n old).next old even) read.before (omega (arith, ahead.even)) ahead;
    below_clear = record {
      before = omega (arith, here, whole);
      free = λ k x y. free_still p (p + 8) 0 0 old (begun false p n old)
          (stays_begun false p n 0 0 old even) k (inr (omega (arith, x, here, none, read.before))) (inr (omega arith))
          (ahead.free k (omega (arith, x, here, none)) (omega (arith, y, here, whole, room, short)));
      even = stands;
    };
    rest_clear = tt;
    below_in = inr (omega (arith, here, none), omega (arith, here, whole));
    rest_in = tt;
    apart = tt;
  }

-- a frame that stands elsewhere by no byte is as apart
pub apart_as : (f g : Frame) (o : Option Frame) → f.base + f.done ≡ g.base + g.done → f.base + f.size ≡ g.base + g.size → ApartIf o (Some f) → ApartIf o (Some g)
apart_as f g None from to x = tt
apart_as f g (Some h) from to (inl x) = inl (omega (arith, x, from))
apart_as f g (Some h) from to (inr x) = inr (omega (arith, x, to))
