-- A frame that has come in by two fills: its head, and what is behind it.
use Rattle.std.proofs.Common.{◌≡◌, ℕ, ◌+◌, ◌-◌, ◌<◌, ◌≤◌, ◌++◌, List, length, take, drop, true, arith, sym, ap, subst, ◌∙◌}
use Rattle.std.specs.Prelude.{Option}
use Rattle.std.specs.Io.KnownBytes.{Consumes, IsAtEnd}
use Rattle.fidl_frames.specs.Frames.{frame_length, is_proper, IsBegun}
use Rattle.fidl_frames.specs.Incoming.{Reads}
use Rattle.fidl_frames.specs.declared.frame.TheConstants.{MAX_FRAME}
use Rattle.fidl_frames.specs.declared.incoming.Incoming.TheVariants.{Frame, Inside, Failure, NoReads}
use Rattle.fidl_frames.proofs.Moves.{consumes_then}
use Rattle.std.proofs.lemmas.List.{take_all, length-append, length-take, length-drop}
use Rattle.std.proofs.Math.Seq.{take-append-add, take-append_seam}

-- the head, and so many bytes behind it
abbrev parts : List ℕ → List ℕ → ℕ → List ℕ
parts head body count = head ++ take count body

begins : (head body : List ℕ) (count : ℕ) → length head ≡ 8 → take 8 (parts head body count) ≡ head
begins head body count eight = ap (λ (n : ℕ). take n (parts head body count)) (sym eight) ∙ take-append_seam head (take count body)

long : (head body : List ℕ) (count : ℕ) → length head ≡ 8 → count ≤ length body → length (parts head body count) ≡ 8 + count
long head body count eight within =
    let k : length (take count body) ≡ count = simp length-take (omega arith) in
    omega (arith, length-append head (take count body))

-- the head is read, and more behind it
both : (a b c : Option (List ℕ)) (head body : List ℕ) (first count : ℕ) → first ≡ length head → Consumes a b (take first head) → Consumes b c (take count body) → Consumes a c (parts head body count)
both a b c head body first count all h k =
    let e : take first head ≡ head = take_all first head (omega arith) in
    consumes_then a b c head (take count body) (subst (λ (l : List ℕ). Consumes a b l) e h) k

-- what two fills of a buffer have done: the head, its length, and what is behind it
pub record Fills (a b c : Option (List ℕ)) (head body old : List ℕ) (first count end : ℕ) : Type 0 where
  pub eight : length head ≡ 8
  pub all : first ≡ length head
  pub one : Consumes a b (take first head)
  pub two : Consumes b c (take count body)
  pub room : length body ≡ end - 8
  pub low : 8 ≤ end
  pub front : take 8 (head ++ drop 8 old) ≡ head
  pub proper : is_proper head ≡ true
  pub is : end ≡ frame_length head

pub fills : (a b c : Option (List ℕ)) (head body old : List ℕ) (first count end : ℕ) → length old ≡ MAX_FRAME → length head ≡ length (take 8 old) → first ≡ length head → Consumes a b (take first head)
    → (is_proper (take 8 (head ++ drop 8 old)) ≡ true) × (end ≡ frame_length (take 8 (head ++ drop 8 old))) × (8 ≤ end) × (end ≤ MAX_FRAME) → length body ≡ length (take (end - 8) (drop 8 (head ++ drop 8 old))) → Consumes b c (take count body)
    → Fills a b c head body old first count end
fills a b c head body old first count end size same all one known room two =
    let eight : length head ≡ 8 = same ∙ simp length-take (omega arith) in
    let front : take 8 (head ++ drop 8 old) ≡ head = ap (λ (n : ℕ). take n (head ++ drop 8 old)) (sym eight) ∙ take-append_seam head (drop 8 old) in
    let known_room : length body ≡ end - 8 = room ∙ simp (length-take, length-drop, length-append, length-drop) (let low = known.2 in let high = known.3 in omega arith) in
    record {
      eight = eight;
      all = all;
      one = one;
      two = two;
      room = known_room;
      low = known.2;
      front = front;
      proper = ap is_proper (sym front) ∙ known.0;
      is = known.1 ∙ ap frame_length front;
    }

-- what stands behind the head is read too
pub whole_frame : (a b c : Option (List ℕ)) (head body old rest : List ℕ) (first count end : ℕ) → Fills a b c head body old first count end → count ≡ length body → Reads a c (take 8 (head ++ drop 8 old) ++ (body ++ rest)) (Frame end)
whole_frame a b c head body old rest first count end f full =
    let eight = f.eight in
    let room = f.room in
    let low = f.low in
    let within : count ≤ length body = omega arith in
    let t : take count body ≡ body = take_all count body (omega arith) in
    let l = long head body count eight within in
    let fits : end ≤ length (head ++ (body ++ rest)) = omega (arith, length-append head (body ++ rest), length-append body rest) in
    let sum : length head + (end - 8) ≡ end = omega arith in
    let all_of : 8 + count ≡ end = omega arith in
    let front : parts head body count ≡ take end (head ++ (body ++ rest)) =
    ap (λ (x : List ℕ). head ++ x) (t ∙ sym (take-append_seam body rest) ∙ ap (λ (n : ℕ). take n (body ++ rest)) room) ∙ sym (take-append-add head (body ++ rest) (end - 8)) ∙ ap (λ (n : ℕ). take n (head ++ (body ++ rest))) sum in
    let b8 = begins head body count eight in
    let made : Reads a c (head ++ (body ++ rest)) (Frame end) = record {
      given = parts head body count;
      consumed = both a b c head body first count f.all f.one f.two;
      is = (
        front,
        fits,
        record {
          head = omega arith;
          proper = ap is_proper b8 ∙ f.proper;
          long = l ∙ all_of ∙ f.is ∙ ap frame_length (sym b8);
        },
      );
    } in
    subst (λ (x : List ℕ). Reads a c (x ++ (body ++ rest)) (Frame end)) (sym f.front) made

begun : (head body : List ℕ) (count end : ℕ) → length head ≡ 8 → count < length body → length body ≡ end - 8 → is_proper head ≡ true → end ≡ frame_length head → IsBegun (parts head body count)
begun head body count end eight short room proper is =
    let l = long head body count eight (omega arith) in
    let b8 = begins head body count eight in
    record {
      some = omega arith;
      short = λ h. (ap is_proper b8 ∙ proper, subst (λ (n : ℕ). length (parts head body count) < n) (is ∙ ap frame_length (sym b8)) (omega arith));
    }

begun_of : (a b c : Option (List ℕ)) (head body old : List ℕ) (first count end : ℕ) → Fills a b c head body old first count end → count < length body → IsBegun (parts head body count)
begun_of a b c head body old first count end f short = begun head body count end f.eight short f.room f.proper f.is

pub part_inside : (a b c : Option (List ℕ)) (buffer head body old : List ℕ) (first count end : ℕ) → Fills a b c head body old first count end → count < length body → IsAtEnd c → Reads a c buffer Inside
part_inside a b c buffer head body old first count end f short at_end = record { given = parts head body count; consumed = both a b c head body first count f.all f.one f.two; is = (begun_of a b c head body old first count end f short, at_end) }

pub part_failed : (a b c : Option (List ℕ)) (buffer head body old : List ℕ) (first count end : ℕ) → Fills a b c head body old first count end → count < length body → Reads a c buffer Failure
part_failed a b c buffer head body old first count end f short = record { given = parts head body count; consumed = both a b c head body first count f.all f.one f.two; is = λ some. begun_of a b c head body old first count end f short }

pub part_unread : (a b c : Option (List ℕ)) (buffer head body old : List ℕ) (first count end : ℕ) → Fills a b c head body old first count end → count < length body → Reads a c buffer NoReads
part_unread a b c buffer head body old first count end f short = record { given = parts head body count; consumed = both a b c head body first count f.all f.one f.two; is = λ some. begun_of a b c head body old first count end f short }
