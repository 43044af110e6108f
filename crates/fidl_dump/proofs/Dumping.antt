-- How far an input is printed, after each frame and at each end.
use Rattle.std.proofs.Common.{◌≡◌, ℕ, ◌+◌, ◌-◌, List, [], ◌∷◌, ◌++◌, length, take, drop, arith, refl, sym, ap, subst, ◌∙◌, append_assoc, append-nil}
use Rattle.std.specs.Prelude.{Option, Result, Err}
use Rattle.std.specs.Io.KnownBytes.{Appends}
use Rattle.std.proofs.KnownBytes.{Appends-nil}
use Rattle.std.proofs.lemmas.List.{take-append-drop, length-append}
use Rattle.std.proofs.Math.Seq.{take-append_seam}
use Rattle.fidl_frames.specs.Frames.{Cut, between, frames_of, IsFrame}
use Rattle.fidl_frames.proofs.Cuts.{cut_whole, cut_nothing}
use Rattle.fidl_verify.specs.Lookups.{TableProtocol}
use Rattle.fidl_text.specs.Outputs.{AppendsFront}
use Rattle.fidl_text.proofs.Written.{appends_then, failed_then}
use Rattle.fidl_dump.specs.declared.direction.Direction.{Direction}
use Rattle.fidl_dump.specs.declared.fault.FrameFault.{FrameFault}
use Rattle.fidl_dump.specs.declared.fault.FrameFault.TheVariants.{Header, Body, BadMessage, BadFrame}
use Rattle.fidl_dump.specs.declared.fault.DumpFault.{DumpFault}
use Rattle.fidl_dump.specs.declared.fault.DumpFault.TheVariants.{Frame}
use Rattle.fidl_dump.specs.Lines.{IsLine, AreLines, none, more}
use Rattle.fidl_dump.specs.Faults.{IsFrameFault, HasNoFrame, IsFrameAt, IsFaultAt}
use Rattle.fidl_dump.specs.Printed.{PrintsLines, PrintsFront, first_frames}

none_left : (l : List ℕ) → length l ≡ 0 → l ≡ []
none_left [] e = refl
none_left (b ∷ bs) e = absurd (omega (arith, e))

-- the refusal that is answered is the one of this frame
pub told : (P : ℕ → FrameFault → Type 0) (k n : ℕ) (f g : FrameFault) → ◌≡◌ {A = Result Unit DumpFault} (Err (Frame k f)) (Err (Frame n g)) → P k f → P n g
told P k n f g e h =
    let a : k ≡ n = cc in
    let b : f ≡ g = cc in subst (λ (x : ℕ). P x g) a (subst (λ (y : FrameFault). P k y) b h)

-- some frames, and then those of a rest
abbrev pub behind : List (List ℕ) → Cut → Cut
behind done rest = record { frames = done ++ rest.frames; tail = rest.tail }

module _ (p : TableProtocol) (direction : Direction) where
  -- the lines of frames, and of one more
  one_more : (frames : List (List ℕ)) (text frame line : List ℕ) → AreLines p direction frames text → IsLine p direction frame line → AreLines p direction (frames ++ frame ∷ []) (text ++ line)
  one_more _ _ frame line none l = subst (λ (x : List ℕ). AreLines p direction (frame ∷ []) x) (append-nil line) (more frame line [] [] l none)
  one_more _ _ frame line (more first begin frames text k ks) l =
      subst (λ (x : List ℕ). AreLines p direction (first ∷ (frames ++ frame ∷ [])) x) (sym (append_assoc begin text line)) (more first begin (frames ++ frame ∷ []) (text ++ line) k (one_more frames text frame line ks l))

  -- the first frames of an input have been printed, so many of them, and this is left
  pub record IsSoFar (input rest : List ℕ) (number : ℕ) (old now : Option (List ℕ)) : Type 0 where
    pub done : List (List ℕ)
    pub text : List ℕ
    pub cut : frames_of input ≡ behind done (frames_of rest)
    pub counted : number ≡ length done
    pub lines : AreLines p direction done text
    pub written : Appends old now text

  pub begin : (input : List ℕ) (old : Option (List ℕ)) → IsSoFar input input 0 old old
  begin input old = record { done = []; text = []; cut = refl; counted = refl; lines = none; written = Appends-nil old }

  module _ (input rest : List ℕ) (number : ℕ) (old now : Option (List ℕ)) (s : IsSoFar input rest number old now) where
    all_frames : (frames_of input).frames ≡ s.done ++ (frames_of rest).frames
    all_frames = ap (λ (c : Cut). c.frames) s.cut

    same_tail : (frames_of input).tail ≡ (frames_of rest).tail
    same_tail = ap (λ (c : Cut). c.tail) s.cut

    -- the frames before the next are those that were printed
    before_next : first_frames (number + 1 - 1) input ≡ s.done
    before_next =
        let e : number + 1 - 1 ≡ length s.done = let n = s.counted in omega (arith, n) in
        ap (λ (n : ℕ). first_frames n input) e ∙ ap (λ (l : List (List ℕ)). take (length s.done) l) all_frames ∙ take-append_seam s.done (frames_of rest).frames

    pub lines_before : PrintsLines p direction (first_frames (number + 1 - 1) input) old now
    lines_before = subst (λ (l : List (List ℕ)). PrintsLines p direction l old now) (sym before_next) (s.text, s.lines, s.written)

    -- nothing is left
    pub at_end : length rest ≡ 0 → (frames_of input).tail ≡ between
    at_end n = let e = none_left rest n in same_tail ∙ ap (λ (l : List ℕ). (frames_of l).tail) e ∙ ap (λ (c : Cut). c.tail) cut_nothing

    pub all_lines : length rest ≡ 0 → PrintsLines p direction (frames_of input).frames old now
    all_lines n =
        let e = none_left rest n in
        let whole : (frames_of input).frames ≡ s.done = all_frames ∙ ap (λ (l : List ℕ). s.done ++ (frames_of l).frames) e ∙ ap (λ (c : Cut). s.done ++ c.frames) cut_nothing ∙ append-nil s.done in
        subst (λ (l : List (List ℕ)). PrintsLines p direction l old now) (sym whole) (s.text, s.lines, s.written)

    -- what is left begins with no whole frame
    pub bad_frame : HasNoFrame rest → IsFaultAt p direction input (number + 1) BadFrame
    bad_frame n =
        let whole : (frames_of input).frames ≡ s.done = all_frames ∙ ap (λ (l : List (List ℕ)). s.done ++ l) n.0 ∙ append-nil s.done in
        (ap (λ (k : ℕ). k + 1) (s.counted ∙ ap length (sym whole)), λ e. n.1 (sym same_tail ∙ e))

    -- what is left begins with a whole frame
    module _ (size : ℕ) (is : IsFrame (take size rest)) where
      next_frame : (frames_of input).frames ≡ s.done ++ take size rest ∷ (frames_of (drop size rest)).frames
      next_frame =
          all_frames
          ∙ ap (λ (l : List ℕ). s.done ++ (frames_of l).frames) (sym (take-append-drop size rest))
          ∙ ap (λ (c : Cut). s.done ++ c.frames) (cut_whole (take size rest) (drop size rest) is)

      pub frame_at : IsFrameAt input (number + 1) (take size rest)
      frame_at = record { before = s.done; after = (frames_of (drop size rest)).frames; frames = next_frame; counted = ap (λ (k : ℕ). k + 1) s.counted }

      first_fault : (fault : FrameFault) → IsFrameFault p direction (take size rest) fault → IsFaultAt p direction input (number + 1) fault
      first_fault (Header f) h = (take size rest, frame_at, h)
      first_fault (Body f) h = (take size rest, frame_at, h)
      first_fault BadMessage h = (take size rest, frame_at, h)
      first_fault BadFrame h = absurd (elim h [ ])

      -- its line is printed
      printed : (later : Option (List ℕ)) → ((line : List ℕ) × IsLine p direction (take size rest) line × Appends now later line) → IsSoFar input (drop size rest) (number + 1) old later
      printed later l = record {
        done = s.done ++ take size rest ∷ [];
        text = s.text ++ l.0;
        cut =
            s.cut
            ∙ ap (λ (r : List ℕ). behind s.done (frames_of r)) (sym (take-append-drop size rest))
            ∙ ap (λ (c : Cut). behind s.done c) (cut_whole (take size rest) (drop size rest) is)
            ∙ ap (λ (fs : List (List ℕ)). record { frames = fs; tail = (frames_of (drop size rest)).tail }) (sym (append_assoc s.done (take size rest ∷ []) (frames_of (drop size rest)).frames));
        counted = let n = s.counted in omega (arith, n, length-append s.done (take size rest ∷ []));
        lines = one_more s.done s.text (take size rest) l.0 s.lines l.1;
        written = appends_then old now later s.text l.0 s.written l.2;
      }

      -- a front of its line is printed
      cut_line : (later : Option (List ℕ)) → ((line : List ℕ) × IsLine p direction (take size rest) line × AppendsFront now later line) → (count : ℕ) × PrintsFront p direction (first_frames count input) old later
      cut_line later l =
          let more_done = s.done ++ take size rest ∷ [] in
          let front : first_frames (length more_done) input ≡ more_done =
          ap (λ (fs : List (List ℕ)). take (length more_done) fs) (next_frame ∙ sym (append_assoc s.done (take size rest ∷ []) (frames_of (drop size rest)).frames))
          ∙ take-append_seam more_done (frames_of (drop size rest)).frames in (
            length more_done,
            (
              s.text ++ l.0,
              subst (λ (fs : List (List ℕ)). AreLines p direction fs (s.text ++ l.0)) (sym front) (one_more s.done s.text (take size rest) l.0 s.lines l.1),
              failed_then old now later s.text l.0 s.written l.2,
            ),
          )

      -- the same of the frame by another name
      module _ (frame : List ℕ) (same : frame ≡ take size rest) where
        pub fault_at : (fault : FrameFault) → IsFrameFault p direction frame fault → IsFaultAt p direction input (number + 1) fault
        fault_at fault h = first_fault fault (subst (λ (f : List ℕ). IsFrameFault p direction f fault) same h)

        pub next : (left : List ℕ) (later : Option (List ℕ)) → left ≡ drop size rest → ((line : List ℕ) × IsLine p direction frame line × Appends now later line) → IsSoFar input left (number + 1) old later
        next left later e l = subst (λ (r : List ℕ). IsSoFar input r (number + 1) old later) (sym e) (printed later (l.0, subst (λ (f : List ℕ). IsLine p direction f l.0) same l.1, l.2))

        pub front_of_next : (later : Option (List ℕ)) → ((line : List ℕ) × IsLine p direction frame line × AppendsFront now later line) → (count : ℕ) × PrintsFront p direction (first_frames count input) old later
        front_of_next later l = cut_line later (l.0, subst (λ (f : List ℕ). IsLine p direction f l.0) same l.1, l.2)
