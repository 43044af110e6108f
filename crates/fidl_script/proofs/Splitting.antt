-- The words of a line are those of one reading alone.
use Rattle.std.proofs.Common.{◌≡◌, ◌≢◌, ◌<◌, ◌≤◌, ◌+◌, ◌-◌, ℕ, zero, suc, true, false, append-nil, List, [], ◌∷◌, ◌++◌, length, take, drop, refl, sym, ap, subst, ◌∙◌, arith, take-append-drop, nat_eq}
use Rattle.std.specs.Prelude.{Option, Some, None, codes, slice_index, ◌==◌}
use Rattle.std.proofs.lemmas.Bool.{eqb-true, eqb-false}
use Rattle.std.proofs.lemmas.List.{take_all, length-take, length-drop, at_drop_more}
use Rattle.std.proofs.Math.Seq.{take-append_seam}
use Rattle.std.specs.Cmp.Lexicographic.{pointwise, bytes_decides}
use Rattle.fidl_script.specs.Phrases.{HasNo, IsProtocolLine, behind_method, IsReplyLine}

-- a line that begins with some bytes
pub begins_with : (line front : List ℕ) → pointwise nat_eq (take (length front) line) front ≡ true → line ≡ front ++ drop (length front) line
begins_with line front same =
    sym (take-append-drop (length front) line) ∙ ap (λ l. l ++ drop (length front) line) ((bytes_decides (take (length front) line) front).0 same)

-- a method and what follows it, by the first blank
split_once : (m n : List ℕ) (t u : Option (List ℕ)) → HasNo 32 m → HasNo 32 n → m ++ behind_method t ≡ n ++ behind_method u → (m ≡ n) × (t ≡ u)
split_once [] [] None None p q e = (refl, refl)
split_once [] [] None (Some y) p q e = absurd (cc e)
split_once [] [] (Some x) None p q e = absurd (cc e)
split_once [] [] (Some x) (Some y) p q e = let f : x ≡ y = ap (drop 1) e in (refl, ap Some f)
split_once [] (c ∷ n) None u p q e = absurd (cc e)
split_once [] (c ∷ n) (Some x) u p q e = let f : c ≡ 32 = (cc e) in absurd (q.0 f)
split_once (c ∷ m) [] t None p q e = absurd (cc e)
split_once (c ∷ m) [] t (Some y) p q e = let f : c ≡ 32 = (cc e) in absurd (p.0 f)
split_once (c ∷ m) (d ∷ n) t u p q e =
    let f : c ≡ d = (cc e) in
    let g : m ++ behind_method t ≡ n ++ behind_method u = ap (drop 1) e in
    let same = split_once m n t u p.1 q.1 g in
    (cc (f, same.0), same.1)

-- a reply line has one method, and one text or none
pub one_reply_line : (line m n : List ℕ) (t u : Option (List ℕ)) → IsReplyLine line m t → IsReplyLine line n u → (m ≡ n) × (t ≡ u)
one_reply_line line m n t u p q = split_once m n t u p.word.no_blank q.word.no_blank (ap (drop 6) (sym p.is ∙ q.is))

-- a protocol line has one name
pub one_protocol_line : (line m n : List ℕ) → IsProtocolLine line m → IsProtocolLine line n → m ≡ n
one_protocol_line line m n p q = ap (drop 9) (sym p.is ∙ q.is)

-- a line that does not begin with some bytes
no_front : (line front : List ℕ) → pointwise nat_eq (take (length front) line) front ≡ false → (rest : List ℕ) → line ≡ front ++ rest → ⊥
no_front line front differ rest e =
    let same : take (length front) line ≡ front = ap (take (length front)) e ∙ take-append_seam front rest in
    let yes = (bytes_decides (take (length front) line) front).1 same in
    absurd (cc (differ, yes))

pub no_protocol_front : (line : List ℕ) → pointwise nat_eq (take 9 line) (codes "protocol ") ≡ false → (name : List ℕ) → ¬ (IsProtocolLine line name)
no_protocol_front line differ name h = no_front line (codes "protocol ") differ name h.is

pub no_reply_front : (line : List ℕ) → pointwise nat_eq (take 6 line) (codes "reply ") ≡ false → (method : List ℕ) (text : Option (List ℕ)) → ¬ (IsReplyLine line method text)
no_reply_front line differ method text h = no_front line (codes "reply ") differ (method ++ behind_method text) h.is

-- bytes without another have it nowhere
has_none_at : (byte : ℕ) (bytes : List ℕ) (i : ℕ) → HasNo byte bytes → i < length bytes → slice_index bytes i ≢ byte
has_none_at byte [] i h less = absurd (omega (arith, less))
has_none_at byte (b ∷ bytes) zero h less = h.0
has_none_at byte (b ∷ bytes) (suc i) h less = has_none_at byte bytes i h.1 (omega (arith, less))

-- what stands behind `protocol ` in a line
module _ (line behind : List ℕ) (is : behind ≡ drop 9 line) where
  name_of : (name : List ℕ) → IsProtocolLine line name → name ≡ behind
  name_of name h = sym (is ∙ ap (drop 9) h.is)

  pub no_name : (length behind == 0) ≡ true → (name : List ℕ) → ¬ (IsProtocolLine line name)
  no_name none name h =
      let e : length name ≡ length behind = ap length (name_of name h) in
      let zero' : length behind ≡ 0 = eqb-true (length behind) 0 none in
      let some = h.word.some in
      omega (arith, e, zero', some)

  pub blank_in_name : (end : ℕ) → end < length behind → slice_index behind end ≡ 32 → (name : List ℕ) → ¬ (IsProtocolLine line name)
  blank_in_name end less blank name h = has_none_at 32 behind end (subst (HasNo 32) (name_of name h) h.word.no_blank) less blank

  pub protocol_line : (end : ℕ) → pointwise nat_eq (take 9 line) (codes "protocol ") ≡ true → (length behind == 0) ≡ false → length behind ≤ end → HasNo 32 (take end behind) → IsProtocolLine line behind
  protocol_line end same some none no_blank = record {
    is = begins_with line (codes "protocol ") same ∙ ap (λ l. codes "protocol " ++ l) (sym is);
    word = record {
      some = some_of (length behind) some;
      no_blank = subst (HasNo 32) (take_all end behind none) no_blank;
    };
  }
    where
      some_of : (n : ℕ) → (n == 0) ≡ false → 0 < n
      some_of n e = let other = eqb-false n 0 e in omega (arith, other)

-- what stands behind `reply ` in a line, and the place of the first blank there
module _ (line words : List ℕ) (is : words ≡ drop 6 line) (end : ℕ) (found : end < length words → slice_index words end ≡ 32) where
  words_of : (method : List ℕ) (text : Option (List ℕ)) → IsReplyLine line method text → words ≡ method ++ behind_method text
  words_of method text h = is ∙ ap (drop 6) h.is

  first_byte : (m rest : List ℕ) → 0 < length m → HasNo 32 m → words ≡ m ++ rest → end ≡ 0 → ⊥
  first_byte [] rest some no_blank e at = absurd (omega (arith, some))
  first_byte (c ∷ m) rest some no_blank e at =
      let long : length words ≡ suc (length (m ++ rest)) = ap length e in
      let blank : slice_index words 0 ≡ 32 = subst (λ n. slice_index words n ≡ 32) at (found (omega (arith, long, at))) in
      no_blank.0 (sym (ap (λ l. slice_index l 0) e) ∙ blank)

  pub no_method_word : end ≡ 0 → (method : List ℕ) (text : Option (List ℕ)) → ¬ (IsReplyLine line method text)
  no_method_word at method text h = first_byte method (behind_method text) h.word.some h.word.no_blank (words_of method text h) at

  module _ (same : pointwise nat_eq (take 6 line) (codes "reply ") ≡ true) (some : end ≢ 0) (no_blank : HasNo 32 (take end words)) where
    whole_line : line ≡ codes "reply " ++ words
    whole_line = begins_with line (codes "reply ") same ∙ ap (λ l. codes "reply " ++ l) (sym is)

    pub method_alone : end ≡ length words → IsReplyLine line (take end words) None
    method_alone at = record {
      is = whole_line ∙ ap (λ l. codes "reply " ++ l) (sym (append-nil (take end words) ∙ take_all end words (omega (arith, at))));
      word = record {
        some = let long : length (take end words) ≡ length words = ap length (take_all end words (omega (arith, at))) in omega (arith, long, at, some);
        no_blank = no_blank;
      };
    }

    pub method_and_text : end ≤ length words → end ≢ length words → IsReplyLine line (take end words) (Some (take (length words - (end + 1)) (drop (end + 1) words)))
    method_and_text within other =
        let less : end < length words = omega (arith, within, other) in
        let rest : take (length words - (end + 1)) (drop (end + 1) words) ≡ drop (end + 1) words = take_all (length words - (end + 1)) (drop (end + 1) words) (let long = length-drop (end + 1) words in omega (arith, long)) in
        let split : words ≡ take end words ++ (32 ∷ drop (end + 1) words) =
        sym (take-append-drop end words) ∙ ap (λ l. take end words ++ l) (at_drop_more (λ (l : List ℕ). l) words end 0 less ∙ ap (λ b. b ∷ drop (end + 1) words) (found less)) in
        record {
          is = whole_line ∙ ap (λ l. codes "reply " ++ l) (split ∙ ap (λ l. take end words ++ 32 ∷ l) (sym rest));
          word = record {
            some = let long : length (take end words) ≡ end = simp length-take (omega arith) in omega (arith, long, some);
            no_blank = no_blank;
          };
        }
