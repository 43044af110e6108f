-- The replies of some lines, and those of one line more.
use Rattle.std.proofs.Common.{◌≡◌, ◌<◌, ◌+◌, ◌==◌, ℕ, zero, suc, cond, List, [], ◌∷◌, ◌++◌, length, map, get_or, set, take, drop, refl, sym, ap, subst, ◌∙◌, arith, inl, inr, append-nil, take-append-drop}
use Rattle.std.specs.List.{AllZip, filter}
use Rattle.std.proofs.lemmas.Bool.{cases_eq, eq-eqb, ne_eqb}
use Rattle.std.proofs.lemmas.List.{map-append, length-set, get_or-set_same, get_or-set_other, take_more, map_push, get_or_default, length-replicate, at_drop_more}
use Rattle.std.specs.Prelude.{replicate}
use Rattle.fidl_script.specs.declared.lines.SaidLine.{SaidLine}
use Rattle.std.proofs.lemmas.List.Elements.{filter-append}
use Rattle.fidl_verify.specs.Lookups.{TableProtocol, IsProtocolOfTable, protocol_record}
use Rattle.fidl_script.specs.Lines.{Line}
use Rattle.fidl_script.specs.Script.{Body, method_of, IsTwoWay}
use Rattle.fidl_script.specs.Text.{Reply, IsReply, replies_with}
use Rattle.fidl_script.specs.Faults.{IsLineFault, IsLinesFault}
use Rattle.fidl_script.specs.Collected.{AreCollected}
use Rattle.fidl_script.specs.Held.{line_view, lines_view}
use Rattle.fidl_script.specs.declared.fault.ScriptFault.{ScriptFault}
use Rattle.fidl_script.specs.declared.fault.ScriptFault.TheVariants.{Syntax, UnknownProtocol, UnknownMethod, Missing, BadValue, Memory}
use Rattle.fidl_script.proofs.Rising.{one_place}

all_zip_push : {A B : Type 0} (R : A → B → Type 0) (xs : List A) (ys : List B) (x : A) (y : B) → AllZip R xs ys → R x y → AllZip R (xs ++ x ∷ []) (ys ++ y ∷ [])
all_zip_push R [] [] x y h r = (r, tt)
all_zip_push R [] (b ∷ ys) x y h r = absurd h
all_zip_push R (a ∷ xs) [] x y h r = absurd h
all_zip_push R (a ∷ xs) (b ∷ ys) x y h r = (h.0, all_zip_push R xs ys x y h.1 r)

-- the replies of a method, with one reply more
replies_more : (ordinal : ℕ) (rs : List Reply) (r : Reply) → replies_with ordinal (rs ++ r ∷ []) ≡ replies_with ordinal rs ++ map (λ (r : Reply). r.body) (cond (r.ordinal == ordinal) (r ∷ []) [])
replies_more ordinal rs r =
    ap (map (λ (r : Reply). r.body)) (filter-append (λ (r : Reply). r.ordinal == ordinal) rs (r ∷ []))
    ∙ map-append (λ (r : Reply). r.body) (filter (λ (r : Reply). r.ordinal == ordinal) rs) (cond (r.ordinal == ordinal) (r ∷ []) [])

more_of_it : (ordinal : ℕ) (rs : List Reply) (r : Reply) → r.ordinal ≡ ordinal → replies_with ordinal (rs ++ r ∷ []) ≡ replies_with ordinal rs ++ r.body ∷ []
more_of_it ordinal rs r e =
    replies_more ordinal rs r ∙ ap (λ t. replies_with ordinal rs ++ map (λ (r : Reply). r.body) (cond t (r ∷ []) [])) (eq-eqb r.ordinal ordinal e)

more_of_another : (ordinal : ℕ) (rs : List Reply) (r : Reply) → (r.ordinal ≡ ordinal → ⊥) → replies_with ordinal (rs ++ r ∷ []) ≡ replies_with ordinal rs
more_of_another ordinal rs r other =
    replies_more ordinal rs r ∙ ap (λ t. replies_with ordinal rs ++ map (λ (r : Reply). r.body) (cond t (r ∷ []) [])) (ne_eqb r.ordinal ordinal other) ∙ append-nil (replies_with ordinal rs)

-- no line yet
pub none_collected : (p : TableProtocol) (places : List (List Body)) → length places ≡ (protocol_record p).methods → ((place : ℕ) → place < (protocol_record p).methods → get_or places place [] ≡ []) → AreCollected p [] places
none_collected p places long none = record { replies = []; are = tt; long = long; bodies = none }

-- one line more
pub one_collected : (p : TableProtocol) → IsProtocolOfTable p → (lines : List Line) (places new : List (List Body)) → AreCollected p lines places
    → (line : Line) (place : ℕ) (body : Body) → IsTwoWay p place → IsReply p line (record { ordinal = (method_of p place).ordinal; body = body })
    → new ≡ set places place (get_or places place [] ++ body ∷ []) → AreCollected p (lines ++ line ∷ []) new
one_collected p is lines places new before line place body two_way reply e =
    let r : Reply = record { ordinal = (method_of p place).ordinal; body = body } in
    let long : length new ≡ length places = ap length e ∙ length-set places place (get_or places place [] ++ body ∷ []) in
    record {
      replies = before.replies ++ r ∷ [];
      are = all_zip_push (IsReply p) lines before.replies line r before.are reply;
      long = long ∙ before.long;
      bodies = λ k less.
          elim (cases_eq place k) [
            | inl same ↦
                subst (λ n. get_or new n [] ≡ replies_with (method_of p n).ordinal (before.replies ++ r ∷ [])) same
                (ap (λ l. get_or l place []) e
                ∙ get_or-set_same places place (get_or places place [] ++ body ∷ []) [] (omega (arith, two_way.within, before.long))
                ∙ ap (λ l. l ++ body ∷ []) (before.bodies place two_way.within)
                ∙ sym (more_of_it (method_of p place).ordinal before.replies r refl))
            | inr other ↦
                ap (λ l. get_or l k []) e
                ∙ get_or-set_other places place k (get_or places place [] ++ body ∷ []) [] (λ f. other (sym f))
                ∙ before.bodies k less
                ∙ sym (more_of_another (method_of p k).ordinal before.replies r (λ f. other (one_place p is place k two_way.within less f)))
          ];
    }

-- a line that gives no reply, behind lines that give some
pub stops : (p : TableProtocol) (lines before : List Line) (line : Line) (after : List Line) (replies : List Reply) → lines ≡ before ++ line ∷ after → AllZip (IsReply p) before replies
    → (f : ScriptFault) → IsLineFault p line f → IsLinesFault p lines f
stops p lines before line after replies e are (Syntax n) h = record { before = before; line = line; after = after; lines_are = e; replies = replies; are = are; is = h }
stops p lines before line after replies e are UnknownProtocol h = absurd h
stops p lines before line after replies e are (UnknownMethod n) h = record { before = before; line = line; after = after; lines_are = e; replies = replies; are = are; is = h }
stops p lines before line after replies e are Missing h = absurd h
stops p lines before line after replies e are (BadValue n) h = record { before = before; line = line; after = after; lines_are = e; replies = replies; are = are; is = h }
stops p lines before line after replies e are Memory h = tt

-- the lines up to one of them, that, and those behind it
pub lines_at : (lines : List SaidLine) (i : ℕ) (line : SaidLine) → i < length lines → line ≡ get_or lines i line → lines_view lines ≡ lines_view (take i lines) ++ line_view line ∷ lines_view (drop (i + 1) lines)
lines_at lines i line less at =
    let split : lines ≡ take i lines ++ (line ∷ drop (i + 1) lines) =
    sym (take-append-drop i lines) ∙ ap (λ (l : List SaidLine). take i lines ++ l) (at_drop_more (λ (l : List SaidLine). l) lines i line less ∙ ap (λ (x : SaidLine). x ∷ drop (i + 1) lines) (sym at)) in
    ap lines_view split ∙ map-append line_view (take i lines) (line ∷ drop (i + 1) lines)

pub lines_more : (lines : List SaidLine) (i : ℕ) (line : SaidLine) → i < length lines → line ≡ get_or lines i line → lines_view (take (i + 1) lines) ≡ lines_view (take i lines) ++ line_view line ∷ []
lines_more lines i line less at =
    ap lines_view (take_more lines i line less) ∙ map_push line_view (take i lines) (get_or lines i line) ∙ ap (λ (x : SaidLine). lines_view (take i lines) ++ line_view x ∷ []) (sym at)

-- no bodies for some methods
all_none : (e : List Body) (n i : ℕ) → get_or (replicate n e) i e ≡ e
all_none e zero i = refl
all_none e (suc n) zero = refl
all_none e (suc n) (suc i) = all_none e n i

pub no_bodies_at : (places : List (List Body)) (n count : ℕ) → places ≡ replicate n [] → n ≡ count → (place : ℕ) → place < count → get_or places place [] ≡ []
no_bodies_at places n count is e place less = ap (λ (l : List (List Body)). get_or l place []) is ∙ all_none [] n place

pub no_bodies_long : (places : List (List Body)) (n count : ℕ) → places ≡ replicate n [] → n ≡ count → length places ≡ count
no_bodies_long places n count is e = ap length is ∙ length-replicate {A = List Body} n [] ∙ e

-- no line yet, by how many methods there are
pub none_yet : (p : TableProtocol) (count : ℕ) (places : List (List Body)) → count ≡ (protocol_record p).methods → length places ≡ count → ((place : ℕ) → place < count → get_or places place [] ≡ []) → AreCollected p [] places
none_yet p count places e long none = none_collected p places (long ∙ e) (λ place less. none place (omega (arith, less, e)))

-- one line more of the lines, or one that stops them
module _ (p : TableProtocol) (lines : List SaidLine) (i : ℕ) (d : SaidLine) (less : i < length lines) where
  pub stops_at : (places : List (List Body)) → AreCollected p (lines_view (take i lines)) places → (f : ScriptFault) → IsLineFault p (line_view (get_or lines i d)) f → IsLinesFault p (lines_view lines) f
  stops_at places before f h =
      stops p (lines_view lines) (lines_view (take i lines)) (line_view (get_or lines i d)) (lines_view (drop (i + 1) lines)) before.replies (lines_at lines i (get_or lines i d) less (get_or_default lines i d (get_or lines i d) less)) before.are f h

  pub collected_at : IsProtocolOfTable p → (places new : List (List Body)) → AreCollected p (lines_view (take i lines)) places → (place : ℕ) (body : Body) → IsTwoWay p place
      → IsReply p (line_view (get_or lines i d)) (record { ordinal = (method_of p place).ordinal; body = body }) → new ≡ set places place (get_or places place [] ++ body ∷ []) → AreCollected p (lines_view (take (i + 1) lines)) new
  collected_at is places new before place body way reply e =
      subst (λ (l : List Line). AreCollected p l new) (sym (lines_more lines i (get_or lines i d) less (get_or_default lines i d (get_or lines i d) less)))
      (one_collected p is (lines_view (take i lines)) places new before (line_view (get_or lines i d)) place body way reply e)
