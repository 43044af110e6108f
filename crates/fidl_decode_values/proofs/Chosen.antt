-- Unions in a message: the visit of a union, whose member is in the envelope behind its ordinal.
use Rattle.std.proofs.Common.{◌≡◌, ◌≢◌, ℕ, ◌+◌, ◌-◌, ◌*◌, ◌<◌, ◌≤◌, Bool, true, false, List, length, get_or, Some, None, refl, sym, ap, subst, ◌∙◌, arith, ◌%◌}
use Rattle.std.specs.Prelude.{Option, IsTrue, IsFalse, IfSome, IfNone}
use Rattle.std.specs.Option.{option_map_or, is_some}
use Rattle.std.specs.Int.{w64, to_le_bytes}
use Rattle.fidl_limits.specs.declared.limits.TheConstants.{MAX_DEPTH}
use Rattle.fidl_wire.specs.Value.{union, Member, known, unknown}
use Rattle.fidl_wire.specs.Term.{Term, Rows, uint64, resolve, rows_of, nothing, find}
use Rattle.fidl_wire.specs.Term as ty
use Rattle.fidl_wire.specs.Figure.{Declarations, Figure, figure, figure_of}
use Rattle.fidl_wire.specs.Typed.{IsTypedMember}
use Rattle.fidl_wire.specs.Encoding.{zeros, inline_only, enveloped}
use Rattle.fidl_wire.specs.Standing.{Stands}
use Rattle.fidl_wire.proofs.Stand.{stands_both}
use Rattle.fidl_table_format.specs.declared.record.Row as raw
use Rattle.fidl_table_format.specs.declared.kind.EntryKind.TheVariants.{Union}
use Rattle.fidl_table_format.specs.declared.kind.EntryKind.{EntryKind}
use Rattle.fidl_table_format.specs.declared.record.Entry.{Entry}
use Rattle.fidl_table_format.specs.Kind.{kind_of}
use Rattle.fidl_table_format.specs.Section.{header_of, entry_at}
use Rattle.fidl_table_format.specs.Terms.{declarations_of, members_of, term_as, rows_from, is_optional, is_strict}
use Rattle.fidl_decode_model.proofs.Moving.{moves_none, moves_more}
use Rattle.fidl_decode_model.specs.Frontier.{IsAhead, CanRead, Moves}
use Rattle.fidl_decode_model.specs.declared.fault.DecodeFault.{DecodeFault}
use Rattle.fidl_decode_model.specs.declared.frame.Frame.{Frame}
use Rattle.fidl_decode_model.specs.Invariants.{IsFine}
use Rattle.fidl_decode_model.specs.State.{Message, Position, StandsAt, ValueAt}
use Rattle.fidl_decode_model.specs.Breaks.{Breaks, BreaksUnion, BreaksMember, ordinal_at}
use Rattle.fidl_decode_model.specs.Breaks as broken
use Rattle.fidl_decode_model.specs.Work.{member_work}
use Rattle.fidl_decode_model.specs.Machine.{StateFine, Visits, VisitFine, Opens, PaysEnvelope, FineIf, member_term, level, most_nest, inline_work, byte_work, probes, frame_work_if}
use Rattle.fidl_decode_model.specs.Worth.{ContainedWorth, ValueWorth}
use Rattle.fidl_decode_model.proofs.Broken.{union_absent, absent_union, union_chosen, union_right}
use Rattle.fidl_decode_model.proofs.Rows.{joined_stands, past_inline}
use Rattle.fidl_decode_model.proofs.Scalars.{standing}
use Rattle.fidl_decode_model.proofs.Stated.{stated}
use Rattle.fidl_decode_model.proofs.Turning.{fine_from}
use Rattle.fidl_decode_model.proofs.Visiting.{term_is, figure_is}

clash : true ≡ false → ⊥
clash e = cc

some_none : {A : Type 0} (a : A) → Some a ≡ None → ⊥
some_none a e = cc

-- the row that is found has the type of the member
pub member_is : (o : Option raw.Row) (t : Option Term) → IfNone o (t ≡ None) → IfSome o (λ row. t ≡ Some (ty.named row.entry)) → t ≡ member_term o
member_is None t none some = none
member_is (Some row) t none some = some

pub no_member : (o : Option raw.Row) (t : Option Term) → IfNone o (t ≡ None) → is_some o ≡ false → t ≡ None
no_member None t none is = none
no_member (Some row) t none is = absurd (clash is)

pub one_member : (o : Option raw.Row) (t : Option Term) → IfSome o (λ row. t ≡ Some (ty.named row.entry)) → is_some o ≡ true → t ≡ None → ⊥
one_member None t some is none = clash (sym is)
one_member (Some row) t some is none = some_none (ty.named row.entry) (sym some ∙ none)

-- a member of a flexible layout is one of the layout too, where that has the member or is flexible
strict_too : (ds : Declarations) (strict : Bool) (o : Option Term) (x : Member) → (o ≡ None → IsFalse strict) → IsTypedMember ds false o x → IsTypedMember ds strict o x
strict_too ds strict (Some t) (known v) may h = h
strict_too ds strict None (unknown inline bytes handles) may h = (may refl, h.1, h.2, h.3)
strict_too ds strict _ _ may h = absurd h

module _ (ds : Declarations) (m : Message) (held : ℕ) (optional strict : Bool) (rows : Rows) (place : ℕ) (from : Position) (here : place + 8 ≤ length m.bytes) (small : (i : ℕ) → get_or m.bytes i 0 < 256) where
  abbrev ordinal : ℕ
  ordinal = ordinal_at m.bytes place

  -- a union stands where its member does, behind the ordinal
  chosen_union : (to : Position) → (ordinal ≢ 0) → (find rows ordinal ≡ None → IsFalse strict) → (w : ℕ) → ContainedWorth ds m held (find rows ordinal) (place + 8) from to w → ValueWorth ds m held (ty.union optional strict rows) place from to (w + 1)
  chosen_union to some may w (x, le) =
      let number = standing uint64 m.bytes place here small in
      let few = number.0 in
      let front : List ℕ = to_le_bytes w64 ordinal in
      let b = enveloped ds (find rows ordinal) x.content in (
        record {
          value = union ordinal x.content;
          typed = (omega (arith, some), omega (arith, few), strict_too ds strict (find rows ordinal) x.content may x.typed);
          shallow = x.shallow;
          stands = joined_stands m (inline_only front) b place from (record { inline = number.1; out = tt; carried = tt }) (subst (λ (s : Position). StandsAt m b (place + 8) s) (sym (past_inline front from)) x.stands);
          end = x.end;
        },
        omega (arith, le),
      )

module _ (t : List ℕ) (fine : IsFine t) (m : Message) (held e place : ℕ) (from : Position) (lt : e < (header_of t).entries) (is : kind_of (entry_at t e).kind ≡ Some Union) where
  abbrev ds : Declarations
  ds = declarations_of t

  abbrev d : Entry
  d = entry_at t e

  abbrev rows : Rows
  rows = members_of t e

  abbrev own_ordinal : ℕ
  own_ordinal = ordinal_at m.bytes place

  abbrev term : Term
  term = resolve ds.terms (ty.named e)

  union_is : term ≡ ty.union (is_optional d) (is_strict d) rows
  union_is =
      let own : members_of t e ≡ rows_from t (header_of t) d.first d.count = ap (λ (o : Option EntryKind). rows_of (option_map_or (λ (k : EntryKind). term_as k t (header_of t) d) o nothing)) is in
      term_is t fine e Union lt is ∙ ap (λ (r : Rows). ty.union (is_optional d) (is_strict d) r) (sym own)

  union_figure : figure_of ds.figures (ty.named e) ≡ figure 16 8 0
  union_figure = stated t e lt ∙ sym (figure_is t fine e Union lt is)

  to_union : (to : Position) → ValueAt ds m held term place from to → ValueAt ds m held (ty.union (is_optional d) (is_strict d) rows) place from to
  to_union to x = subst (λ (u : Term). ValueAt ds m held u place from to) union_is x

  from_union : (to : Position) → ValueAt ds m held (ty.union (is_optional d) (is_strict d) rows) place from to → ValueAt ds m held term place from to
  from_union to x = subst (λ (u : Term). ValueAt ds m held u place from to) (sym union_is) x

  pub union_breaks : (fault : DecodeFault) → BreaksUnion m (is_optional d) (is_strict d) rows place fault → Breaks ds m held term place from fault
  union_breaks fault b = subst (λ (u : Term). Breaks ds m held u place from fault) (sym union_is) (broken.in_field (ty.union (is_optional d) (is_strict d) rows) place from fault b)

  -- an absent union
  pub visits_absent_union : StateFine m from → held ≤ MAX_DEPTH → (spent : ℕ) → spent ≡ 0 → IsTrue (is_optional d) → Stands m.bytes (place + 8) (zeros 8) → place + 8 ≤ length m.bytes → ((i : ℕ) → get_or m.bytes i 0 < 256) → own_ordinal ≡ 0 → Visits t m held e place from from spent None
  visits_absent_union state deep spent nothing may z here small none =
      let all : Stands m.bytes place (zeros 16) = stands_both m.bytes place (zeros 8) (zeros 8) (subst (λ k. Stands m.bytes place (to_le_bytes w64 k)) none (standing uint64 m.bytes place here small).1) z in
      record {
        same = λ to. (
          (λ x. (union_absent ds m held (is_optional d) (is_strict d) rows place from to none (to_union to x)).2),
          (λ same. subst (λ (s : Position). ValueAt ds m held term place from s) same (from_union from (absent_union ds m held (is_optional d) (is_strict d) rows place from may all deep).0)),
        );
        breaks = λ fault b. absurd b;
        least = λ to w y. subst (λ (s : Position). ValueWorth ds m held term place from s (w + spent + 1)) y
            (subst (λ (u : Term). ValueWorth ds m held u place from from (w + spent + 1)) (sym union_is) (let x = absent_union ds m held (is_optional d) (is_strict d) rows place from may all deep in let le = x.1 in (x.0, omega (arith, le))));
        state = state;
        moves = λ ahead read even. moves_none t m place (place + (figure_of ds.figures (ty.named e)).size) from ahead;
        less = omega (arith, nothing);
      }

  -- one with the ordinal of a member, or of none where the layout is flexible
  module _ (some : own_ordinal ≢ 0) (may : find rows own_ordinal ≡ None → IsFalse (is_strict d)) where
    -- what breaks a rule in its member
    pub member_breaks : (fault : DecodeFault) → BreaksMember ds m held (find rows own_ordinal) (place + 8) from fault → Breaks ds m held term place from fault
    member_breaks fault b = subst (λ (u : Term). Breaks ds m held u place from fault) (sym union_is)
        (broken.in_union (is_optional d) (is_strict d) rows place from fault some (union_right ds m held (is_optional d) (is_strict d) rows place from some (λ strict none. clash (sym strict ∙ may none))) b)

    -- one whose member is in the envelope, which is opened
    pub visits_union : (new : Position) (own spent : ℕ) (found : Option Frame) → own + 1 ≤ spent → spent ≤ own + probes + 1 → PaysEnvelope m.bytes
        from.next new.next own found → place + 8 ≤ length m.bytes → ((i : ℕ) → get_or m.bytes i 0 < 256) → Opens t m held (find rows own_ordinal)
        (place + 8) from new own found → Visits t m held e place from new spent found
    visits_union new own spent found some_steps few pays here small o =
        record {
          same = λ to. (
            (λ x. (o.same to).0 (union_chosen ds m held (is_optional d) (is_strict d) rows place from to some (to_union to x)).contained),
            (λ y. let x = (o.same to).1 y in from_union to (chosen_union ds m held (is_optional d) (is_strict d) rows place from here small to some may (member_work x.content) (x, omega arith)).0),
          );
          least = λ to w y. subst (λ (u : Term). ValueWorth ds m held u place from to (w + spent + 1)) (sym union_is)
              (let x = chosen_union ds m held (is_optional d) (is_strict d) rows place from here small to some may (w + own + 1) (o.least to w y) in let le = x.1 in (x.0, omega (arith, le, some_steps)));
          breaks = λ fault b. member_breaks fault (o.breaks fault b);
          state = o.state;
          moves = subst (λ (f : Figure). IsAhead m from → CanRead from place f.size → place % f.align ≡ 0 → Moves t m place (place + f.size) from new found None) (sym union_figure)
              (λ ahead read even. moves_more t m (place + 8) (place + 8 + 8) place (place + 16) from new found (omega arith) (omega arith)
              (o.moves ahead (record { before = omega (arith, read.before); free = λ k x y. read.free k (omega (arith, x)) (omega (arith, y)) }) (omega (arith, even))));
          less = subst (λ (f : Figure). byte_work * (length m.bytes - new.next) + frame_work_if found + spent ≤ byte_work * (length m.bytes - from.next) + inline_work f.nest * f.size + 1) (sym union_figure) (omega (arith, pays, few));
        }

  -- and its frame is fine
  pub union_fine : (found : Option Frame) → FineIf t m.bytes (level held 1 most_nest) found → VisitFine t m held 0 e found
  union_fine found x = fine_from t m.bytes (level held 1 most_nest) (level held 0 (figure_of ds.figures (ty.named e)).nest) found (omega arith) x
