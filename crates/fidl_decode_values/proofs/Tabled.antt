-- Tables in a message: the visit of a table, whose envelopes are the next object.
use Rattle.std.proofs.Common.{None, refl, ◌≡◌, ℕ, ◌+◌, ◌-◌, ◌*◌, ◌^◌, ◌<◌, ◌≤◌, List, length, get_or, Some, sym, ap, subst, ◌∙◌, arith, ◌%◌}
use Rattle.std.specs.Prelude.{Option}
use Rattle.std.specs.Option.{option_map_or}
use Rattle.std.specs.Int.{next_multiple_of, w64, to_le_bytes}
use Rattle.fidl_limits.specs.declared.limits.TheConstants.{MAX_DEPTH}
use Rattle.fidl_wire.specs.Value.{table}
use Rattle.fidl_wire.specs.Term.{Term, Rows, uint64, resolve, rows_of, nothing}
use Rattle.fidl_wire.specs.Term as ty
use Rattle.fidl_wire.specs.Figure.{Declarations, IsLaidOut, Figure, figure, figure_of}
use Rattle.fidl_wire.specs.Encoding.{zeros, present, pad8, envelopes}
use Rattle.fidl_wire.specs.Standing.{Stands}
use Rattle.fidl_wire.proofs.Stand.{stands_to, stands_both}
use Rattle.fidl_table_format.specs.declared.kind.EntryKind.TheVariants.{Table}
use Rattle.fidl_table_format.specs.declared.kind.EntryKind.{EntryKind}
use Rattle.fidl_table_format.specs.Kind.{kind_of}
use Rattle.fidl_table_format.specs.Section.{header_of, entry_at}
use Rattle.fidl_table_format.specs.Terms.{declarations_of, members_of, term_as, rows_from}
use Rattle.fidl_decode_model.proofs.Stated.{stated}
use Rattle.fidl_decode_model.proofs.Moving.{moves_linked}
use Rattle.fidl_decode_model.specs.Frontier.{IsAhead, CanRead, Moves}
use Rattle.fidl_decode_model.specs.declared.frame.Frame.{Frame}
use Rattle.fidl_decode_model.specs.declared.frame.Remaining.TheVariants.{Envelopes}
use Rattle.fidl_decode_model.specs.Invariants.{IsFine}
use Rattle.fidl_decode_model.specs.State.{Message, Position, linked, ValueAt, Slots}
use Rattle.fidl_decode_model.specs.Breaks.{Breaks, BreaksEnvelopes, count_at}
use Rattle.fidl_decode_model.specs.Breaks as broken
use Rattle.fidl_decode_model.specs.Work.{members_work}
use Rattle.fidl_decode_model.specs.Machine.{StateFine, Visits, most_nest, inline_work, byte_work}
use Rattle.fidl_decode_model.specs.Worth.{SlotsWorth, ValueWorth}
use Rattle.fidl_decode_model.proofs.After.{length-table, length-pad8}
use Rattle.fidl_decode_model.proofs.Scalars.{standing}
use Rattle.fidl_decode_model.proofs.Rows.{stands_at}
use Rattle.fidl_decode_model.proofs.Broken.{table_value, table_right}
use Rattle.fidl_decode_model.proofs.Visiting.{term_is, figure_is}

pub whole_eights : (n : ℕ) → next_multiple_of (8 * n) 8 ≡ 8 * n
whole_eights n = omega arith

-- a table stands where its envelopes do, behind its count and its marker
module _ (ds : Declarations) (laid : IsLaidOut ds) (m : Message) (held : ℕ) (rows : Rows) (place : ℕ) (from : Position) where
  abbrev n : ℕ
  n = count_at m.bytes place

  pub item_table : (to : Position) → place + 8 ≤ length m.bytes → ((i : ℕ) → get_or m.bytes i 0 < 256) → n < 2 ^ 64 → Stands m.bytes (place + 8)
      present → (w : ℕ) → SlotsWorth ds m (held + 1) rows 0 n from.next (linked (place + 8) (8 * n) from) to w → ValueWorth ds m held (ty.table rows)
      place from to (w + 1)
  item_table to here small few ones w (y, le) =
      let a = envelopes ds rows 1 n y.members in
      let own = linked (place + 8) (8 * n) from in
      let long = length-table ds laid rows n y.members y.typed in
      let whole = whole_eights n in
      let pad : next_multiple_of (length a.inline) 8 - length a.inline ≡ 0 = ap (λ j. next_multiple_of j 8 - j) long ∙ omega (arith, whole) in
      let deep = y.shallow in
      let at = stands_at m a (from.next + 8 * 0) from.next own (omega arith) y.stands in
      let wide : from.next + next_multiple_of (8 * n) 8 ≡ from.next + length (pad8 a.inline) = ap (λ k. from.next + next_multiple_of k 8) (sym long) ∙ ap (λ k. from.next + k) (sym (length-pad8 a.inline)) in (
        record {
          value = table n y.members;
          typed = (few, y.typed);
          shallow = omega (arith, deep);
          stands = record {
            inline = stands_both m.bytes place (to_le_bytes w64 n) present (standing uint64 m.bytes place here small).1 ones;
            out = stands_both m.bytes from.next (pad8 a.inline) a.out
                (stands_both m.bytes from.next a.inline (zeros (next_multiple_of (length a.inline) 8 - length a.inline)) at.inline (subst (λ k. Stands m.bytes (from.next + length a.inline) (zeros k)) (sym pad) tt))
                (stands_to m.bytes (from.next + next_multiple_of (8 * n) 8) (from.next + length (pad8 a.inline)) a.out wide at.out);
            carried = at.carried;
          };
          end = y.end;
        },
        omega (arith, le),
      )

-- the frame of a table's envelopes
abbrev pub table_frame : (entry n held : ℕ) → Position → Frame
table_frame entry n held from = record { left = Envelopes entry 0 n; base = from.next; done = 0; size = 8 * n; nest = most_nest; depth = held + 1; in_envelope = 0 }

table_work : (w : ℕ) → inline_work most_nest * (w - 0) + 1 ≤ byte_work * w + 1
table_work w = omega arith

module _ (t : List ℕ) (fine : IsFine t) (m : Message) (held e place : ℕ) (from : Position) (lt : e < (header_of t).entries) (is : kind_of (entry_at t e).kind ≡ Some Table) (state : StateFine m from) where
  abbrev ds : Declarations
  ds = declarations_of t

  abbrev rows : Rows
  rows = members_of t e

  abbrev count : ℕ
  count = count_at m.bytes place

  table_is : resolve ds.terms (ty.named e) ≡ ty.table rows
  table_is =
      let own : members_of t e ≡ rows_from t (header_of t) (entry_at t e).first (entry_at t e).count = ap (λ (o : Option EntryKind). rows_of (option_map_or (λ (k : EntryKind). term_as k t (header_of t) (entry_at t e)) o nothing)) is in
      term_is t fine e Table lt is ∙ ap ty.table (sym own)

  table_figure : figure_of ds.figures (ty.named e) ≡ figure 16 8 0
  table_figure = stated t e lt ∙ sym (figure_is t fine e Table lt is)

  -- the envelopes are left to read
  pub visits_table : (spent : ℕ) → spent ≡ 0 → Stands m.bytes (place + 8) present → held < MAX_DEPTH → count < 2 ^ 64 → 8 * count ≤ length m.bytes - from.next → place + 8 ≤ length m.bytes → ((i : ℕ) → get_or m.bytes i 0 < 256)
      → Visits t m held e place from (linked (place + 8) (8 * count) from) spent (Some (table_frame e count held from))
  visits_table spent none ones shallow few room here small =
      let within = state.next in
      let whole = whole_eights count in
      let own = linked (place + 8) (8 * count) from in
      let all : 0 + count ≡ count = omega arith in
      record {
        same = λ to. (
          (λ x. subst (λ k. Slots ds m (held + 1) rows 0 k from.next own to) (sym all) (table_value ds fine.laid_out m held rows place from to (subst (λ (u : Term). ValueAt ds m held u place from to) table_is x)).slots),
          (λ y. subst (λ (u : Term). ValueAt ds m held u place from to) (sym table_is)
              (item_table ds fine.laid_out m held rows place from to here small few ones (members_work y.members)
              (subst (λ k. (x : Slots ds m (held + 1) rows 0 k from.next own to) × (members_work x.members ≤ members_work y.members)) all
              (y, omega arith))).0),
        );
        least = λ to w y. subst (λ (u : Term). ValueWorth ds m held u place from to (w + spent + 1)) (sym table_is)
            (let x = item_table ds fine.laid_out m held rows place from to here small few ones w (subst (λ k. SlotsWorth ds m (held + 1) rows 0 k from.next own to w) all y) in let less = x.1 in (x.0, omega (arith, less)));
        breaks = λ fault b. subst (λ (u : Term). Breaks ds m held u place from fault) (sym table_is)
            (broken.in_table rows place from fault ones (table_right ds fine.laid_out m held rows place from ones shallow few (omega (arith, room, whole))) (subst (λ k. BreaksEnvelopes ds m (held + 1) rows 1 k from.next own fault) all b));
        state = record { next = omega (arith, within, room, whole); handle = state.handle; few = state.few };
        moves = subst (λ (f : Figure). IsAhead m from → CanRead from place f.size → place % f.align ≡ 0 → Moves t m place (place + f.size) from own (Some (table_frame e count held from)) None) (sym table_figure)
            (λ ahead read even. moves_linked t m place (place + 16) (place + 8) (8 * count) (table_frame e count held from) from ahead read.before (omega (arith, even)) (omega arith) (omega arith) (omega (arith, room, whole)) within refl refl (sym whole) ahead.even);
        less = omega (arith, none, table_work (8 * count), within, room, whole);
      }
