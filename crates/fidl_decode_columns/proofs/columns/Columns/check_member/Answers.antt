use Rattle.std.proofs.Common.{◌≡◌, ℕ, ◌+◌, ◌*◌, ◌≤◌, refl, sym, ap, subst, ◌∙◌, arith}
use Rattle.std.specs.Prelude.{Some, None, true}
use Rattle.fidl_table_format.specs.declared.kind.EntryKind.{EntryKind}
use Rattle.fidl_table_format.specs.declared.record.Entry.{Entry}
use Rattle.fidl_table_format.specs.Kind.{kind_of}
use Rattle.fidl_table_format.specs.Section.{header_of, entry_at}
use Rattle.fidl_table_format.specs.Terms.{term_as}
use Rattle.fidl_decode_model.specs.Breaks.{BreaksField}
use Rattle.fidl_decode_model.specs.Faults.{message_of}
use Rattle.fidl_decode_model.proofs.Visiting.{same_some}
use Rattle.fidl_decode_columns.specs.Columns.{has_numbers, right_before, IsFirstWrong, IsGoodAt}
use Rattle.fidl_decode_columns.proofs.Counted.{if_none, none_known, all_counted}
use Rattle.fidl_decode_columns.proofs.Raw.{fewer_free}
use Rattle.fidl_decode_columns.proofs.Sizes.{fewer_room}
use Rattle.fidl_decode_columns.proofs.columns.Columns.check_member.Goals as goal

few : (limit known n : ℕ) → limit ≡ known → known ≤ n → limit ≤ n
few limit known n is le = omega (arith, is, le)

pub first_wrong-requires-clause-kind : goal.first_wrong-requires-clause-kind
first_wrong-requires-clause-kind c = ap (λ (e : Entry). kind_of e.kind) (sym c.entry.ensures.value) ∙ sym c.from_number.ensures ∙ c.in-Some.is

pub first_wrong-requires-clause-numbers : goal.first_wrong-requires-clause-numbers
first_wrong-requires-clause-numbers c =
    let t = c.args.self.now.table.now in
    let is : kind_of (entry_at t c.args.row.now.entry).kind ≡ Some c.in-Some.kind = ap (λ (e : Entry). kind_of e.kind) (sym c.entry.ensures.value) ∙ sym c.from_number.ensures ∙ c.in-Some.is in
    let numeric = c.requires.numeric in
    subst (λ (k : EntryKind). has_numbers k ≡ true) (same_some numeric.0 c.in-Some.kind (sym numeric.1 ∙ is)) numeric.2

pub first_wrong-requires-clause-room : goal.first_wrong-requires-clause-room
first_wrong-requires-clause-room c =
    let le = few c.right_before-limit.result (right_before c.args.structs.now.count c.args.known) c.args.structs.now.count c.right_before-limit.ensures c.requires.known in
    record {
      within = fewer_room c.args.structs.now.base c.args.structs.now.entry.size c.right_before-limit.result c.args.structs.now.count _ le c.requires.within;
      free = fewer_free c.args.self.now.links.now c.args.structs.now.base c.args.structs.now.entry.size c.right_before-limit.result c.args.structs.now.count le c.requires.free;
      member = c.requires.end;
    }

pub returns-clause-value : goal.returns-clause-value
returns-clause-value c =
    let t = c.args.self.now.table.now in
    let bytes = c.args.self.now.links.now.came in
    let m = message_of bytes c.args.self.now.handles.now in
    let d = entry_at t c.args.row.now.entry in
    let is : kind_of d.kind ≡ Some c.in-Some.kind = ap (λ (e : Entry). kind_of e.kind) (sym c.entry.ensures.value) ∙ sym c.from_number.ensures ∙ c.in-Some.is in
    let at : ℕ → ℕ = λ k. c.args.structs.now.base + c.args.structs.now.entry.size * k + c.args.row.now.key in
    (c.in-Some.kind, is, (c.first_wrong.result, c.first_of.ensures, subst (λ n. IsFirstWrong (λ k. IsGoodAt t bytes d c.in-Some.kind (at k)) (λ k. BreaksField m (term_as c.in-Some.kind t (header_of t) d) (at k)) n c.first_wrong.result) c.right_before-limit.ensures c.first_wrong.ensures.value))

pub returns-clause-least : goal.returns-clause-least
returns-clause-least c =
    if_none c.first_of.result (λ none. all_counted c.args.structs.now.count c.right_before-limit.result c.args.steps.now c.first_wrong.new.steps c.args.known c.right_before-limit.ensures none (omega (arith, c.first_wrong.ensures.grows, c.from.ensures)))
    (none_known c.args.known c.first_wrong.result c.first_of.result c.first_of.ensures)

pub are_seen_good-requires-clause-room : goal.are_seen_good-requires-clause-room
are_seen_good-requires-clause-room c =
    let le = few c.right_before-limit.result (right_before c.args.structs.now.count c.args.known) c.args.structs.now.count c.right_before-limit.ensures c.requires.known in
    record {
      within = fewer_room c.args.structs.now.base c.args.structs.now.entry.size c.right_before-limit.result c.args.structs.now.count _ le c.requires.within;
      free = fewer_free c.args.self.now.links.now c.args.structs.now.base c.args.structs.now.entry.size c.right_before-limit.result c.args.structs.now.count le c.requires.free;
      member = c.requires.end;
    }

pub returns-then-are_seen_good-clause-value : goal.returns-then-are_seen_good-clause-value
returns-then-are_seen_good-clause-value c =
    let t = c.args.self.now.table.now in
    let d = entry_at t c.args.row.now.entry in
    let is : kind_of d.kind ≡ Some c.in-Some.kind = ap (λ (e : Entry). kind_of e.kind) (sym c.entry.ensures.value) ∙ sym c.from_number.ensures ∙ c.in-Some.is in
    (c.in-Some.kind, is, (None, refl, (λ k lt. c.are_seen_good.ensures.value c.if-are_seen_good.true k (omega (arith, lt, c.right_before-limit.ensures)))))
