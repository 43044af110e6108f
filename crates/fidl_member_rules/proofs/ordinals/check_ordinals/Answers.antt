use Rattle.std.proofs.Common.{rules, ◌≡◌, ◌∙◌, length, get_or, take, ap, subst, arith}
use Rattle.std.specs.Prelude.{◌≢◌}
use Rattle.std.specs.List.{AllByRecursion, AllPairs}
use Rattle.std.proofs.lemmas.List.{get_or_default, take_all}
use Rattle.std.proofs.lemmas.List.Elements.{Contains-get_or}
use Rattle.std.proofs.lemmas.Option.{slice_get-get_or}
use Rattle.std.proofs.Math.ListN.{length-map}
use Rattle.fidl_span.specs.declared.words.Span.{Span}
use Rattle.fidl_tree.specs.Leaf.{text_at}
use Rattle.fidl_cycles.proofs.Lists.{all_take}
use Rattle.fidl_consts.specs.Literals.{number_of}
use Rattle.fidl_member_rules.specs.Ordinals.{ordinal_numbers, IsOrdinal}
use Rattle.fidl_member_rules.proofs.OrdinalNumbers.{keys_more, differ_more, number_within, number_is, report_outside, report_repeated}
use Rattle.fidl_member_rules.proofs.ordinals.check_ordinals.Goals as goal

abbrev none : Span
none = record { from = 0; to = 0 }

pub returns-in_err-number-clause-fault_is_true : goal.returns-in_err-number-clause-fault_is_true
returns-in_err-number-clause-fault_is_true c =
    let xs = c.args.ordinals.now in
    let i = c.loop-span.span-index in
    let s = get_or xs i none in
    let h = report_outside c.args.file.now.src.now c.args.last c.args.file_index xs s c.text.result.now c.text.ensures.bytes (Contains-get_or xs i none c.loop-span-test.true) c.in_err-number.field-0.0 c.in_err-number.ensures.fault_is_true in
    search (rules, h)

pub returns-in_err-add_number-clause-fault_is_true : goal.returns-in_err-add_number-clause-fault_is_true
returns-in_err-add_number-clause-fault_is_true c =
    let xs = c.args.ordinals.now in
    let i = c.loop-span.span-index in
    let s = get_or xs i none in
    let e = c.in_ok-number.ensures.number ∙ ap number_of c.text.ensures.bytes in
    let h = report_repeated c.args.file.now.src.now c.args.last c.args.file_index xs s i c.in_ok-number.number c.loop-span.numbers.keys (slice_get-get_or xs i none c.loop-span-test.true) e c.loop-span.invariant.so_far c.in_err-add_number.field-0.0 c.in_err-add_number.ensures.fault_is_true in
    search (rules, h)

pub loop-span-preserved : goal.loop-span-preserved
loop-span-preserved c =
    let src = c.args.file.now.src.now in
    let xs = c.args.ordinals.now in
    let i = c.loop-span.span-index in
    let lt = c.loop-span-test.true in
    let s = get_or xs i none in
    let n = c.in_ok-number.number in
    let numbers = ordinal_numbers src xs in
    let is : s ≡ get_or xs i s = get_or_default xs i none s lt in
    let within = number_within src xs i s lt is in
    let number = number_is src xs i s lt is n (c.in_ok-number.ensures.number ∙ ap number_of c.text.ensures.bytes) in
    let so_far = c.loop-span.invariant.so_far in
    record {
      so_far = keys_more numbers c.loop-span.numbers.keys i n within number so_far c.add_number.new.numbers.keys c.in_ok-add_number.ensures.ok;
      within = all_take numbers i n within number (IsOrdinal c.args.last) c.loop-span.invariant.within c.in_ok-number.ensures.within;
      differ = differ_more numbers c.loop-span.numbers.keys i n within number so_far c.in_ok-add_number.ensures.fresh c.loop-span.invariant.differ;
    }

pub returns-clause-ok : goal.returns-clause-ok
returns-clause-ok c =
    let numbers = ordinal_numbers c.args.file.now.src.now c.args.ordinals.now in
    let done = c.loop-span-test.false in
    let all : take c.loop-span.span-index numbers ≡ numbers = take_all c.loop-span.span-index numbers (omega (arith, done, length-map c.args.ordinals.now (λ (s : Span). number_of (text_at c.args.file.now.src.now s)))) in
    record {
      within = subst (AllByRecursion (IsOrdinal c.args.last)) all c.loop-span.invariant.within;
      differ = subst (AllPairs (λ m n. m ≢ n)) all c.loop-span.invariant.differ;
    }
