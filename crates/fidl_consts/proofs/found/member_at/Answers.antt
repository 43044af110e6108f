use Rattle.std.proofs.Common.{◌≡◌, ◌<◌, Some, length, refl, sym, ap, subst, arith}
use Rattle.std.specs.Prelude.{slice_get}
use Rattle.std.proofs.lemmas.Option.{slice_get_read, slice_get_within}
use borrow.Author.Tests.{ltb-true}
use Rattle.fidl_tree.specs.declared.type_constructor.ValuesLayout.{ValuesLayout, out-ValuesLayout}
use Rattle.fidl_consts.proofs.Standing.{one_layout}
use Rattle.fidl_consts.proofs.found.member_at.Goals as goal

pub returns-in_err-found-clause-none : goal.returns-in_err-found-clause-none
returns-in_err-found-clause-none c = λ _ f l m h at. c.in_err-found.ensures.none refl f l h

pub returns-in_err-member-clause-none : goal.returns-in_err-member-clause-none
returns-in_err-member-clause-none c = λ _ f l m h at.
    let found = c.in_ok-found.found in
    let same : l ≡ found.layout.now = one_layout c.args.named.now c.args.id f found.file.now l found.layout.now h c.in_ok-found.ensures.found in
    let within : c.args.number < length (out-ValuesLayout found.layout.now).members.items =
    subst (λ (l : ValuesLayout). c.args.number < length (out-ValuesLayout l).members.items) same (slice_get_within (out-ValuesLayout l).members.items c.args.number m at) in
    let past = c.in_err-member.ensures.lookup in
    let long : length c.deref.result.now ≡ length (out-ValuesLayout found.layout.now).members.items = ap length c.deref.ensures.value in
    omega (arith, past.3, within, long)

pub returns-clause-member : goal.returns-clause-member
returns-clause-member c =
    let members = c.deref.result.now in
    let look = c.in_ok-member.ensures.lookup in
    let there : slice_get members c.args.number ≡ Some c.in_ok-member.member.now = slice_get_read members (length members) c.args.number c.in_ok-member.member.now refl (ltb-true c.args.number (length members) (sym look.0)) look.1 in
    subst (λ l. slice_get l c.args.number ≡ Some c.in_ok-member.member.now) c.deref.ensures.value there
