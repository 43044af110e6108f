use Rattle.std.proofs.Common.{◌≡◌, List, ℕ, Some, sym, subst, ◌∙◌, refl}
use Rattle.std.specs.Prelude.{slice_get}
use Rattle.fidl_named.specs.declared.meaning.Meaning.TheVariants as meaning
use Rattle.fidl_named.specs.FullNames.{IsDeclared}
use Rattle.fidl_named.specs.Meanings.{joined_name, member_names, IsMember}
use Rattle.fidl_named.proofs.Members.{member_only, member_none}
use Rattle.fidl_named.proofs.NumbersOfNames.{number_stands, number_nowhere}
use Rattle.fidl_named.proofs.reading.member.Goals as goal

pub returns : goal.returns
returns c =
    let set = c.args.set.now in
    let x = c.in-Some.found in
    let i = c.in-Some-value_number.number in
    let wanted = joined_name c.args.library.now c.args.type_name.now in
    let full : c.deref.result.now ≡ wanted = c.deref.ensures.value ∙ c.in_ok-full.ensures in
    let declared = subst (λ (l : List ℕ). IsDeclared set l x.id x.file.now x.declaration.now) full c.in-Some.ensures.found in
    let name : slice_get (member_names x.file.now x.declaration.now) i ≡ Some c.args.name.now =
    number_stands c.args.name.now (member_names x.file.now x.declaration.now) i (sym c.in-Some-value_number.ensures) in
    let member : IsMember set c.args.library.now c.args.type_name.now c.args.name.now (meaning.Member x.id i) = record {
      id = x.id;
      file = x.file.now;
      declaration = x.declaration.now;
      number = i;
      declared = declared;
      name_is = name;
      means = refl;
    } in (
      member,
      member_only set c.args.library.now c.args.type_name.now c.args.name.now x.id x.file.now x.declaration.now i declared
          (c.requires wanted x.id x.file.now x.declaration.now declared) name
          (λ q g e h. c.in-Some.ensures.only q g e (subst (λ (l : List ℕ). IsDeclared set l q g e) (sym full) h)),
    )

pub returns-in-None-value_number : goal.returns-in-None-value_number
returns-in-None-value_number c = λ m h.
    let set = c.args.set.now in
    let x = c.in-Some.found in
    let wanted = joined_name c.args.library.now c.args.type_name.now in
    let full : c.deref.result.now ≡ wanted = c.deref.ensures.value ∙ c.in_ok-full.ensures in
    let declared = subst (λ (l : List ℕ). IsDeclared set l x.id x.file.now x.declaration.now) full c.in-Some.ensures.found in
    member_none set c.args.library.now c.args.type_name.now c.args.name.now x.id x.file.now x.declaration.now declared
    (λ q g e k. c.in-Some.ensures.only q g e (subst (λ (l : List ℕ). IsDeclared set l q g e) (sym full) k))
    (number_nowhere c.args.name.now (member_names x.file.now x.declaration.now) (sym c.in-None-value_number.ensures)) m h
