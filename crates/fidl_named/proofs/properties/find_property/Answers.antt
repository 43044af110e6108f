use Rattle.std.proofs.Common.{rules, ◌≡◌, Some, ap, sym, subst, refl, ◌∙◌, ◌<◌, length, true, nat_lt}
use Rattle.std.proofs.lemmas.Bool.{ltb-true}
use Rattle.std.proofs.lemmas.Option.{slice_get-get_or}
use Rattle.std.specs.Prelude.{slice_get}
use Rattle.fidl_named.specs.Constraints.{number_in, property_names, property_of}
use Rattle.fidl_named.specs.declared.meaning.Meaning.TheVariants as meaning
use Rattle.std.proofs.lemmas.Option.{slice_get_within, slice_get_read}
use Rattle.fidl_tree.specs.declared.declaration.DeclarationBody.{DeclarationBody}
use Rattle.fidl_named.specs.MemberNumbers.{AreNumbers, own_properties, written_names}
use Rattle.fidl_named.specs.NameMaps.{seen}
use Rattle.fidl_named.proofs.NumbersOfNames.{match_at, match_length}
use Rattle.fidl_named.proofs.properties.find_property.Goals as goal

pub returns-clause-found : goal.returns-clause-found
returns-clause-found c =
    let items = c.in-Resource.definition.properties.members.items in
    let f = c.in_ok-found.found.file.now in
    let d = c.in_ok-found.found.declaration.now in
    let numbered = c.in_ok-number.ensures (property_names f (own_properties d.body)) c.in_ok-found.ensures.numbers.properties in
    let number : number_in (property_names f items) c.in_ok-name.name.now ≡ Some c.in_ok-number.number =
    sym (ap (λ (b : DeclarationBody). number_in (property_names f (own_properties b)) c.in_ok-name.name.now) c.in-Resource.is) ∙ sym numbered in
    let named : property_of c.args.rank ≡ Some c.in_ok-name.name.now = sym c.in_ok-name.ensures in
    let end : c.args.end ≡ Some (meaning.Declared c.in-Some-Declared.id) = search (rules, c.in-Some-Declared.is, c.in-Some-Declared.field-0-is) in
    let there : true ≡ nat_lt c.in_ok-number.number (length c.deref.result.now) = c.in_ok-property.ensures.lookup.0 in
    let within : c.in_ok-number.number < length c.deref.result.now = ltb-true c.in_ok-number.number (length c.deref.result.now) (sym there) in
    let member : slice_get items c.in_ok-number.number ≡ Some c.in_ok-property.property.now = subst (λ ps. slice_get ps c.in_ok-number.number ≡ Some c.in_ok-property.property.now) c.deref.ensures.value
    (slice_get-get_or c.deref.result.now c.in_ok-number.number c.in_ok-property.property.now within ∙ ap (λ x. Some x) (sym c.in_ok-property.ensures.lookup.1)) in
    record {
      declaration = c.in_ok-found.found.declaration.now;
      definition = c.in-Resource.definition;
      name = c.in_ok-name.name.now;
      end_is = end;
      at = c.in_ok-found.ensures.found.1;
      body = c.in-Resource.is;
      is_for = named;
      number_is = number;
      member_at = member;
    }

pub index-written-requires : goal.index-written-requires
index-written-requires c =
    let n = c.in_ok-number.number in
    let numbers = c.in_ok-found.found.numbers.now in
    let f = c.in_ok-found.found.file.now in
    let d = c.in_ok-found.found.declaration.now in
    let items = c.in-Resource.definition.properties.members.items in
    let there : true ≡ nat_lt n (length c.deref.result.now) = c.in_ok-property.ensures.lookup.0 in
    let within : n < length items = subst (λ l. n < length l) c.deref.ensures.value (ltb-true n (length c.deref.result.now) (sym there)) in
    let own : n < length (own_properties d.body) = subst (λ (b : DeclarationBody). n < length (own_properties b)) (sym c.in-Resource.is) within in
    let long = match_length (λ p m. AreNumbers (written_names f p) (seen m.entries)) (own_properties d.body) numbers.written.items c.in_ok-found.ensures.numbers.written in
    subst (λ k. n < k) (sym numbers.written.ok.0) (subst (λ k. n < k) long own)

pub returns-clause-written : goal.returns-clause-written
returns-clause-written c =
    let n = c.in_ok-number.number in
    let numbers = c.in_ok-found.found.numbers.now in
    let f = c.in_ok-found.found.file.now in
    let d = c.in_ok-found.found.declaration.now in
    let items = c.in-Resource.definition.properties.members.items in
    let property = c.in_ok-property.property.now in
    let there : true ≡ nat_lt n (length c.deref.result.now) = c.in_ok-property.ensures.lookup.0 in
    let within : n < length c.deref.result.now = ltb-true n (length c.deref.result.now) (sym there) in
    let member : slice_get items n ≡ Some property = subst (λ ps. slice_get ps n ≡ Some property) c.deref.ensures.value
    (slice_get-get_or c.deref.result.now n property within ∙ ap (λ x. Some x) (sym c.in_ok-property.ensures.lookup.1)) in
    let own : slice_get (own_properties d.body) n ≡ Some property = subst (λ (b : DeclarationBody). slice_get (own_properties b) n ≡ Some property) (sym c.in-Resource.is) member in
    let below : n < length numbers.written.items =
    subst (λ k. n < k) (match_length (λ p m. AreNumbers (written_names f p) (seen m.entries)) (own_properties d.body) numbers.written.items c.in_ok-found.ensures.numbers.written)
    (slice_get_within (own_properties d.body) n property own) in
    let written = slice_get_read numbers.written.items (length numbers.written.items) n c.index-written.result.now refl below c.index-written.ensures in
    match_at (λ p m. AreNumbers (written_names f p) (seen m.entries)) (own_properties d.body) numbers.written.items n property c.index-written.result.now c.in_ok-found.ensures.numbers.written own written
