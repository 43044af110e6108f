-- The methods that a protocol declares.
use Rattle.std.proofs.Common.{◌≡◌, ◌<◌, ◌+◌, ℕ, List, Some, map, take, length, get_or, refl, ap, sym, subst, ◌∙◌, inl, inr, arith}
use Rattle.std.specs.Prelude.{slice_get}
use Rattle.std.specs.List.{Contains, AllByRecursion, AllPairs, AllZip}
use Rattle.std.proofs.lemmas.List.Elements.{recursion_from_All, Contains-push_cases}
use Rattle.std.specs.Option.{option_map}
use Rattle.std.proofs.lemmas.List.{length-map}
use Rattle.std.proofs.lemmas.Option.{same_Some, slice_get-get_or, slice_get-map, slice_get_read, slice_get_within}
use Rattle.fidl_tree.specs.Syntax.{ProtocolMember, compose_member, method_member, event_member}
use Rattle.fidl_tree.specs.Views.{file_view, openness_view, protocol_member_view}
use Rattle.fidl_tree.specs.declared.file.File.{File}
use Rattle.fidl_tree.specs.declared.protocol.ProtocolMember.{ProtocolMember as CodeMember}
use Rattle.fidl_named.specs.declared.place.DeclarationId.{DeclarationId}
use Rattle.fidl_cycles.proofs.Lists.{take_item}
use Rattle.fidl_composition.specs.Protocols.{IsProtocolAt}
use Rattle.fidl_composition.proofs.Lists.{map_back}
use Rattle.fidl_method_rules.specs.Methods as plain
use Rattle.fidl_method_rules.specs.Methods.{method_of}
use Rattle.fidl_method_rules.specs.Rules.{ProtocolHolds}
use Rattle.fidl_method_rules.specs.MethodViews.{IsEntryOf, IsEntry, AreMethods}
use Rattle.fidl_method_rules.specs.declared.methods.OwnMethod.{OwnMethod}
use Rattle.fidl_payloads.specs.declared.payload.Payloads.{Payloads}
use Rattle.fidl_payloads.specs.Payloads.{RequestIs, ResponseIs}
use Rattle.fidl_payloads.specs.Members.{MemberHolds}
use Rattle.fidl_protocol.specs.declared.declaring.Found.{Found}
use Rattle.fidl_protocol.specs.declared.method.Method.{Method}
use Rattle.fidl_protocol.specs.Methods.{IsDeclared}
use Rattle.fidl_protocol.specs.Checked.{MembersHold}
use Rattle.fidl_protocol.specs.Gathered.{IsFound, IsMade, AreDeclaredBy}
use Rattle.fidl_protocol.proofs.Lists.{zip_left, zip_right, zip_map, pairs_by_map, pairs_weaker}
use Rattle.fidl_composition.proofs.Nodes.{one_members}
use Rattle.fidl_protocol.proofs.Nodes.{carried, one_method}

-- the member of an entry's number, as the code reads it
pub seen_member : (items : List CodeMember) (k : ℕ) (m : CodeMember) (seen : ProtocolMember) → slice_get (map protocol_member_view items) k ≡ Some seen → m ≡ get_or items k m → slice_get (map protocol_member_view items) k ≡ Some (protocol_member_view m)
seen_member items k m seen at is =
    let within = slice_get_within (map protocol_member_view items) k seen at in
    let long = length-map items protocol_member_view in
    slice_get-map protocol_member_view items k ∙ ap (option_map protocol_member_view) (slice_get_read items (length items) k m refl (omega (arith, within, long)) is)

-- the method of an entry
pub made : (files : List File) (x : Found) (found : IsFound files x) (own : OwnMethod) (entry : IsEntry (file_view x.file.now) x.protocol.now.name (map protocol_member_view x.protocol.now.members.items) own) (m : ProtocolMember)
    → slice_get (map protocol_member_view x.protocol.now.members.items) own.member ≡ Some m
    → (payloads : Payloads) → RequestIs files x.id.file m payloads.request → ResponseIs files x.id.file x.protocol.now.name m payloads.response → MemberHolds files x.id.file m
    → IsMade files x own (record { protocol = x.id; own = own; payloads = payloads })
made files x found own entry m at payloads request response holds = record {
  protocol_is = refl;
  own_is = refl;
  declared = record {
    file = x.file.now;
    openness = openness_view x.protocol.now.openness;
    protocol = x.protocol.now.name;
    members = map protocol_member_view x.protocol.now.members.items;
    member = m;
    at = found;
    stands = at;
    own = subst (λ (y : ProtocolMember). IsEntryOf (file_view x.file.now) x.protocol.now.name y own) (same_Some entry.member m (sym entry.stands ∙ at)) entry.entry;
    request = request;
    response = response;
  };
  holds = λ y there. subst (MemberHolds files x.id.file) (same_Some m y (sym at ∙ there)) holds;
}

module _ (files : List File) (x : Found) (found : IsFound files x) (owns : List OwnMethod) (ms : List Method)
    (methods : AreMethods (file_view x.file.now) x.protocol.now.name (map protocol_member_view x.protocol.now.members.items) owns) (made : AllZip (IsMade files x) owns ms) where
  abbrev members : List ProtocolMember
  members = map protocol_member_view x.protocol.now.members.items

  -- the entry of a member that is a method, and the method that was made of it
  record Entry (k : ℕ) : Type 0 where
    own : OwnMethod
    number : own.member ≡ k
    method : Method
    among : Contains ms method
    is : IsMade files x own method

  entry_of : (k : ℕ) (m : ProtocolMember) (t : plain.Method) → slice_get members k ≡ Some m → method_of m ≡ Some t → Entry k
  entry_of k m t at is =
      let own = map_back (λ (o : OwnMethod). o.member) owns k (methods.all k m t at is) in
      let pair = zip_left (IsMade files x) owns ms own.0 made own.1 in
      record { own = own.0; number = own.2; method = pair.0; among = pair.1; is = pair.2 }

  complete : (m : Method) → IsDeclared files m → m.protocol ≡ x.id → Contains ms m
  complete m h is =
      let there : IsProtocolAt files x.id h.file h.openness h.protocol h.members = subst (λ (p : DeclarationId). IsProtocolAt files p h.file h.openness h.protocol h.members) is h.at in
      let same : h.members ≡ members = one_members files x.id h.file x.file.now h.openness (openness_view x.protocol.now.openness) h.protocol x.protocol.now.name h.members members there found in
      let e = entry_of m.own.member h.member h.own.method (subst (λ (l : List ProtocolMember). slice_get l m.own.member ≡ Some h.member) same h.stands) h.own.is in
      subst (Contains ms) (one_method files e.method m e.is.declared h (e.is.protocol_is ∙ sym is) (ap (λ (o : OwnMethod). o.member) e.is.own_is ∙ e.number)) e.among

  rising : AllPairs (λ (one other : Method). one.own.member < other.own.member) ms
  rising =
      let same = zip_map (IsMade files x) (λ (o : OwnMethod). o.member) (λ (m : Method). m.own.member) (λ o m h. ap (λ (y : OwnMethod). y.member) (sym h.own_is)) owns ms made in
      pairs_by_map (λ (m : Method). m.own.member) (λ a b. a < b) ms (subst (AllPairs (λ a b. a < b)) same methods.rising)

  pub declared_by : AreDeclaredBy files x.id ms
  declared_by = record {
    sound = λ m c. (zip_right (IsMade files x) owns ms m made c).2.declared;
    own = λ m c. (zip_right (IsMade files x) owns ms m made c).2.protocol_is;
    complete = complete;
    once = pairs_weaker (λ (one other : Method). one.own.member < other.own.member) (λ (one other : Method). one ≡ other → ⊥) (λ one other lt e. let f = ap (λ (m : Method). m.own.member) e in omega (arith, lt, f)) ms rising;
  }

  by_method : (k : ℕ) (m : ProtocolMember) (t : plain.Method) → slice_get members k ≡ Some m → method_of m ≡ Some t → MemberHolds files x.id.file m
  by_method k m t at is = let e = entry_of k m t at is in e.is.holds m (ap (slice_get members) e.number ∙ at)

  hold_at : (k : ℕ) (m : ProtocolMember) → slice_get members k ≡ Some m → MemberHolds files x.id.file m
  hold_at k (compose_member attributes path) at = tt
  hold_at k (method_member attributes strict name request response) at = by_method k (method_member attributes strict name request response) _ at refl
  hold_at k (event_member attributes strict name written) at = by_method k (event_member attributes strict name written) _ at refl

  payloads_hold : AllByRecursion (MemberHolds files x.id.file) members
  payloads_hold = recursion_from_All (MemberHolds files x.id.file) members (λ k d lt. hold_at k (get_or members k d) (slice_get-get_or members k d lt))

  module _ (holds : ProtocolHolds (file_view x.file.now) (openness_view x.protocol.now.openness) x.protocol.now.name members) where
    pub members_hold : MembersHold files x.id
    members_hold = record {
      methods = λ f o n ns at. carried files x.id x.file.now f (openness_view x.protocol.now.openness) o x.protocol.now.name n members ns found at (λ g q s l. ProtocolHolds (file_view g) q s l) holds;
      payloads = λ f o n ns at. carried files x.id x.file.now f (openness_view x.protocol.now.openness) o x.protocol.now.name n members ns found at (λ g q s l. AllByRecursion (MemberHolds files x.id.file) l) payloads_hold;
    }

-- What holds of all elements of a list so far, and of one more.
module _ {X : Type 0} (P : X → Type 0) (xs : List X) (i : ℕ) (x : X) (lt : i < length xs) (is : x ≡ get_or xs i x) where
  pub each_more : ((y : X) → Contains (take i xs) y → P y) → P x → (y : X) → Contains (take (i + 1) xs) y → P y
  each_more all here y c = elim (Contains-push_cases (take i xs) x y (subst (λ l. Contains l y) (take_item xs i x lt is) c)) [
    | inl old ↦ all y old
    | inr e ↦ subst P e here
  ]
