use Rattle.std.proofs.Common.{◌∙◌, ◌⊎◌, List, Option, ap, refl, sym, subst}
use Rattle.std.specs.Prelude.{is_some, IfSome}
use Rattle.std.specs.List.{AllPairs}
use Rattle.fidl_tree.specs.declared.file.File.{File}
use Rattle.fidl_named.specs.declared.place.DeclarationId.{DeclarationId}
use Rattle.fidl_protocol.specs.declared.alike.Pair.{Pair}
use Rattle.fidl_protocol.specs.declared.method.Method.{Method}
use Rattle.fidl_protocol.specs.Methods.{HaveOneName}
use Rattle.fidl_protocol.specs.Faults.{IsReported, HaveOneOrdinal}
use Rattle.fidl_protocol.specs.Gathered.{AreGathered, ArePair, NamesDiffer}
use Rattle.fidl_protocol.proofs.Ordering.{IsBelow, in_order_are, methods_differ}
use Rattle.fidl_protocol.proofs.Reporting.{two_alike, names_turned, ordinals_turned}
use Rattle.fidl_protocol.proofs.protocol_list.protocol.Goals as goal

pub place_of_two-requires-clause-pair : goal.place_of_two-requires-clause-pair
place_of_two-requires-clause-pair c =
    let id = c.args.id in
    let fs = c.named.result.now in
    let ms = c.deref.result.now in
    let found = subst (λ (o : Option Pair). IfSome o (λ (pair : Pair). (p : DeclarationId) → AreGathered fs p ms → ArePair fs p pair)) c.in-Some.is c.in_ok-pair.ensures.pair in
    let gathered = subst (λ (l : List Method). AreGathered fs id l) (sym c.deref.ensures.value) (subst (λ (f : List File). AreGathered f id c.args.methods.items) (sym c.named.ensures) c.requires.gathered) in
    subst (λ (f : List File). ArePair f id c.in-Some.pair) (c.named.ensures ∙ sym c.named-in-Some.ensures) (found id gathered)

pub returns-in-Some-clause-fault_is_true : goal.returns-in-Some-clause-fault_is_true
returns-in-Some-clause-fault_is_true c =
    let files = c.args.types.now in
    let id = c.args.id in
    let fs = c.named.result.now in
    let ms = c.deref.result.now in
    let pair = c.in-Some.pair in
    let place = c.in_ok-place.place in
    let found = subst (λ (o : Option Pair). IfSome o (λ (x : Pair). (p : DeclarationId) → AreGathered fs p ms → ArePair fs p x)) c.in-Some.is c.in_ok-pair.ensures.pair in
    let gathered = subst (λ (l : List Method). AreGathered fs id l) (sym c.deref.ensures.value) (subst (λ (f : List File). AreGathered f id c.args.methods.items) (sym c.named.ensures) c.requires.gathered) in
    let h = subst (λ (f : List File). ArePair f id pair) c.named.ensures (found id gathered) in
    let alike = subst (λ (f : List File). HaveOneName f pair.one pair.other) c.named.ensures (subst (λ (o : Option Pair). IfSome o (λ (x : Pair). HaveOneName fs x.one x.other)) c.in-Some.is c.in_ok-pair.ensures.name) in
    two_alike files id pair h (HaveOneName files) (names_turned files) alike place (subst (λ (f : List File). IsReported f id pair.other pair.one place ⊎ IsReported f id pair.one pair.other place) c.named-in-Some.ensures c.in_ok-place.ensures)

pub place_of_two-requires-in-Some-two_of_one_ordinal-clause-pair :
    goal.place_of_two-requires-in-Some-two_of_one_ordinal-clause-pair
place_of_two-requires-in-Some-two_of_one_ordinal-clause-pair c =
    let files = c.args.types.now in
    let id = c.args.id in
    let gathered = subst (λ (l : List Method). AreGathered files id l) (sym c.deref-2.ensures.value) (c.in_ok-methods.ensures.gathered files id c.requires.gathered) in
    subst (λ (f : List File). ArePair f id c.in-Some-two_of_one_ordinal.pair) (sym c.named-in-Some-two_of_one_ordinal.ensures) (c.in-Some-two_of_one_ordinal.ensures.pair files id gathered)

pub returns-in-Some-two_of_one_ordinal-clause-fault_is_true :
    goal.returns-in-Some-two_of_one_ordinal-clause-fault_is_true
returns-in-Some-two_of_one_ordinal-clause-fault_is_true c =
    let files = c.args.types.now in
    let id = c.args.id in
    let pair = c.in-Some-two_of_one_ordinal.pair in
    let place = c.in_ok-place-2.place in
    let gathered = subst (λ (l : List Method). AreGathered files id l) (sym c.deref-2.ensures.value) (c.in_ok-methods.ensures.gathered files id c.requires.gathered) in
    let h = c.in-Some-two_of_one_ordinal.ensures.pair files id gathered in
    two_alike files id pair h HaveOneOrdinal ordinals_turned c.in-Some-two_of_one_ordinal.ensures.ordinal place (subst (λ (f : List File). IsReported f id pair.other pair.one place ⊎ IsReported f id pair.one pair.other place) c.named-in-Some-two_of_one_ordinal.ensures c.in_ok-place-2.ensures)

pub returns-clause-methods : goal.returns-clause-methods
returns-clause-methods c =
    let files = c.args.types.now in
    let id = c.args.id in
    let ms = c.in_ok-methods.methods.items in
    in_order_are files id ms (c.in_ok-methods.ensures.gathered files id c.requires.gathered) (subst (AllPairs IsBelow) c.deref-2.ensures.value (c.in_default-two_of_one_ordinal.ensures.none refl))

pub returns-clause-differ : goal.returns-clause-differ
returns-clause-differ c =
    let files = c.args.types.now in
    let id = c.args.id in
    let ms = c.in_ok-methods.methods.items in
    let are = in_order_are files id ms (c.in_ok-methods.ensures.gathered files id c.requires.gathered) (subst (AllPairs IsBelow) c.deref-2.ensures.value (c.in_default-two_of_one_ordinal.ensures.none refl)) in
    let names = subst (λ (f : List File). NamesDiffer f c.args.methods.items) c.named.ensures (subst (λ (l : List Method). NamesDiffer c.named.result.now l) c.deref.ensures.value (c.in_ok-pair.ensures.none (ap is_some c.in_default.is))) in
    methods_differ files id c.args.methods.items ms c.requires.gathered names are
