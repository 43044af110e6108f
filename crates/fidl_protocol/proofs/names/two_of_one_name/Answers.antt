use Rattle.std.proofs.Common.{◌≡◌, ◌∙◌, ℕ, List, Some, get_or, sym, subst}
use Rattle.std.specs.Global.{Vec}
use Rattle.std.specs.Prelude.{slice_get}
use Rattle.std.proofs.lemmas.List.{get_or_default}
use Rattle.std.proofs.lemmas.List.Elements.{Contains-get_or}
use Rattle.fidl_protocol.proofs.Naming.{no_method, place_within, old_pair, old_name, kept_keys, names_more, differ_more}
use Rattle.fidl_protocol.proofs.names.two_of_one_name.Goals as goal

pub name_of-requires : goal.name_of-requires
name_of-requires c =
    let m = get_or c.args.methods.now c.loop-method.method-index no_method in
    (c.requires.1.sound m (Contains-get_or c.args.methods.now c.loop-method.method-index no_method c.loop-method-test.true)).declared

pub loop-method-preserved : goal.loop-method-preserved
loop-method-preserved c =
    let files = c.args.named.now in
    let ms = c.args.methods.now in
    let i = c.loop-method.method-index in
    let lt = c.loop-method-test.true in
    let m = get_or ms i no_method in
    let is = get_or_default ms i no_method m lt in
    let keys = c.loop-method.names.keys in
    let name = c.in_ok-name_of.field-0 in
    let fresh = sym c.if-not-is_new.false ∙ c.in_ok-place.ensures.added in
    record {
      names = names_more files ms i m lt is keys c.loop-method.invariant.names name c.in_ok-name_of.ensures c.insert_full.new.self.keys c.in_ok-place.ensures.keys fresh;
      differ = differ_more files ms i m lt is keys c.loop-method.invariant.names name c.in_ok-name_of.ensures c.insert_full.new.self.keys c.in_ok-place.ensures.keys fresh c.loop-method.invariant.differ;
    }

pub returns-then-not-is_new-clause-pair : goal.returns-then-not-is_new-clause-pair
returns-then-not-is_new-clause-pair c = λ p g.
    let files = c.args.named.now in
    let ms = c.args.methods.now in
    let i = c.loop-method.method-index in
    let lt = c.loop-method-test.true in
    let m = get_or ms i no_method in
    let is = get_or_default ms i no_method m lt in
    let keys = c.loop-method.names.keys in
    let same = c.loop-method.invariant.names in
    let name = c.in_ok-name_of.field-0 in
    let place = c.in_ok-place.place in
    let stored = c.in_ok-place.ensures.stored in
    let kept = kept_keys keys c.insert_full.new.self.keys name c.in_ok-place.ensures.keys (sym c.if-not-is_new.true ∙ c.in_ok-place.ensures.added) in
    let at = subst (λ (l : List (Vec ℕ)). slice_get l place ≡ Some stored.0) kept stored.1 in
    let within = place_within files ms i m lt is keys same name c.in_ok-name_of.ensures place stored.0 at stored.2 in
    old_pair files ms i m lt is keys same name c.in_ok-name_of.ensures place stored.0 at stored.2 (get_or ms place no_method) (get_or_default ms place no_method m within) p g

pub returns-then-not-is_new-clause-name : goal.returns-then-not-is_new-clause-name
returns-then-not-is_new-clause-name c =
    let files = c.args.named.now in
    let ms = c.args.methods.now in
    let i = c.loop-method.method-index in
    let lt = c.loop-method-test.true in
    let m = get_or ms i no_method in
    let is = get_or_default ms i no_method m lt in
    let keys = c.loop-method.names.keys in
    let same = c.loop-method.invariant.names in
    let name = c.in_ok-name_of.field-0 in
    let place = c.in_ok-place.place in
    let stored = c.in_ok-place.ensures.stored in
    let kept = kept_keys keys c.insert_full.new.self.keys name c.in_ok-place.ensures.keys (sym c.if-not-is_new.true ∙ c.in_ok-place.ensures.added) in
    let at = subst (λ (l : List (Vec ℕ)). slice_get l place ≡ Some stored.0) kept stored.1 in
    let within = place_within files ms i m lt is keys same name c.in_ok-name_of.ensures place stored.0 at stored.2 in
    old_name files ms i m lt is keys same name c.in_ok-name_of.ensures place stored.0 at stored.2 (get_or ms place no_method) (get_or_default ms place no_method m within) c.requires.0 c.requires.1
