use Rattle.std.proofs.Common.{◌≡◌, ◌++◌, ◌∷◌, [], ◌+◌, ◌-◌, ℕ, List, Result, None, take, length, get_or, ap, sym, subst, ◌∙◌, arith, true≢false}
use Rattle.std.specs.Prelude.{flat_map, IfOk, IfErr}
use Rattle.fidl_span.specs.declared.words.Span.{Span}
use Rattle.fidl_tree.specs.Leaf.{text_at}
use Rattle.fidl_tree.specs.declared.path.PathPart.{PathPart}
use Rattle.fidl_named.specs.declared.place.Place.{Place}
use Rattle.fidl_named.specs.declared.fault.NameFault.{NameFault}
use Rattle.fidl_named.specs.declared.meaning.Meaning.{Meaning}
use Rattle.fidl_named.specs.declared.meaning.Wanted.TheVariants as wanted
use Rattle.fidl_named.specs.Names.{library_of, part_text}
use Rattle.fidl_named.specs.Imports.{visible}
use Rattle.fidl_named.specs.Meanings.{components, names_in, dotted, IsSimple, IsImported, IsMemberAfter, IsJust, Means, IsTrueOfName}
use Rattle.fidl_named.proofs.Components.{no_items, names_in-last, dotted-names_in, no_member_alone, no_value, just_value, read_ok, read_reported}
use Rattle.fidl_named.proofs.reading.read_name.Goals as goal

pub returns-then-count-eq0-clause-ok : goal.returns-then-count-eq0-clause-ok
returns-then-count-eq0-clause-ok c =
    let set = c.args.scope.now.names.set.now in
    let f = c.args.scope.now.file.now in
    let src = f.src.now in
    let p = c.args.path.now in
    let kind = c.args.wanted in
    let empty : p.rest.items ≡ [] = no_items p.rest.items (sym p.rest.ok.0 ∙ sym c.len-count.ensures ∙ c.if-count-eq0.true) in
    let n = text_at src p.first in
    let is : components src p ≡ n ∷ [] = ap (names_in f p.first) empty in
    let library : c.deref.result.now ≡ library_of f = c.deref.ensures.value ∙ c.in_ok-library.ensures in
    let a = subst (λ (t : List ℕ). IsJust (IsSimple set (library_of f) kind t) c.in_ok-reading.reading) c.text.ensures.bytes
    (subst (λ (l : List ℕ). IsJust (IsSimple set l kind c.text.result.now) c.in_ok-reading.reading) library c.in_ok-reading.ensures) in
    let b = no_member_alone set f kind n in
    subst (λ (r : Result Meaning NameFault). IfOk r (Means set f kind (components src p))) (sym c.one_of.ensures) (read_ok set f kind [] n (components src p) is c.in_ok-reading.reading None a b (record { file = c.args.scope.now.file_index; span = c.path_span-span.result }))

pub returns-then-count-eq0-clause-fault_is_true : goal.returns-then-count-eq0-clause-fault_is_true
returns-then-count-eq0-clause-fault_is_true c =
    let set = c.args.scope.now.names.set.now in
    let f = c.args.scope.now.file.now in
    let src = f.src.now in
    let p = c.args.path.now in
    let kind = c.args.wanted in
    let empty : p.rest.items ≡ [] = no_items p.rest.items (sym p.rest.ok.0 ∙ sym c.len-count.ensures ∙ c.if-count-eq0.true) in
    let n = text_at src p.first in
    let is : components src p ≡ n ∷ [] = ap (names_in f p.first) empty in
    let library : c.deref.result.now ≡ library_of f = c.deref.ensures.value ∙ c.in_ok-library.ensures in
    let a = subst (λ (t : List ℕ). IsJust (IsSimple set (library_of f) kind t) c.in_ok-reading.reading) c.text.ensures.bytes
    (subst (λ (l : List ℕ). IsJust (IsSimple set l kind c.text.result.now) c.in_ok-reading.reading) library c.in_ok-reading.ensures) in
    let b = no_member_alone set f kind n in
    subst (λ (r : Result Meaning NameFault). IfErr r (IsTrueOfName set f c.args.scope.now.file_index kind p)) (sym c.one_of.ensures) (read_reported set f kind [] n c.args.scope.now.file_index p is c.in_ok-reading.reading None a b (record { file = c.args.scope.now.file_index; span = c.path_span-span.result }) (ap (λ (s : Span). let q : Place = record { file = c.args.scope.now.file_index; span = s } in q) c.path_span-span.ensures))

pub returns-then-not-wants_value-clause-ok : goal.returns-then-not-wants_value-clause-ok
returns-then-not-wants_value-clause-ok c =
    let set = c.args.scope.now.names.set.now in
    let f = c.args.scope.now.file.now in
    let src = f.src.now in
    let p = c.args.path.now in
    let kind = c.args.wanted in
    let ps = p.rest.items in
    let i = c.len-count.result - 1 in
    let some = c.if-count-eq0.false in
    let count : c.len-count.result ≡ length ps = c.len-count.ensures ∙ p.rest.ok.0 in
    let long : c.len-count.result - 1 + 1 ≡ length ps = omega arith in
    let front = names_in f p.first (take i ps) in
    let n = c.text-last.result.now in
    let last : text_at src (get_or ps i c.index.result.now).name ≡ n = ap (λ (q : PathPart). text_at src q.name) (sym c.index.ensures) ∙ sym c.text-last.ensures.bytes in
    let is : components src p ≡ front ++ n ∷ [] = names_in-last f p.first ps i c.index.result.now long ∙ ap (λ (t : List ℕ). front ++ t ∷ []) last in
    let text : c.deref-3.result.now ≡ dotted front =
    c.deref-3.ensures.value ∙ c.in_ok-front.ensures ∙ ap (λ (qs : List PathPart). text_at src p.first ++ flat_map (part_text src) (take i qs)) c.deref-2.ensures.value ∙ dotted-names_in f p.first (take i ps) in
    let a = subst (λ (l : List ℕ). IsJust (IsImported set (visible f) kind l n) c.in_ok-declared.declared) text c.in_ok-declared.ensures in
    let b = no_value set f kind front n (λ h. absurd (true≢false (sym (c.wants_value.ensures.1 h) ∙ c.if-not-wants_value.true))) in
    subst (λ (r : Result Meaning NameFault). IfOk r (Means set f kind (components src p))) (sym c.one_of-then-not-wants_value.ensures) (read_ok set f kind front n (components src p) is c.in_ok-declared.declared None a b (record { file = c.args.scope.now.file_index; span = c.path_span-span.result }))

pub returns-then-not-wants_value-clause-fault_is_true : goal.returns-then-not-wants_value-clause-fault_is_true
returns-then-not-wants_value-clause-fault_is_true c =
    let set = c.args.scope.now.names.set.now in
    let f = c.args.scope.now.file.now in
    let src = f.src.now in
    let p = c.args.path.now in
    let kind = c.args.wanted in
    let ps = p.rest.items in
    let i = c.len-count.result - 1 in
    let some = c.if-count-eq0.false in
    let count : c.len-count.result ≡ length ps = c.len-count.ensures ∙ p.rest.ok.0 in
    let long : c.len-count.result - 1 + 1 ≡ length ps = omega arith in
    let front = names_in f p.first (take i ps) in
    let n = c.text-last.result.now in
    let last : text_at src (get_or ps i c.index.result.now).name ≡ n = ap (λ (q : PathPart). text_at src q.name) (sym c.index.ensures) ∙ sym c.text-last.ensures.bytes in
    let is : components src p ≡ front ++ n ∷ [] = names_in-last f p.first ps i c.index.result.now long ∙ ap (λ (t : List ℕ). front ++ t ∷ []) last in
    let text : c.deref-3.result.now ≡ dotted front =
    c.deref-3.ensures.value ∙ c.in_ok-front.ensures ∙ ap (λ (qs : List PathPart). text_at src p.first ++ flat_map (part_text src) (take i qs)) c.deref-2.ensures.value ∙ dotted-names_in f p.first (take i ps) in
    let a = subst (λ (l : List ℕ). IsJust (IsImported set (visible f) kind l n) c.in_ok-declared.declared) text c.in_ok-declared.ensures in
    let b = no_value set f kind front n (λ h. absurd (true≢false (sym (c.wants_value.ensures.1 h) ∙ c.if-not-wants_value.true))) in
    subst (λ (r : Result Meaning NameFault). IfErr r (IsTrueOfName set f c.args.scope.now.file_index kind p)) (sym c.one_of-then-not-wants_value.ensures) (read_reported set f kind front n c.args.scope.now.file_index p is c.in_ok-declared.declared None a b (record { file = c.args.scope.now.file_index; span = c.path_span-span.result }) (ap (λ (s : Span). let q : Place = record { file = c.args.scope.now.file_index; span = s } in q) c.path_span-span.ensures))

pub returns-clause-ok : goal.returns-clause-ok
returns-clause-ok c =
    let set = c.args.scope.now.names.set.now in
    let f = c.args.scope.now.file.now in
    let src = f.src.now in
    let p = c.args.path.now in
    let kind = c.args.wanted in
    let ps = p.rest.items in
    let i = c.len-count.result - 1 in
    let some = c.if-count-eq0.false in
    let count : c.len-count.result ≡ length ps = c.len-count.ensures ∙ p.rest.ok.0 in
    let long : c.len-count.result - 1 + 1 ≡ length ps = omega arith in
    let front = names_in f p.first (take i ps) in
    let n = c.text-last.result.now in
    let last : text_at src (get_or ps i c.index.result.now).name ≡ n = ap (λ (q : PathPart). text_at src q.name) (sym c.index.ensures) ∙ sym c.text-last.ensures.bytes in
    let is : components src p ≡ front ++ n ∷ [] = names_in-last f p.first ps i c.index.result.now long ∙ ap (λ (t : List ℕ). front ++ t ∷ []) last in
    let text : c.deref-3.result.now ≡ dotted front =
    c.deref-3.ensures.value ∙ c.in_ok-front.ensures ∙ ap (λ (qs : List PathPart). text_at src p.first ++ flat_map (part_text src) (take i qs)) c.deref-2.ensures.value ∙ dotted-names_in f p.first (take i ps) in
    let a = subst (λ (l : List ℕ). IsJust (IsImported set (visible f) kind l n) c.in_ok-declared.declared) text c.in_ok-declared.ensures in
    let value : kind ≡ wanted.Value = c.wants_value.ensures.0 c.if-not-wants_value.false in
    let resolved = subst (λ (qs : List PathPart). IsJust (IsMemberAfter set f (names_in f p.first (take i qs)) n) c.in_ok-member.member) c.deref-2.ensures.value c.in_ok-member.ensures in
    let b = just_value set f kind front n value c.in_ok-member.member resolved in
    subst (λ (r : Result Meaning NameFault). IfOk r (Means set f kind (components src p))) (sym c.one_of-2.ensures) (read_ok set f kind front n (components src p) is c.in_ok-declared.declared c.in_ok-member.member a b (record { file = c.args.scope.now.file_index; span = c.path_span-span.result }))

pub returns-clause-fault_is_true : goal.returns-clause-fault_is_true
returns-clause-fault_is_true c =
    let set = c.args.scope.now.names.set.now in
    let f = c.args.scope.now.file.now in
    let src = f.src.now in
    let p = c.args.path.now in
    let kind = c.args.wanted in
    let ps = p.rest.items in
    let i = c.len-count.result - 1 in
    let some = c.if-count-eq0.false in
    let count : c.len-count.result ≡ length ps = c.len-count.ensures ∙ p.rest.ok.0 in
    let long : c.len-count.result - 1 + 1 ≡ length ps = omega arith in
    let front = names_in f p.first (take i ps) in
    let n = c.text-last.result.now in
    let last : text_at src (get_or ps i c.index.result.now).name ≡ n = ap (λ (q : PathPart). text_at src q.name) (sym c.index.ensures) ∙ sym c.text-last.ensures.bytes in
    let is : components src p ≡ front ++ n ∷ [] = names_in-last f p.first ps i c.index.result.now long ∙ ap (λ (t : List ℕ). front ++ t ∷ []) last in
    let text : c.deref-3.result.now ≡ dotted front =
    c.deref-3.ensures.value ∙ c.in_ok-front.ensures ∙ ap (λ (qs : List PathPart). text_at src p.first ++ flat_map (part_text src) (take i qs)) c.deref-2.ensures.value ∙ dotted-names_in f p.first (take i ps) in
    let a = subst (λ (l : List ℕ). IsJust (IsImported set (visible f) kind l n) c.in_ok-declared.declared) text c.in_ok-declared.ensures in
    let value : kind ≡ wanted.Value = c.wants_value.ensures.0 c.if-not-wants_value.false in
    let resolved = subst (λ (qs : List PathPart). IsJust (IsMemberAfter set f (names_in f p.first (take i qs)) n) c.in_ok-member.member) c.deref-2.ensures.value c.in_ok-member.ensures in
    let b = just_value set f kind front n value c.in_ok-member.member resolved in
    subst (λ (r : Result Meaning NameFault). IfErr r (IsTrueOfName set f c.args.scope.now.file_index kind p)) (sym c.one_of-2.ensures) (read_reported set f kind front n c.args.scope.now.file_index p is c.in_ok-declared.declared c.in_ok-member.member a b (record { file = c.args.scope.now.file_index; span = c.path_span-span.result }) (ap (λ (s : Span). let q : Place = record { file = c.args.scope.now.file_index; span = s } in q) c.path_span-span.ensures))
