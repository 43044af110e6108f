use Rattle.std.proofs.Common.{◌∙◌, Option, refl, sym, subst, true≢false}
use Rattle.std.specs.Prelude.{IfSome, IsNone}
use Rattle.fidl_tree.specs.Views.{path_view}
use Rattle.fidl_named.specs.declared.meaning.Wanted.TheVariants as wanted
use Rattle.fidl_named.specs.declared.meaning.Meaning.{Meaning}
use Rattle.fidl_named.specs.Meanings.{Means, IsJust}
use Rattle.fidl_named.specs.Paths.{texts}
use Rattle.fidl_named.specs.Scopes.{OfFile}
use Rattle.fidl_consts.specs.declared.consts.Entry.{Entry}
use Rattle.fidl_consts.specs.declared.const_type.NumberKind.TheVariants.{Uint32}
use Rattle.fidl_consts.specs.declared.const_type.ConstType.TheVariants as ty
use Rattle.fidl_consts.specs.PlainValues.{Suits}
use Rattle.fidl_consts.specs.Values.{HasValue}
use Rattle.fidl_consts.specs.Tables.{HasEntry}
use Rattle.fidl_lower_types.proofs.Counting.{value_meant, name_unmeant, name_valueless, name_unsuited, name_found, name_none}
use Rattle.fidl_lower_types.proofs.counts.name_amount.Goals as goal

pub returns-in_default-clause-none : goal.returns-in_default-clause-none
returns-in_default-clause-none c = λ _.
    let fs = c.args.sources.now.named.now in
    let i = c.args.file_index in
    let p = c.args.path.now in
    let just = value_meant fs i p c.in_ok-meaning.field-0 c.in_ok-meaning.ensures in
    name_unmeant fs i p (subst (λ (o : Option Meaning). OfFile fs i (λ f. IsJust (Means fs f wanted.Value (texts f.src.now (path_view p))) o)) c.in_default.is just)

pub returns-in_default-2-clause-none : goal.returns-in_default-2-clause-none
returns-in_default-2-clause-none c = λ _.
    let fs = c.args.sources.now.named.now in
    let i = c.args.file_index in
    let p = c.args.path.now in
    let m = c.in-Some.meaning in
    let just = subst (λ (o : Option Meaning). OfFile fs i (λ f. IsJust (Means fs f wanted.Value (texts f.src.now (path_view p))) o)) c.in-Some.is (value_meant fs i p c.in_ok-meaning.field-0 c.in_ok-meaning.ensures) in
    name_valueless fs i p m just (subst (λ (o : Option Entry). IsNone o → HasValue fs m → ⊥) c.in_default-2.is c.in_ok-entry.ensures.none refl)

pub returns-then-not-suits-clause-none : goal.returns-then-not-suits-clause-none
returns-then-not-suits-clause-none c = λ _.
    let fs = c.args.sources.now.named.now in
    let i = c.args.file_index in
    let p = c.args.path.now in
    let m = c.in-Some.meaning in
    let just = subst (λ (o : Option Meaning). OfFile fs i (λ f. IsJust (Means fs f wanted.Value (texts f.src.now (path_view p))) o)) c.in-Some.is (value_meant fs i p c.in_ok-meaning.field-0 c.in_ok-meaning.ensures) in
    let has = subst (λ (o : Option Entry). IfSome o (HasEntry fs m)) c.in-Some-2.is c.in_ok-entry.ensures.found in
    name_unsuited fs i p m just c.in-Some-2.entry has
    (λ h. true≢false (sym (c.suits.ensures.1 (subst (λ b. Suits b c.in-Some-2.entry.own (ty.Number Uint32)) (sym c.is_member.ensures) h)) ∙ c.if-not-suits.true))

pub returns-clause-found : goal.returns-clause-found
returns-clause-found c =
    let fs = c.args.sources.now.named.now in
    let i = c.args.file_index in
    let p = c.args.path.now in
    let m = c.in-Some.meaning in
    let just = subst (λ (o : Option Meaning). OfFile fs i (λ f. IsJust (Means fs f wanted.Value (texts f.src.now (path_view p))) o)) c.in-Some.is (value_meant fs i p c.in_ok-meaning.field-0 c.in_ok-meaning.ensures) in
    let has = subst (λ (o : Option Entry). IfSome o (HasEntry fs m)) c.in-Some-2.is c.in_ok-entry.ensures.found in
    let suits = subst (λ b. Suits b c.in-Some-2.entry.own (ty.Number Uint32)) c.is_member.ensures (c.suits.ensures.0 c.if-not-suits.false) in
    name_found fs i p m just c.in-Some-2.entry has c.requires.within suits c.amount_of.result c.amount_of.ensures.found

pub returns-clause-none : goal.returns-clause-none
returns-clause-none c =
    let fs = c.args.sources.now.named.now in
    let i = c.args.file_index in
    let p = c.args.path.now in
    let m = c.in-Some.meaning in
    let just = subst (λ (o : Option Meaning). OfFile fs i (λ f. IsJust (Means fs f wanted.Value (texts f.src.now (path_view p))) o)) c.in-Some.is (value_meant fs i p c.in_ok-meaning.field-0 c.in_ok-meaning.ensures) in
    let has = subst (λ (o : Option Entry). IfSome o (HasEntry fs m)) c.in-Some-2.is c.in_ok-entry.ensures.found in
    name_none fs i p m just c.in-Some-2.entry has c.amount_of.result c.amount_of.ensures.none
