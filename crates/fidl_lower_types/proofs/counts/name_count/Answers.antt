use Rattle.std.proofs.Common.{◌≡◌, Option, ℕ, refl, subst, arith}
use Rattle.std.specs.Prelude.{pos, IfSome, IsNone}
use Rattle.fidl_tree.specs.Views.{path_view}
use Rattle.fidl_consts.specs.declared.const_type.NumberKind.TheVariants.{Uint32}
use Rattle.fidl_consts.specs.declared.const_type.ConstType.TheVariants as ty
use Rattle.fidl_consts.specs.PlainValues.{a_number}
use Rattle.fidl_consts.specs.Values.{NameGives}
use Rattle.fidl_constraints.specs.Gives.{InFile}
use Rattle.fidl_lower_types.proofs.Counting.{name_counts, name_counted, one_named}
use Rattle.fidl_lower_types.proofs.counts.name_count.Goals as goal

pub returns-in_default-clause-none : goal.returns-in_default-clause-none
returns-in_default-clause-none c = λ _ n x.
    let fs = c.args.sources.now.named.now in
    let i = c.args.file_index in
    let p = c.args.path.now in
    let none = subst (λ (o : Option ℕ). IsNone o → (n : ℕ) → InFile fs i (λ f. NameGives fs f (path_view p) (ty.Number Uint32) (a_number (pos n))) → ⊥) c.in_default.is c.in_ok-count.ensures.none refl in
    none n (name_counted fs i p n x).0

pub returns-then-count-lt1-clause-none : goal.returns-then-count-lt1-clause-none
returns-then-count-lt1-clause-none c = λ _ n x.
    let fs = c.args.sources.now.named.now in
    let i = c.args.file_index in
    let p = c.args.path.now in
    let has = subst (λ (o : Option ℕ). IfSome o (λ n. InFile fs i (λ f. NameGives fs f (path_view p) (ty.Number Uint32) (a_number (pos n))))) c.in-Some.is c.in_ok-count.ensures.found in
    let counted = name_counted fs i p n x in
    let same : n ≡ c.in-Some.count = one_named fs i p n c.in-Some.count counted.0 has in
    let one = counted.1 in
    omega (arith, one, same, c.if-count-lt1.true)

pub returns-clause-found : goal.returns-clause-found
returns-clause-found c =
    let fs = c.args.sources.now.named.now in
    let i = c.args.file_index in
    let p = c.args.path.now in
    let has = subst (λ (o : Option ℕ). IfSome o (λ n. InFile fs i (λ f. NameGives fs f (path_view p) (ty.Number Uint32) (a_number (pos n))))) c.in-Some.is c.in_ok-count.ensures.found in
    name_counts fs i p c.in-Some.count has (omega (arith, c.if-count-lt1.false))
