use Rattle.std.proofs.Common.{◌≡◌, Option, Some, None, ap, sym, subst, ◌∙◌, true≢false, Bor}
use Rattle.std.specs.Option.{option_map}
use Rattle.fidl_tree.specs.declared.path.Path.{Path}
use Rattle.fidl_named.specs.declared.meaning.Wanted.TheVariants as wanted
use Rattle.fidl_named.specs.Meanings.{IsJust}
use Rattle.fidl_named.specs.Aliases.{WantsKind, by_itself, count, argument}
use Rattle.fidl_named.proofs.type_names.wanted_kind.Goals as goal

is_it : {X : Type 0} (P : X → Type 0) (o : Option X) (x : X) → IsJust P o → o ≡ Some x → P x
is_it P o x h is = (subst (IsJust P) is h).0

is_other : {X : Type 0} (P : X → Type 0) (o : Option X) (x : X) → IsJust P o → (o ≡ Some x → ⊥) → P x → ⊥
is_other P None x h other p = h x p
is_other P (Some y) x h other p = other (ap (λ z. Some z) (sym (h.1 x p)))

pub returns-then-is_array : goal.returns-then-is_array
returns-then-is_array c =
    let wants = count c.in-Some.head.now (is_it _ c.in_ok-meaning-in-Some.meaning _ c.in_ok-meaning-in-Some.ensures (c.is_array.ensures.0 c.if-is_array.true)) in
    subst (λ (o : Option (Bor Path)). WantsKind c.args.scope.now.names.set.now c.args.scope.now.file.now (option_map (λ p. p.now) o) wanted.Value) (sym c.in-Some.is) wants

pub returns-else-is_array : goal.returns-else-is_array
returns-else-is_array c =
    let wants = argument c.in-Some.head.now (is_other _ c.in_ok-meaning-in-Some.meaning _ c.in_ok-meaning-in-Some.ensures (λ is. true≢false (sym (c.is_array.ensures.1 is) ∙ c.if-is_array.false))) in
    subst (λ (o : Option (Bor Path)). WantsKind c.args.scope.now.names.set.now c.args.scope.now.file.now (option_map (λ p. p.now) o) wanted.«Type») (sym c.in-Some.is) wants

pub returns-in-None : goal.returns-in-None
returns-in-None c =
    subst (λ (o : Option (Bor Path)). WantsKind c.args.scope.now.names.set.now c.args.scope.now.file.now (option_map (λ p. p.now) o) wanted.«Type») (sym c.in-None.is) by_itself
