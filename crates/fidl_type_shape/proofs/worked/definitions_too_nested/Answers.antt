use Rattle.std.proofs.Common.{rules, [], ◌∷◌, refl, sym, subst, arith}
use Rattle.std.proofs.lemmas.Option.{same_Some}
use Rattle.std.specs.List.{Contains}
use Rattle.fidl_wire.specs.Term.{Term}
use Rattle.fidl_type_shape.specs.Limits.{parts}
use Rattle.fidl_type_shape.proofs.Holders.{Holder, little}
use Rattle.fidl_wire.specs.Term as ty
use Rattle.fidl_wire.specs.Figure.{figure}
use Rattle.fidl_type_shape.specs.declared.fault.FigureFault.TheVariants.{TooNested}
use Rattle.fidl_type_shape.specs.Samples.{holding, struct_in}
use Rattle.fidl_type_shape.proofs.Nests.{itself}
use Rattle.fidl_type_shape.proofs.Chains.{in_itself, nested_in}
use Rattle.fidl_type_shape.proofs.Excluded.{excluded_terms, one_no_name, as_nested}
use Rattle.fidl_type_shape.proofs.worked.definitions_too_nested.Goals as goal

pub returns-clause-refused : goal.returns-clause-refused
returns-clause-refused c = record {
  definition = struct_in 32;
  part = struct_in 32;
  stands = refl;
  among = itself (struct_in 32);
  own = tt;
  nested = nested_in (struct_in 32 ∷ []) 32;
}

pub returns-clause-in_itself : goal.returns-clause-in_itself
returns-clause-in_itself c = record {
  definition = holding (ty.named 0);
  part = holding (ty.named 0);
  stands = refl;
  among = itself (holding (ty.named 0));
  own = tt;
  nested = in_itself 33;
}

pub returns-clause-last : goal.returns-clause-last
returns-clause-last c h = excluded_terms (struct_in 31 ∷ []) (one_no_name (struct_in 31) tt) (figure 1 1 32 ∷ []) (TooNested 0) (λ e. cc e) h refl (search rules)

pub returns-clause-in_a_box : goal.returns-clause-in_a_box
returns-clause-in_a_box c h = excluded_terms (holding (ty.box (ty.named 0)) ∷ []) (one_no_name (holding (ty.box (ty.named 0))) tt) (figure 8 8 1 ∷ []) (TooNested 0) (λ e. cc e) h refl (search rules)

pub returns-clause-holder : goal.returns-clause-holder
returns-clause-holder c h =
    let terms = Holder ∷ struct_in 32 ∷ [] in
    let figures = figure 16 8 1 ∷ figure 1 1 33 ∷ [] in
    let among = subst (λ (t : Term). Contains (parts t) h.part) (sym (same_Some Holder h.definition h.stands)) h.among in
    let shallow = (little figures h.part among h.own).shallow in
    let deep = as_nested terms figures refl 33 h.part h.nested in
    omega (arith, shallow, deep)

pub returns-clause-held : goal.returns-clause-held
returns-clause-held c = record {
  definition = struct_in 32;
  part = struct_in 32;
  stands = refl;
  among = itself (struct_in 32);
  own = tt;
  nested = nested_in (Holder ∷ struct_in 32 ∷ []) 32;
}
