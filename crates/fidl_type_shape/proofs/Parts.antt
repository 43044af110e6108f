-- What stands in a type that stands in another, and what is past a limit there.
use Rattle.std.proofs.Common.{◌≡◌, ℕ, zero, suc, ◌*◌, List, [], ◌∷◌, get_or, Result, Ok, Err, IfErr, subst, arith}
use Rattle.fidl_wire.specs.Term.{Term}
use Rattle.fidl_wire.specs.Term as ty
use Rattle.fidl_wire.specs.Figure.{figure, figure_of}
use Rattle.fidl_wire.specs.Figure as wire
use Rattle.fidl_type_shape.specs.declared.figure.Figure.{Figure}
use Rattle.fidl_type_shape.specs.declared.fault.Refusal.{Refusal}
use Rattle.fidl_type_shape.specs.Limits.{IsWithin, parts}
use Rattle.fidl_type_shape.specs.Views.{figure_view, figures_view}
use Rattle.fidl_type_shape.specs.Excesses.{IsPast, HoldsPast, HoldsPastInline}
use Rattle.fidl_type_shape.proofs.Lists.{among_first, among_more}

-- the element of an array stands inline in it
pub past_in_array : (figures : List wire.Figure) (t : Term) (n : ℕ) (refusal : Refusal) → HoldsPastInline figures t refusal → HoldsPastInline figures (ty.array t n) refusal
past_in_array figures t n refusal h = record {
  part = h.part;
  among = among_more (ty.array t n) h.part (parts t) h.among;
  own = h.own;
  past = h.past;
  inline = h.inline;
}

-- an array that is past a limit itself
pub past_array : (figures : List wire.Figure) (t : Term) (n : ℕ) (refusal : Refusal) → IsPast refusal (figure_of figures (ty.array t n)) → HoldsPastInline figures (ty.array t n) refusal
past_array figures t n refusal h = record {
  part = ty.array t n;
  among = among_first (ty.array t n) (parts t);
  own = tt;
  past = h;
  inline = λ chosen settled. settled;
}

-- the same of what a call answered, by the figure of the element
pub past_array_of : (figures : List wire.Figure) (t : Term) (n : ℕ) (f : Figure) (r : Result Figure Refusal) → figure_view f ≡ figure_of figures t → IfErr r (λ refusal. IsPast refusal (figure (f.size * n) f.align (suc f.nest))) → IfErr r (HoldsPastInline figures (ty.array t n))
past_array_of figures t n f (Ok g) e h = tt
past_array_of figures t n f (Err refusal) e h = past_array figures t n refusal (subst (λ (g : wire.Figure). IsPast refusal (figure (g.size * n) g.align (suc g.nest))) e h)

-- what is past a limit in a type is so in one around it
pub past_below : (figures : List wire.Figure) (t : Term) (ts : List Term) (r : Result (Unit {0}) Refusal) → IfErr r (HoldsPast figures ts) → IfErr r (HoldsPast figures (t ∷ ts))
past_below figures t ts (Ok g) h = tt
past_below figures t ts (Err refusal) h = record { part = h.part; among = among_more t h.part ts h.among; own = h.own; past = h.past }

-- a definition is within the limits
pub within_named : (figures : List Figure) (i : ℕ) → IsWithin (get_or (figures_view figures) i (figure 1 1 0))
within_named [] i = record { small = omega arith; shallow = omega arith }
within_named (f ∷ figures) zero = record { small = f.small; shallow = f.shallow }
within_named (f ∷ figures) (suc i) = within_named figures i
