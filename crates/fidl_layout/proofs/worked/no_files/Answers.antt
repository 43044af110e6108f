use Rattle.std.proofs.Common.{ℕ, [], arith, inl, inr, refl}
use Rattle.std.proofs.lemmas.Option.{none-some}
use Rattle.fidl_wire.specs.Term.{Term}
use Rattle.fidl_cycles.specs.Cycles.{Leads, step, further}
use Rattle.fidl_ir_rules.specs.Inline.{HoldsInline}
use Rattle.fidl_reachable_types.specs.Reached.{IsReached, with_none, root, part}
use Rattle.fidl_reachable_types.proofs.Members.{nothing_there}
use Rattle.fidl_layout.proofs.worked.no_files.Goals as goal

none_inline : (i j : ℕ) → Leads (HoldsInline []) i j → ⊥
none_inline i j (step a b h) = absurd (omega (arith, h.1))
none_inline i j (further a b c h k) = absurd (omega (arith, h.1))

none_reached : (t : Term) → IsReached [] [] t → ⊥
none_reached t (root i h) = nothing_there i h
none_reached u (part t v h k) = none_reached t h

pub returns-clause-laid_out : goal.returns-clause-laid_out
returns-clause-laid_out c = record {
  checked = record {
    layouts = tt;
    numbers = tt;
    resources = λ number f at. absurd (none-some f at);
    uses = λ number f at. absurd (none-some f at);
    definitions = tt;
    kept = record { marked = λ i. tt; apart = λ i. none_inline i i };
  };
  laid_out = refl;
  limits = record { figures = tt; members = tt };
  values = tt;
  uses = λ number f at. absurd (none-some f at);
  types = record {
    roots = [];
    are = record { sound = λ i h. absurd (nothing_there i h); complete = λ i r. absurd (none-some r.form r.at) };
    types = [];
    reached = record { distinct = λ i j d lt within. absurd (omega (arith, within)); sound = λ t h. absurd (nothing_there t h); complete = λ t h. absurd (none_reached t h); order = with_none [] };
    few = omega arith;
  };
}

pub returns-clause-too_many : goal.returns-clause-too_many
returns-clause-too_many c = λ place h. none-some h.root.form h.root.at

pub returns-clause-members : goal.returns-clause-members
returns-clause-members c = λ place h. elim h [ inl k ↦ none-some k.reported.form k.reported.at | inr k ↦ none-some k.reported.form k.reported.at ]

pub returns-clause-large : goal.returns-clause-large
returns-clause-large c = λ place h. elim h [ inl k ↦ none-some k.reported.form k.reported.at | inr k ↦ none-some k.is.at.f k.is.at.file_at ]

pub returns-clause-nested : goal.returns-clause-nested
returns-clause-nested c = λ place h. elim h [ inl k ↦ none-some k.reported.form k.reported.at | inr k ↦ none-some k.is.at.f k.is.at.file_at ]
