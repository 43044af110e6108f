use Rattle.std.proofs.Common.{List, [], arith, inl, inr, refl}
use Rattle.std.proofs.lemmas.Option.{none-some}
use Rattle.fidl_wire.specs.Term.{Term}
use Rattle.fidl_cycles.specs.Cycles.{Leads, step, further}
use Rattle.fidl_reachable_types.specs.Reached.{IsReached, AreReached, with_none, root, part}
use Rattle.fidl_composition.proofs.Lists.{nothing_there, here}
use Rattle.fidl_layout.specs.Laid.{AreLaidOut}
use Rattle.fidl_protocol.specs.Starts.{AreStarts}
use Rattle.fidl_protocol.specs.Checked.{ProtocolsHold}
use Rattle.fidl_protocol.proofs.worked.no_files.Goals as goal

none_leads : {X : Type 0} (R : X → X → Type 0) → ((x y : X) → R x y → ⊥) → (x y : X) → Leads R x y → ⊥
none_leads R none x y (step a b h) = none a b h
none_leads R none x y (further a b c h k) = none a b h

none_reached : (terms : List Term) (t : Term) → IsReached terms [] t → ⊥
none_reached terms t (root i h) = nothing_there i h
none_reached terms u (part t v h k) = none_reached terms t h

reach_none : (terms : List Term) → AreReached terms [] []
reach_none terms = record {
  distinct = λ i j d lt within. absurd (omega (arith, within));
  sound = λ t h. absurd (nothing_there t h);
  complete = λ t h. absurd (none_reached terms t h);
  order = with_none [];
}

no_starts : AreStarts [] []
no_starts = record {
  sound = λ i h. absurd (nothing_there i h);
  roots = λ i r. absurd (none-some r.form r.at);
  payloads = λ i h. absurd (none-some h.declared.file h.declared.at.at.file_at);
}

laid_out : AreLaidOut [] (record { terms = []; figures = [] })
laid_out = record {
  checked = record {
    layouts = tt;
    numbers = tt;
    resources = λ number f at. absurd (none-some f at);
    uses = λ number f at. absurd (none-some f at);
    definitions = tt;
    kept = record { marked = λ i. tt; apart = λ i. none_leads _ (λ a b h. omega (arith, h.1)) i i };
  };
  laid_out = refl;
  limits = record { figures = tt; members = tt };
  values = tt;
  uses = λ number f at. absurd (none-some f at);
  types = record {
    roots = [];
    are = record { sound = λ i h. absurd (nothing_there i h); complete = λ i r. absurd (none-some r.form r.at) };
    types = [];
    reached = reach_none [];
    few = omega arith;
  };
}

hold : ProtocolsHold []
hold = record {
  members = λ id. record {
    methods = λ f o n ms at. absurd (none-some f at.at.file_at);
    payloads = λ f o n ms at. absurd (none-some f at.at.file_at);
  };
  compositions = record {
    openness = λ p q one other h. absurd (none-some h.1.file h.1.is.at.file_at);
    no_cycle = λ p. none_leads _ (λ a b h. none-some h.1.file h.1.is.at.file_at) p p;
  };
  methods = λ id. record {
    names = λ one other h k same. absurd (none-some h.declared.file h.declared.at.at.file_at);
    ordinals = λ one other h k same. absurd (none-some h.declared.file h.declared.at.at.file_at);
  };
  types = λ terms h. record { starts = []; are = no_starts; types = []; reached = reach_none terms; few = omega arith };
}

pub returns-clause-checked : goal.returns-clause-checked
returns-clause-checked c = record { laid_out = laid_out; protocols = hold }

pub returns-clause-one_start : goal.returns-clause-one_start
returns-clause-one_start c = λ are. elim (are.sound 0 (here 0 [])) [ inl r ↦ none-some r.form r.at | inr h ↦ none-some h.declared.file h.declared.at.at.file_at ]
