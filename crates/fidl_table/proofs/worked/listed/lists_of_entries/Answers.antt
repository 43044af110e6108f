use Rattle.std.proofs.Common.{[], ◌∷◌, inl, inr, subst, sym}
use Rattle.fidl_composition.proofs.Lists.{here, there, first_or_rest, just_one, nothing_there}
use Rattle.fidl_table.specs.Listed.{IsProtocolEntry}
use Rattle.fidl_table.proofs.worked.listed.lists_of_entries.Goals as goal

pub returns-clause-turned : goal.returns-clause-turned
returns-clause-turned c = λ files p q e x one two. record {
  sound = λ y c. elim (first_or_rest x (e ∷ []) y c) [
    | inl is ↦ (q, there p (q ∷ []) q (here q []), subst (λ y. IsProtocolEntry files q y) is two)
    | inr rest ↦ (p, here p (q ∷ []), subst (λ y. IsProtocolEntry files p y) (just_one e y rest) one)
  ];
  complete = λ y c. elim (first_or_rest p (q ∷ []) y c) [
    | inl is ↦ (e, there x (e ∷ []) e (here e []), subst (λ y. IsProtocolEntry files y e) is one)
    | inr rest ↦ (x, here x (e ∷ []), subst (λ y. IsProtocolEntry files y x) (just_one q y rest) two)
  ];
}

pub returns-clause-fewer : goal.returns-clause-fewer
returns-clause-fewer c = λ files p h. let s = h.complete p (here p []) in nothing_there s.0 s.1

pub returns-clause-more : goal.returns-clause-more
returns-clause-more c = λ files e h. let s = h.sound e (here e []) in nothing_there s.0 s.1

pub returns-clause-other : goal.returns-clause-other
returns-clause-other c = λ files p e none h.
    let s = h.sound e (here e []) in
    none (subst (λ y. IsProtocolEntry files y e) (sym (just_one p s.0 s.1)) s.2)
