-- The protocols of files, one declaration and one file more at a time.
use Rattle.std.proofs.Common.{◌≡◌, ◌<◌, ◌≤◌, ◌+◌, ◌⊎◌, ℕ, List, [], ◌∷◌, ◌++◌, Some, length, inl, inr, refl, ap, sym, subst, arith}
use Rattle.std.specs.Prelude.{slice_get}
use Rattle.std.specs.List.{Contains}
use Rattle.std.proofs.lemmas.List.{length_push}
use Rattle.std.proofs.lemmas.List.Elements.{Contains-push, Contains-push_cases, Contains-append_left}
use Rattle.fidl_tree.specs.Views.{declared_view}
use Rattle.fidl_tree.specs.declared.file.File.{File}
use Rattle.fidl_tree.specs.declared.declaration.Declaration.{Declaration}
use Rattle.fidl_named.specs.declared.place.DeclarationId.{DeclarationId}
use Rattle.fidl_named.specs.Constraints.{IsDeclarationAt}
use Rattle.fidl_cycles.proofs.Trails.{same_or_not}
use Rattle.fidl_composition.specs.Protocols.{IsProtocol, IsBefore}
use Rattle.fidl_composition.specs.Tables.{at, IsProtocolBody, AreProtocolsTo, AddsIfProtocol, Keeps, HasNumberIn, IsRowTo, IsRow, HasNumber, AreNumbered, AreNumberedTo}
use Rattle.fidl_composition.proofs.Lists.{nothing_there, no_pairs, pairs_push, front_at, last_at}
use Rattle.fidl_composition.proofs.Order.{before_next, before_later, before_next_file, before_end}
use Rattle.fidl_composition.proofs.Nodes.{body_of, protocol_of, protocol_within, protocol_in}

pub keeps_itself : (ids : List DeclarationId) → Keeps ids ids
keeps_itself ids n p h = h

pub keeps_then : (old mid new : List DeclarationId) → Keeps old mid → Keeps mid new → Keeps old new
keeps_then old mid new h k n p is = k n p (h n p is)

pub number_kept : (row : List ℕ) (old new : List DeclarationId) (p : DeclarationId) → Keeps old new → HasNumberIn row old p → HasNumberIn row new p
number_kept row old new p kept h = record { number = h.number; number_at = h.number_at; id_at = kept h.number p h.id_at }

module _ (files : List File) where
  pub none_to : AreProtocolsTo files (at 0 0) []
  none_to = record {
    entries = λ p c. absurd (nothing_there p c);
    all = λ p h before. absurd (first p before);
    rise = no_pairs IsBefore;
  }
    where
      first : (p : DeclarationId) → IsBefore p (at 0 0) → ⊥
      first p (inl a) = omega (arith, a)
      first p (inr a) = let lt = a.1 in omega (arith, lt)

  module _ (k i : ℕ) (f : File) (d : Declaration) (stands : IsDeclarationAt files (at k i) f d) (old new : List DeclarationId) (adds : AddsIfProtocol (declared_view d.body) (at k i) old new) where
    pub adds_keeps : Keeps old new
    adds_keeps = kept adds
      where
        kept : AddsIfProtocol (declared_view d.body) (at k i) old new → Keeps old new
        kept (inl h) n p is = subst (λ l. slice_get l n ≡ Some p) (sym h.1) (front_at old (at k i ∷ []) n p is)
        kept (inr h) n p is = subst (λ l. slice_get l n ≡ Some p) (sym h.1) is

    -- a declaration more
    pub to_next : AreProtocolsTo files (at k i) old → AreProtocolsTo files (at k (i + 1)) new
    to_next t = next adds
      where
        with_it : IsProtocolBody (declared_view d.body) → AreProtocolsTo files (at k (i + 1)) (old ++ at k i ∷ [])
        with_it b = record {
          entries = λ p c. entry p (Contains-push_cases old (at k i) p c);
          all = λ p h before. found p h (before_next p k i before);
          rise = pairs_push IsBefore old (at k i) t.rise (λ p c. (t.entries p c).1);
        }
          where
            entry : (p : DeclarationId) → Contains old p ⊎ (at k i ≡ p) → IsProtocol files p × IsBefore p (at k (i + 1))
            entry p (inl c) = ((t.entries p c).0, before_later p k i (t.entries p c).1)
            entry p (inr is) = subst (λ q. IsProtocol files q × IsBefore q (at k (i + 1))) is (protocol_of files (at k i) f d stands b, inr (refl, omega arith))

            found : (p : DeclarationId) → IsProtocol files p → IsBefore p (at k i) ⊎ (p ≡ at k i) → Contains (old ++ at k i ∷ []) p
            found p h (inl before) = Contains-append_left old (at k i ∷ []) p (t.all p h before)
            found p h (inr is) = subst (Contains (old ++ at k i ∷ [])) (sym is) (Contains-push old (at k i))

        without : (IsProtocolBody (declared_view d.body) → ⊥) → AreProtocolsTo files (at k (i + 1)) old
        without none = record {
          entries = λ p c. ((t.entries p c).0, before_later p k i (t.entries p c).1);
          all = λ p h before. found p h (before_next p k i before);
          rise = t.rise;
        }
          where
            found : (p : DeclarationId) → IsProtocol files p → IsBefore p (at k i) ⊎ (p ≡ at k i) → Contains old p
            found p h (inl before) = t.all p h before
            found p h (inr is) = absurd (none (body_of files (at k i) f d stands (subst (IsProtocol files) is h)))

        next : AddsIfProtocol (declared_view d.body) (at k i) old new → AreProtocolsTo files (at k (i + 1)) new
        next (inl h) = subst (AreProtocolsTo files (at k (i + 1))) (sym h.1) (with_it h.0)
        next (inr h) = subst (AreProtocolsTo files (at k (i + 1))) (sym h.1) (without h.0)

    pub row_next : (row more : List ℕ) → more ≡ row ++ length old ∷ [] → IsRowTo files k i old row → IsRowTo files k (i + 1) new more
    row_next row more is r = subst (IsRowTo files k (i + 1) new) (sym is) (record {
      long = let before = r.long in let pushed = length_push row (length old) in omega (arith, before, pushed);
      numbers = λ j lt h. number j h (same_or_not j i) lt;
    })
      where
        last : AddsIfProtocol (declared_view d.body) (at k i) old new → IsProtocol files (at k i) → slice_get new (length old) ≡ Some (at k i)
        last (inl h) its = subst (λ l. slice_get l (length old) ≡ Some (at k i)) (sym h.1) (last_at old (at k i))
        last (inr h) its = absurd (h.0 (body_of files (at k i) f d stands its))

        number : (j : ℕ) → IsProtocol files (at k j) → (j ≡ i) ⊎ (j ≡ i → ⊥) → j < i + 1 → HasNumberIn (row ++ length old ∷ []) new (at k j)
        number j h (inl same) lt = subst (λ n. HasNumberIn (row ++ length old ∷ []) new (at k n)) (sym same) (record {
          number = length old;
          number_at = subst (λ n. slice_get (row ++ length old ∷ []) n ≡ Some (length old)) r.long (last_at row (length old));
          id_at = last adds (subst (λ n. IsProtocol files (at k n)) same h);
        })
        number j h (inr other) lt =
            let less : j < i = omega (arith, lt, other) in
            let old_number = r.numbers j less h in
            record {
              number = old_number.number;
              number_at = front_at row (length old ∷ []) j old_number.number old_number.number_at;
              id_at = adds_keeps old_number.number (at k j) old_number.id_at;
            }

  pub row_begins : (k : ℕ) (ids : List DeclarationId) → IsRowTo files k 0 ids []
  row_begins k ids = record { long = refl; numbers = λ j lt h. absurd (omega (arith, lt)) }

  -- the end of a file
  module _ (k i : ℕ) (f : File) (stands : slice_get files k ≡ Some f) (over : length f.declarations.items ≤ i) (ids : List DeclarationId) where
    pub to_end : AreProtocolsTo files (at k i) ids → AreProtocolsTo files (at (k + 1) 0) ids
    to_end t = record {
      entries = λ p c. ((t.entries p c).0, before_next_file p k i (t.entries p c).1);
      all = λ p h before. t.all p h (there p h (before_end p k before));
      rise = t.rise;
    }
      where
        there : (p : DeclarationId) → IsProtocol files p → (p.file < k) ⊎ (p.file ≡ k) → IsBefore p (at k i)
        there p h (inl lt) = inl lt
        there p h (inr is) = let within = protocol_within files p k f stands h is in inr (is, omega (arith, within, over))

    pub row_whole : (row : List ℕ) → IsRowTo files k i ids row → IsRow files k ids row
    row_whole row r j h = let within = protocol_within files (at k j) k f stands h refl in r.numbers j (omega (arith, within, over)) h

  -- a file more
  pub file_more : (k : ℕ) (old new : List DeclarationId) (rows more : List (List ℕ)) (row : List ℕ) → AreNumberedTo files k old rows → AreProtocolsTo files (at (k + 1) 0) new → Keeps old new → IsRow files k new row → more ≡ rows ++ row ∷ [] → AreNumberedTo files (k + 1) new more
  file_more k old new rows more row h protocols kept its is = subst (AreNumberedTo files (k + 1) new) (sym is) (record {
    protocols = protocols;
    long = let before = h.long in let pushed = length_push rows row in omega (arith, before, pushed);
    numbers = λ p q lt. number p q (same_or_not p.file k) lt;
  })
    where
      number : (p : DeclarationId) → IsProtocol files p → (p.file ≡ k) ⊎ (p.file ≡ k → ⊥) → p.file < k + 1 → HasNumber (rows ++ row ∷ []) new p
      number p q (inl same) lt =
          let same_id : p ≡ at k p.index = ap (λ n. at n p.index) same in
          subst (HasNumber (rows ++ row ∷ []) new) (sym same_id) (record {
            row = row;
            row_at = subst (λ n. slice_get (rows ++ row ∷ []) n ≡ Some row) h.long (last_at rows row);
            number = its p.index (subst (IsProtocol files) same_id q);
          })
      number p q (inr other) lt =
          let before = h.numbers p q (omega (arith, lt, other)) in
          record { row = before.row; row_at = front_at rows (row ∷ []) p.file before.row before.row_at; number = number_kept before.row old new p kept before.number }

  pub none_numbered : AreNumberedTo files 0 [] []
  none_numbered = record { protocols = none_to; long = refl; numbers = λ p h lt. absurd (omega (arith, lt)) }

  pub all_numbered : (k : ℕ) (ids : List DeclarationId) (rows : List (List ℕ)) → length files ≤ k → AreNumberedTo files k ids rows → AreNumbered files ids rows
  all_numbered k ids rows over h = record {
    protocols = record {
      entries = λ p c. (h.protocols.entries p c).0;
      all = λ p q. h.protocols.all p q (inl (let within = protocol_in files p q in omega (arith, within, over)));
      rise = h.protocols.rise;
    };
    numbers = λ p q. h.numbers p q (let within = protocol_in files p q in omega (arith, within, over));
  }
