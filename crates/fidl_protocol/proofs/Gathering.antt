-- All methods of a protocol, from the rows of those that it reaches.
use Rattle.std.proofs.Common.{◌≡◌, ◌+◌, ◌<◌, ℕ, zero, suc, List, [], ◌∷◌, ◌++◌, Option, Some, None, length, get_or, take, ap, sym, subst, ◌∙◌}
use Rattle.std.specs.Prelude.{◌↔◌, slice_get}
use Rattle.std.specs.Global.{Vec}
use Rattle.std.specs.List.{Contains}
use Rattle.std.specs.Option.{option_map_or}
use Rattle.std.proofs.lemmas.List.{append-nil}
use Rattle.std.proofs.lemmas.Option.{same_Some, none-some}
use Rattle.fidl_tree.specs.declared.file.File.{File}
use Rattle.fidl_named.specs.declared.place.DeclarationId.{DeclarationId}
use Rattle.fidl_cycles.proofs.Lists.{flat_take}
use Rattle.fidl_composition.specs.Compositions.{Reaches}
use Rattle.fidl_composition.specs.Numbers.{AreCompositions, ReachesByNumber}
use Rattle.fidl_composition.specs.Points.{AreDistinct}
use Rattle.fidl_composition.proofs.Lists.{nothing_there, no_pairs, found_at, Distinct}
use Rattle.fidl_composition.proofs.Order.{one_number}
use Rattle.fidl_protocol.specs.declared.method.Method.{Method}
use Rattle.fidl_protocol.specs.Methods.{IsDeclared, HasMethod}
use Rattle.fidl_protocol.specs.Gathered.{AreRows, row_at, rows_at, AreGathered}
use Rattle.fidl_protocol.proofs.Lists.{flat_back, flat_there, distinct_flat}
use Rattle.fidl_protocol.proofs.Nodes.{declares}

-- One row more.
module _ (rows : List (Vec Method)) (numbers : List ℕ) (i : ℕ) (n : ℕ) (lt : i < length numbers) (is : n ≡ get_or numbers i n) (methods : List Method) (so_far : methods ≡ rows_at rows (take i numbers)) where
  pub row_more : (row : Vec Method) → slice_get rows n ≡ Some row → (new : List Method) → new ≡ methods ++ row.items → new ≡ rows_at rows (take (i + 1) numbers)
  row_more row at new more =
      more ∙ ap (λ l. l ++ row.items) so_far
      ∙ ap (λ (o : Option (Vec Method)). rows_at rows (take i numbers) ++ option_map_or (λ (v : Vec Method). v.items) o []) (sym at)
      ∙ sym (flat_take numbers i n lt is (row_at rows))

  pub row_none : slice_get rows n ≡ None → methods ≡ rows_at rows (take (i + 1) numbers)
  row_none at =
      so_far ∙ sym (append-nil (rows_at rows (take i numbers)))
      ∙ ap (λ (o : Option (Vec Method)). rows_at rows (take i numbers) ++ option_map_or (λ (v : Vec Method). v.items) o []) (sym at)
      ∙ sym (flat_take numbers i n lt is (row_at rows))

module _ (files : List File) where
  -- what stands in a row, the protocol of its number declares
  row_back : (ids : List DeclarationId) (rows : List (Vec Method)) → AreRows files ids rows → (t : ℕ) (m : Method) → Contains (row_at rows t) m → (slice_get ids t ≡ Some m.protocol) × IsDeclared files m
  row_back [] [] h t m c = absurd (nothing_there m c)
  row_back [] (r ∷ rs) h t m c = absurd h
  row_back (p ∷ ps) [] h t m c = absurd h
  row_back (p ∷ ps) (r ∷ rs) h zero m c = (ap (λ (q : DeclarationId). Some q) (sym (h.0.own m c)), h.0.sound m c)
  row_back (p ∷ ps) (r ∷ rs) h (suc t) m c = row_back ps rs h.1 t m c

  row_there : (ids : List DeclarationId) (rows : List (Vec Method)) → AreRows files ids rows → (t : ℕ) (m : Method) → slice_get ids t ≡ Some m.protocol → IsDeclared files m → Contains (row_at rows t) m
  row_there [] rows h t m at d = absurd (none-some m.protocol at)
  row_there (p ∷ ps) [] h t m at d = absurd h
  row_there (p ∷ ps) (r ∷ rs) h zero m at d = h.0.complete m d (sym (same_Some p m.protocol at))
  row_there (p ∷ ps) (r ∷ rs) h (suc t) m at d = row_there ps rs h.1 t m at d

  row_distinct : (ids : List DeclarationId) (rows : List (Vec Method)) → AreRows files ids rows → (t : ℕ) → Distinct (row_at rows t)
  row_distinct [] [] h t = no_pairs (λ x y. x ≡ y → ⊥)
  row_distinct [] (r ∷ rs) h t = absurd h
  row_distinct (p ∷ ps) [] h t = absurd h
  row_distinct (p ∷ ps) (r ∷ rs) h zero = h.0.once
  row_distinct (p ∷ ps) (r ∷ rs) h (suc t) = row_distinct ps rs h.1 t

  module _ (value : List DeclarationId × List (List ℕ)) (known : AreCompositions files value) (rows : List (Vec Method)) (are : AreRows files value.0 rows) where
    abbrev ids : List DeclarationId
    ids = value.0

    pub gathered_all : (number : ℕ) (id : DeclarationId) → slice_get ids number ≡ Some id → (numbers : List ℕ) → ((t : ℕ) → Contains numbers t ↔ ReachesByNumber files ids number t) → AreDistinct numbers → AreGathered files id (rows_at rows numbers)
    gathered_all number id at numbers reached once = record {
      sound = sound;
      complete = λ m h.
          let stands = known.protocols.all m.protocol (declares files m h.declared) in
          let there = found_at ids m.protocol stands in
          flat_there (row_at rows) numbers stands.0 m ((reached stands.0).1 (record { from = id; to = m.protocol; one_at = at; other_at = there; reaches = h.reaches })) (row_there ids rows are stands.0 m there h.declared);
      once = distinct_flat (row_at rows) (row_distinct ids rows are) (λ n k m c d. one_number ids known.protocols.rise n k m.protocol (row_back ids rows are n m c).0 (row_back ids rows are k m d).0) numbers once;
    }
      where
        sound : (m : Method) → Contains (rows_at rows numbers) m → HasMethod files id m
        sound m c =
            let r = flat_back (row_at rows) numbers m c in
            let back = row_back ids rows are r.0 m r.2 in
            let by = (reached r.0).0 r.1 in
            let from : by.from ≡ id = same_Some by.from id (sym by.one_at ∙ at) in
            let to : by.to ≡ m.protocol = same_Some by.to m.protocol (sym by.other_at ∙ back.0) in
            record { reaches = subst (Reaches files id) to (subst (λ (p : DeclarationId). Reaches files p by.to) from by.reaches); declared = back.1 }
