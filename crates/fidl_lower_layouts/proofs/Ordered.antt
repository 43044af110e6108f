-- The rows of tables and unions, by rising ordinal.
use Rattle.std.proofs.Common.{◌≡◌, ◌<◌, ◌⊎◌, ℕ, List, [], ◌∷◌, map, refl, sym, subst, inl, inr, arith}
use Rattle.std.specs.Prelude.{flat_map}
use Rattle.std.specs.List.{AllPairs, AllZip, Contains}
use Rattle.std.specs.List.Sorted.{IsPermutation}
use Rattle.std.proofs.lemmas.List.Sorted.{IsPermutation-map, IsPermutation-sym, Contains-permutation}
use Rattle.fidl_tree.specs.Leaf.{text_at}
use Rattle.fidl_tree.specs.Syntax.{Member, named_member, ordinal_member, reserved_member}
use Rattle.fidl_tree.specs.declared.file.File.{File}
use Rattle.fidl_consts.specs.Literals.{number_of}
use Rattle.fidl_wire.specs.Term.{Term, Rows, no_rows, row}
use Rattle.fidl_ir.specs.declared.term.Row.{Row}
use Rattle.fidl_ir.specs.Terms.{term_view, rows_view}
use Rattle.fidl_lower_layouts.specs.Members.{RowIs, own_row, EachRow, WrittenRowsAre, row_ordinals, RowsAre}
use Rattle.fidl_lower_layouts.proofs.Rising.{here, there, nothing_there, first_or_rest, one_moved, rising, moved_with}
use Rattle.fidl_lower_layouts.proofs.Sorting.{keys_rise, rise_by_keys}

module _ (files : List File) (number : ℕ) (f : File) where
  -- the number of a member's ordinal
  abbrev pub ordinal_of : Member → ℕ
  ordinal_of (named_member attributes name t) = 0
  ordinal_of (ordinal_member attributes ordinal name t) = number_of (text_at f.src.now ordinal)
  ordinal_of (reserved_member attributes ordinal) = 0

  abbrev pub Before : Member → Member → Type 0
  Before m w = ordinal_of m < ordinal_of w

  never : (m : Member) → Before m m → ⊥
  never m lt = omega (arith, lt)

  chain : (m w v : Member) → Before m w → Before w v → Before m v
  chain m w v lt less = omega (arith, lt, less)

  its_number : (m : Member) (n : ℕ) (text : List ℕ) (e : Term) → RowIs files number f m n text e → n ≡ ordinal_of m
  its_number _ _ _ _ (RowIs.at attributes ordinal name t e low h) = refl

  -- the ordinals of rows are those of their members
  pub ordinals_of : (ms : List Member) (rows : Rows) → EachRow files number f ms rows → row_ordinals rows ≡ map ordinal_of ms
  ordinals_of [] no_rows h = refl
  ordinals_of [] (row n text e rows) h = absurd h
  ordinals_of (m ∷ ms) no_rows h = absurd h
  ordinals_of (m ∷ ms) (row n text e rows) h =
      let first = its_number m n text e h.0 in
      let rest = ordinals_of ms rows h.1 in
      λ i. first i ∷ rest i

  -- Members that have rows.

  abbrev pub HasRow : Member → Type 0
  HasRow m = (n : ℕ) × ((text : List ℕ) × ((e : Term) × RowIs files number f m n text e))

  pub has_row : (ms : List Member) (rows : Rows) → EachRow files number f ms rows → (m : Member) → Contains ms m → HasRow m
  has_row [] rows h m c = absurd (nothing_there m c)
  has_row (w ∷ ms) no_rows h m c = absurd h
  has_row (w ∷ ms) (row n text e rows) h m c = elim (first_or_rest w ms m c) [
    | inl is ↦ (n, (text, (e, subst (λ (v : Member). RowIs files number f v n text e) is h.0)))
    | inr later ↦ has_row ms rows h.1 m later
  ]

  pub all_rows : (ms : List Member) → ((m : Member) → Contains ms m → HasRow m) → (rows : Rows) × EachRow files number f ms rows
  all_rows [] h = (no_rows, tt)
  all_rows (m ∷ ms) h =
      let own = h m (here m ms) in
      let rest = all_rows ms (λ w c. h w (there m ms w c)) in
      (row own.0 own.1.0 own.1.1.0 rest.0, (own.1.1.1, rest.1))

  -- members whose rows are in order have rows as they are written
  pub rows_written : (ms : List Member) (rows : Rows) → RowsAre files number f ms rows → (others : Rows) × WrittenRowsAre files number f ms others
  rows_written ms rows h =
      all_rows (flat_map own_row ms) (λ m c. has_row h.members rows h.each m (Contains-permutation (flat_map own_row ms) h.members m h.same c))

  -- members whose ordinals differ and that have rows have them in order
  pub rows_exist : (ms : List Member) → ((m : Member) → Contains (flat_map own_row ms) m → HasRow m) → AllPairs (λ (m w : Member). Before m w ⊎ Before w m) (flat_map own_row ms) → (rows : Rows) × RowsAre files number f ms rows
  rows_exist ms has differ =
      let written = flat_map own_row ms in
      let r = rising Before never chain written differ in
      let made = all_rows r.list (λ m c. has m (Contains-permutation r.list written m (IsPermutation-sym written r.list r.same) c)) in (
        made.0,
        record {
          members = r.list;
          same = r.same;
          each = made.1;
          rise = subst (AllPairs (λ m n. m < n)) (sym (ordinals_of r.list made.0 made.1)) (keys_rise ordinal_of r.list r.rise);
        },
      )

  -- Rows of the code.

  abbrev IsRowOf : Member → Row → Type 0
  IsRowOf m x = RowIs files number f m x.ordinal x.name.items (term_view x.of)

  to_zip : (ms : List Member) (xs : List Row) → EachRow files number f ms (rows_view xs) → AllZip IsRowOf ms xs
  to_zip [] [] h = tt
  to_zip [] (x ∷ xs) h = absurd h
  to_zip (m ∷ ms) [] h = absurd h
  to_zip (m ∷ ms) (x ∷ xs) h = (h.0, to_zip ms xs h.1)

  from_zip : (ms : List Member) (xs : List Row) → AllZip IsRowOf ms xs → EachRow files number f ms (rows_view xs)
  from_zip [] [] h = tt
  from_zip [] (x ∷ xs) h = absurd h
  from_zip (m ∷ ms) [] h = absurd h
  from_zip (m ∷ ms) (x ∷ xs) h = (h.0, from_zip ms xs h.1)

  -- sorted rows are the rows
  pub rows_sorted : (ms : List Member) (xs sorted : List Row) → WrittenRowsAre files number f ms (rows_view xs) → IsPermutation xs sorted → AllPairs (λ m n. m < n) (row_ordinals (rows_view sorted)) → RowsAre files number f ms (rows_view sorted)
  rows_sorted ms xs sorted h moved rise =
      let m = moved_with IsRowOf (flat_map own_row ms) xs sorted (to_zip (flat_map own_row ms) xs h) moved in
      record { members = m.list; same = m.same; each = from_zip m.list sorted m.zip; rise = rise }

  -- where no order of their ordinals rises, members have no rows
  pub no_order : (ms : List Member) (xs : List Row) → WrittenRowsAre files number f ms (rows_view xs) → ((ns : List ℕ) → IsPermutation (row_ordinals (rows_view xs)) ns → AllPairs (λ m n. m < n) ns → ⊥) → (rows : Rows) → RowsAre files number f ms rows → ⊥
  no_order ms xs h none rows are =
      let written = flat_map own_row ms in
      let moved : IsPermutation (map ordinal_of written) (map ordinal_of are.members) = IsPermutation-map ordinal_of written are.members are.same in
      none (row_ordinals rows)
      (subst (λ l. IsPermutation l (row_ordinals rows)) (sym (ordinals_of written (rows_view xs) h)) (subst (IsPermutation (map ordinal_of written)) (sym (ordinals_of are.members rows are.each)) moved))
      are.rise

  -- members have one list of them
  pub same_members : (ms : List Member) (rows others : Rows) (h : RowsAre files number f ms rows) (k : RowsAre files number f ms others) → h.members ≡ k.members
  same_members ms rows others h k =
      one_moved Before never chain (flat_map own_row ms) h.members k.members h.same k.same
      (rise_by_keys ordinal_of h.members (subst (AllPairs (λ m n. m < n)) (ordinals_of h.members rows h.each) h.rise))
      (rise_by_keys ordinal_of k.members (subst (AllPairs (λ m n. m < n)) (ordinals_of k.members others k.each) k.rise))
