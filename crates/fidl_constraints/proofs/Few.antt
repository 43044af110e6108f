-- A type is given few lists of constraints: each gives a part, and none is given twice.
use Rattle.std.proofs.Common.{◌≡◌, ◌≤◌, ◌+◌, ℕ, Bool, true, false, List, [], ◌∷◌, ◌++◌, length, refl, ap, sym, ◌∙◌, true≢false, arith, length-append}
use Rattle.std.specs.List.{AllZip}
use Rattle.std.proofs.lemmas.Grind.{flat_map-append}
use Rattle.fidl_tree.specs.Syntax.{TypeUse, Value}
use Rattle.fidl_tree.specs.declared.file.File.{File}
use Rattle.fidl_constraints.specs.declared.parts.PartKind.{PartKind}
use Rattle.fidl_constraints.specs.declared.parts.PartKind.TheVariants.{Optional, Bound, Protocol, Subtype, Rights}
use Rattle.fidl_constraints.specs.declared.parts.Part.{Part}
use Rattle.fidl_constraints.specs.Behind.{Given, Core, list_of, given_in, constraints_in, Behind}
use Rattle.fidl_constraints.specs.Items.{all_items, items_of}
use Rattle.fidl_constraints.specs.Parts.{same_kind, has_kind, GivenOnce}
use Rattle.fidl_constraints.specs.Gives.{Gives, IsGathered}
use Rattle.fidl_constraints.proofs.Pairing.{first_off, rest_off}

-- How many parts there are.

abbrev one : Bool → ℕ
one true = 1
one false = 0

-- how many are of a kind
abbrev count : PartKind → List Part → ℕ
count kind [] = 0
count kind (p ∷ ps) = one (same_kind p.kind kind) + count kind ps

same_equal : (a b : PartKind) → same_kind a b ≡ true → a ≡ b
same_equal Optional Optional h = refl
same_equal Bound Bound h = refl
same_equal Protocol Protocol h = refl
same_equal Subtype Subtype h = refl
same_equal Rights Rights h = refl
same_equal _ _ h = absurd (true≢false (sym h))

none_counted : (kind : PartKind) (ps : List Part) → has_kind kind ps ≡ false → count kind ps ≡ 0
none_counted kind [] h = refl
none_counted kind (p ∷ ps) h =
    let first : one (same_kind p.kind kind) ≡ 0 = ap one (first_off (same_kind p.kind kind) (has_kind kind ps) h) in
    let rest : count kind ps ≡ 0 = none_counted kind ps (rest_off (same_kind p.kind kind) (has_kind kind ps) h) in
    omega arith

one_more : (b : Bool) (n : ℕ) → (b ≡ true → n ≡ 0) → n ≤ 1 → one b + n ≤ 1
one_more true n h le = let none : n ≡ 0 = h refl in omega arith
one_more false n h le = omega arith

once_counted : (kind : PartKind) (ps : List Part) → GivenOnce ps → count kind ps ≤ 1
once_counted kind [] h = omega arith
once_counted kind (p ∷ ps) h =
    one_more (same_kind p.kind kind) (count kind ps)
    (λ same. none_counted kind ps (ap (λ k. has_kind k ps) (sym (same_equal p.kind kind same)) ∙ h.0))
    (once_counted kind ps h.1)

one_of : (k : PartKind) → one (same_kind k Optional) + one (same_kind k Bound) + one (same_kind k Protocol) + one (same_kind k Subtype) + one (same_kind k Rights) ≡ 1
one_of Optional = refl
one_of Bound = refl
one_of Protocol = refl
one_of Subtype = refl
one_of Rights = refl

all_counted : (ps : List Part) → length ps ≡ count Optional ps + count Bound ps + count Protocol ps + count Subtype ps + count Rights ps
all_counted [] = refl
all_counted (p ∷ ps) = omega (arith, all_counted ps, one_of p.kind)

few_parts : (ps : List Part) → GivenOnce ps → length ps ≤ 5
few_parts ps h =
    omega (arith, all_counted ps, once_counted Optional ps h, once_counted Bound ps h, once_counted Protocol ps h, once_counted Subtype ps h, once_counted Rights ps h)

-- How many lists there are.

as_many : {A B : Type 0} (R : A → B → Type 0) (xs : List A) (ys : List B) → AllZip R xs ys → length xs ≡ length ys
as_many R [] [] h = refl
as_many R [] (y ∷ ys) h = absurd h
as_many R (x ∷ xs) [] h = absurd h
as_many R (x ∷ xs) (y ∷ ys) h = let rest : length xs ≡ length ys = as_many R xs ys h.1 in omega arith

module _ (files : List File) where
  -- a list has constraints
  own_items : (number : ℕ) (vs : List Value) → length (list_of number vs) ≤ length (all_items files (list_of number vs))
  own_items number [] = omega arith
  own_items number (v ∷ vs) = omega arith

  more_items : (xs ys : List Given) → length xs ≤ length (all_items files xs) → length ys ≤ length (all_items files ys) → length (xs ++ ys) ≤ length (all_items files (xs ++ ys))
  more_items xs ys h k =
      omega (arith, h, k, length-append xs ys, length-append (all_items files xs) (all_items files ys), ap length (flat_map-append (items_of files) xs ys))

  each_listed : (number : ℕ) (t : TypeUse) (c : Core) → Behind files number t c → length c.given ≤ length (all_items files c.given)
  each_listed _ _ _ (Behind.no_alias number t of head h) = own_items number (constraints_in t)
  each_listed _ _ _ (Behind.an_alias number t of next c h rest) =
      more_items (given_in number t) c.given (own_items number (constraints_in t)) (each_listed of next c rest)

  pub few_lists : (number : ℕ) (t : TypeUse) (c : Core) (ps : List Part) → IsGathered files number t c ps → length c.given ≤ 5
  few_lists number t c ps h =
      omega (arith, few_parts ps h.once, as_many (Gives files c.head) (all_items files c.given) ps h.gives, each_listed number t c h.behind)
