-- Which declaration stands at which entry.
use Rattle.std.proofs.Common.{◌≡◌, ◌⊎◌, ℕ, zero, suc, ◌+◌, List, [], ◌∷◌, ◌++◌, Some, map, ap, sym, subst, ◌∙◌, inl, inr, arith, refl, ◌<◌, length, get_or, Bor}
use Rattle.std.specs.Option.{option_map}
use Rattle.std.proofs.Math.ListN.{length-map}
use Rattle.std.proofs.lemmas.Option.{slice_get-get_or, slice_get-map, slice_get_within}
use Rattle.std.specs.Prelude.{slice_get}
use Rattle.std.specs.List.{enumerate_from}
use Rattle.fidl_tree.specs.declared.file.File.{File}
use Rattle.fidl_tree.specs.declared.declaration.Declaration.{Declaration}
use Rattle.fidl_named.specs.declared.place.DeclarationId.{DeclarationId}
use Rattle.fidl_named.specs.Names.{full_name, entries_of, all_entries, IsOneOf, AreDistinct}
use Rattle.fidl_named.specs.NameMaps.{names_of}
use Rattle.fidl_named.specs.Imports.{IsEntry}
use Rattle.fidl_named.specs.FullNames.{IsDeclared}

abbrev pub at : ℕ → ℕ → DeclarationId
at file index = record { file = file; index = index }

pub entry_both : {X : Type 0} (xs ys : List (List ℕ × X)) (name : List ℕ) (x : X) → IsEntry (xs ++ ys) name x → IsEntry xs name x ⊎ IsEntry ys name x
entry_both [] ys name x h = inr h
entry_both (e ∷ xs) ys name x (inl k) = inl (inl k)
entry_both (e ∷ xs) ys name x (inr k) = elim (entry_both xs ys name x k) [ inl m ↦ inl (inr m) | inr m ↦ inr m ]

pub entry_front : {X : Type 0} (xs ys : List (List ℕ × X)) (name : List ℕ) (x : X) → IsEntry xs name x → IsEntry (xs ++ ys) name x
entry_front [] ys name x h = elim h [ ]
entry_front (e ∷ xs) ys name x (inl k) = inl k
entry_front (e ∷ xs) ys name x (inr k) = inr (entry_front xs ys name x k)

pub entry_back : {X : Type 0} (xs ys : List (List ℕ × X)) (name : List ℕ) (x : X) → IsEntry ys name x → IsEntry (xs ++ ys) name x
entry_back [] ys name x h = h
entry_back (e ∷ xs) ys name x h = inr (entry_back xs ys name x h)

pub entry_among : {X : Type 0} (es : List (List ℕ × X)) (name : List ℕ) (x : X) → IsEntry es name x → IsOneOf (names_of es) name
entry_among [] name x h = elim h [ ]
entry_among (e ∷ es) name x (inl k) = inl k.0
entry_among (e ∷ es) name x (inr k) = inr (entry_among es name x k)

-- under names that differ stands one thing
pub one_entry : {X : Type 0} (es : List (List ℕ × X)) (name : List ℕ) (x y : X) → AreDistinct (names_of es) → IsEntry es name x → IsEntry es name y → x ≡ y
one_entry [] name x y h j _ = elim j [ ]
one_entry (e ∷ es) name x y h (inl j) (inl k) = sym j.1 ∙ k.1
one_entry (e ∷ es) name x y h (inl j) (inr k) = absurd (h.0 (subst (IsOneOf (names_of es)) (sym j.0) (entry_among es name y k)))
one_entry (e ∷ es) name x y h (inr j) (inl k) = absurd (h.0 (subst (IsOneOf (names_of es)) (sym k.0) (entry_among es name x j)))
one_entry (e ∷ es) name x y h (inr j) (inr k) = one_entry es name x y h.1 j k

record Stands (f : File) (number n : ℕ) (ds : List Declaration) (full : List ℕ) (p : DeclarationId) : Type 0 where
  index : ℕ
  declaration : Declaration
  place : p ≡ at number (n + index)
  stands : slice_get ds index ≡ Some declaration
  name_is : full_name f declaration ≡ full

module _ (f : File) (number : ℕ) where
  abbrev entry : ℕ × Declaration → List ℕ × DeclarationId
  entry p = (full_name f p.1, record { file = number; index = p.0 })

  entry_stands : (n : ℕ) (ds : List Declaration) (full : List ℕ) (p : DeclarationId) → IsEntry (map entry (enumerate_from n ds)) full p → Stands f number n ds full p
  entry_stands n [] full p h = elim h [ ]
  entry_stands n (d ∷ ds) full p (inl h) =
      let same : n ≡ n + 0 = omega arith in
      record { index = 0; declaration = d; place = sym h.1 ∙ ap (at number) same; stands = refl; name_is = h.0 }
  entry_stands n (d ∷ ds) full p (inr h) =
      let r = entry_stands (n + 1) ds full p h in
      let same : (n + 1) + r.index ≡ n + suc r.index = omega arith in
      record { index = suc r.index; declaration = r.declaration; place = r.place ∙ ap (at number) same; stands = r.stands; name_is = r.name_is }

  stands_entry : (n : ℕ) (ds : List Declaration) (j : ℕ) (d : Declaration) → slice_get ds j ≡ Some d → IsEntry (map entry (enumerate_from n ds)) (full_name f d) (at number (n + j))
  stands_entry n (x ∷ ds) zero d is =
      let it : x ≡ d = cc in
      let same : n ≡ n + 0 = omega arith in
      inl (ap (full_name f) it, ap (at number) same)
  stands_entry n (x ∷ ds) (suc j) d is =
      let same : (n + 1) + j ≡ n + suc j = omega arith in
      inr (subst (λ k. IsEntry (map entry (enumerate_from (n + 1) ds)) (full_name f d) (at number k)) same (stands_entry (n + 1) ds j d is))
  stands_entry n [] j d is = absurd (cc)

record FileStands (fs : List File) (n : ℕ) (full : List ℕ) (p : DeclarationId) : Type 0 where
  number : ℕ
  file : File
  declaration : Declaration
  number_is : p.file ≡ n + number
  file_at : slice_get fs number ≡ Some file
  stands : slice_get file.declarations.items p.index ≡ Some declaration
  name_is : full_name file declaration ≡ full

all_stand : (fs : List File) (n : ℕ) (full : List ℕ) (p : DeclarationId) → IsEntry (all_entries fs n) full p → FileStands fs n full p
all_stand [] n full p h = elim h [ ]
all_stand (f ∷ fs) n full p h = elim (entry_both (entries_of f n) (all_entries fs (suc n)) full p h) [
  | inl k ↦ let r = entry_stands f n 0 f.declarations.items full p k in
      let number : p.file ≡ n + 0 = ap (λ (p : DeclarationId). p.file) r.place ∙ (omega arith) in
      let index : r.index ≡ p.index = (omega arith) ∙ sym (ap (λ (p : DeclarationId). p.index) r.place) in
      record { number = 0; file = f; declaration = r.declaration; number_is = number; file_at = refl; stands = subst (λ i. slice_get f.declarations.items i ≡ Some r.declaration) index r.stands; name_is = r.name_is }
  | inr k ↦ let r = all_stand fs (suc n) full p k in
      let number : p.file ≡ n + suc r.number = r.number_is ∙ (omega arith) in
      record { number = suc r.number; file = r.file; declaration = r.declaration; number_is = number; file_at = r.file_at; stands = r.stands; name_is = r.name_is }
]

stand_all : (fs : List File) (n k : ℕ) (f : File) (j : ℕ) (d : Declaration) → slice_get fs k ≡ Some f → slice_get f.declarations.items j ≡ Some d → IsEntry (all_entries fs n) (full_name f d) (at (n + k) j)
stand_all (g ∷ fs) n zero f j d file_is is =
    let it : g ≡ f = cc in
    let same : n ≡ n + 0 = omega arith in
    let zero_more : 0 + j ≡ j = omega arith in
    entry_front (entries_of g n) (all_entries fs (suc n)) (full_name f d) (at (n + 0) j)
    (subst (λ (h : File). IsEntry (entries_of h n) (full_name f d) (at (n + 0) j)) (sym it)
    (subst (λ m. IsEntry (entries_of f n) (full_name f d) (at m j)) same
    (subst (λ i. IsEntry (entries_of f n) (full_name f d) (at n i)) zero_more (stands_entry f n 0 f.declarations.items j d is))))
stand_all (g ∷ fs) n (suc k) f j d file_is is =
    let same : suc n + k ≡ n + suc k = omega arith in
    entry_back (entries_of g n) (all_entries fs (suc n)) (full_name f d) (at (n + suc k) j)
    (subst (λ m. IsEntry (all_entries fs (suc n)) (full_name f d) (at m j)) same (stand_all fs (suc n) k f j d file_is is))
stand_all [] n k f j d file_is is = absurd (cc)

pub declared_entry : (fs : List File) (full : List ℕ) (p : DeclarationId) (f : File) (d : Declaration) → IsDeclared fs full p f d → IsEntry (all_entries fs 0) full p
declared_entry fs full p f d h =
    let zero_more : 0 + p.file ≡ p.file = omega arith in
    subst (λ m. IsEntry (all_entries fs 0) full (at m p.index)) zero_more
    (subst (λ name. IsEntry (all_entries fs 0) name (at (0 + p.file) p.index)) h.name_is (stand_all fs 0 p.file f p.index d h.file_at h.stands))

pub record Declaration_of (fs : List File) (full : List ℕ) (p : DeclarationId) : Type 0 where
  pub file : File
  pub declaration : Declaration
  pub declared : IsDeclared fs full p file declaration

pub entry_declared : (fs : List File) (full : List ℕ) (p : DeclarationId) → IsEntry (all_entries fs 0) full p → Declaration_of fs full p
entry_declared fs full p h =
    let r = all_stand fs 0 full p h in
    let number : r.number ≡ p.file = (omega arith) in
    record { file = r.file; declaration = r.declaration; declared = record { file_at = subst (λ m. slice_get fs m ≡ Some r.file) number r.file_at; stands = r.stands; name_is = r.name_is } }

-- a reference to what stands at an index
pub item_is : (bs : List (Bor File)) (i : ℕ) (b : Bor File) (f : File) → slice_get (map (λ b. b.now) bs) i ≡ Some f → b ≡ get_or bs i b → b.now ≡ f
item_is bs i b f at is =
    let within = slice_get_within (map (λ b. b.now) bs) i f at in
    let lt : i < length bs = omega (arith, length-map bs (λ b. b.now)) in
    let it : Some b.now ≡ Some f = sym (slice_get-map (λ b. b.now) bs i ∙ ap (option_map (λ b. b.now)) (slice_get-get_or bs i b lt ∙ ap (λ x. Some x) (sym is))) ∙ at in
    cc

pub element_is : {X : Type 0} (xs : List X) (i : ℕ) (y x : X) → slice_get xs i ≡ Some x → y ≡ get_or xs i y → y ≡ x
element_is xs i y x at is =
    let it : Some y ≡ Some x = sym (slice_get-get_or xs i y (slice_get_within xs i x at) ∙ ap (λ z. Some z) (sym is)) ∙ at in
    cc

-- one id is that of one declaration
module _ (fs : List File) (full : List ℕ) (p q : DeclarationId) (f g : File) (d e : Declaration) (one : IsDeclared fs full p f d) (other : IsDeclared fs full q g e) (same : q ≡ p) where
  pub same_file : g ≡ f
  same_file =
      let it : Some g ≡ Some f = sym (subst (λ (r : DeclarationId). slice_get fs r.file ≡ Some g) same other.file_at) ∙ one.file_at in
      cc

  pub same_declaration : e ≡ d
  same_declaration =
      let there = subst (λ (h : File). slice_get h.declarations.items p.index ≡ Some e) same_file (subst (λ (r : DeclarationId). slice_get g.declarations.items r.index ≡ Some e) same other.stands) in
      let it : Some e ≡ Some d = sym there ∙ one.stands in
      cc
