-- Which member has which name.
use Rattle.std.proofs.Common.{◌≡◌, ℕ, zero, suc, ◌<◌, List, [], ◌∷◌, Some, map, length, get_or, ap, sym, subst, ◌∙◌, inl, inr, refl, true, false, true≢false}
use Rattle.std.specs.Prelude.{slice_get}
use Rattle.std.specs.Option.{option_map}
use Rattle.std.proofs.lemmas.Option.{slice_get-get_or, slice_get-map}
use Rattle.fidl_tree.specs.Leaf.{text_at}
use Rattle.fidl_tree.specs.declared.file.File.{File}
use Rattle.fidl_tree.specs.declared.declaration.Declaration.{Declaration}
use Rattle.fidl_tree.specs.declared.value_member.ValueMember.{ValueMember}
use Rattle.fidl_named.specs.declared.place.DeclarationId.{DeclarationId}
use Rattle.fidl_named.specs.declared.meaning.Meaning.{Meaning}
use Rattle.fidl_named.specs.declared.meaning.Meaning.TheVariants as meaning
use Rattle.fidl_named.specs.Names.{IsOneOf, AreDistinct}
use Rattle.fidl_named.specs.Imports.{same}
use Rattle.fidl_named.specs.FullNames.{IsDeclared}
use Rattle.fidl_named.specs.Meanings.{member_names, joined_name, IsMember}
use Rattle.fidl_named.proofs.Taken.{same_is}
use Rattle.fidl_named.proofs.FullNames.{same_file, same_declaration}

abbrev pub name_in : List ℕ → ValueMember → List ℕ
name_in src m = text_at src m.name

module _ {X : Type 0} (text : X → List ℕ) (ms : List X) (i : ℕ) (m : X) (lt : i < length ms) (is : m ≡ get_or ms i m) where
  member_at : slice_get (map text ms) i ≡ Some (text m)
  member_at = slice_get-map text ms i ∙ ap (option_map text) (slice_get-get_or ms i m lt ∙ ap (λ x. Some x) (sym is))

  pub has_name : (name : List ℕ) → same (text m) name ≡ true → slice_get (map text ms) i ≡ Some name
  has_name name eq = member_at ∙ ap (λ n. Some n) ((same_is (text m) name).0 eq)

  pub has_other : (name : List ℕ) → same (text m) name ≡ false → slice_get (map text ms) i ≡ Some name → ⊥
  has_other name eq h =
      let it : Some (text m) ≡ Some name = sym member_at ∙ h in
      let named : text m ≡ name = cc in
      true≢false (sym ((same_is (text m) name).1 named) ∙ eq)

pub place_among : (ns : List (List ℕ)) (i : ℕ) (n : List ℕ) → slice_get ns i ≡ Some n → IsOneOf ns n
place_among [] i n h = absurd (cc)
place_among (x ∷ ns) zero n h = let it : x ≡ n = cc in inl it
place_among (x ∷ ns) (suc i) n h = inr (place_among ns i n h)

-- where names differ, one stands at one place
one_place : (ns : List (List ℕ)) (i j : ℕ) (n : List ℕ) → AreDistinct ns → slice_get ns i ≡ Some n → slice_get ns j ≡ Some n → i ≡ j
one_place [] i j n h e k = absurd (cc)
one_place (x ∷ ns) zero zero n h e k = refl
one_place (x ∷ ns) zero (suc j) n h e k = let it : x ≡ n = cc in absurd (h.0 (subst (IsOneOf ns) (sym it) (place_among ns j n k)))
one_place (x ∷ ns) (suc i) zero n h e k = let it : x ≡ n = cc in absurd (h.0 (subst (IsOneOf ns) (sym it) (place_among ns i n e)))
one_place (x ∷ ns) (suc i) (suc j) n h e k = ap suc (one_place ns i j n h.1 e k)

-- the member of a name is the only one
pub member_only : (fs : List File) (library type_name name : List ℕ) (p : DeclarationId) (f : File) (d : Declaration) (i : ℕ)
    → IsDeclared fs (joined_name library type_name) p f d → AreDistinct (member_names f d) → slice_get (member_names f d) i ≡ Some name
    → ((q : DeclarationId) (g : File) (e : Declaration) → IsDeclared fs (joined_name library type_name) q g e → q ≡ p)
    → (m : Meaning) → IsMember fs library type_name name m → m ≡ meaning.Member p i
member_only fs library type_name name p f d i declared distinct is only m h =
    let same = only h.id h.file h.declaration h.declared in
    let file = same_file fs (joined_name library type_name) p h.id f h.file d h.declaration declared h.declared same in
    let declaration = same_declaration fs (joined_name library type_name) p h.id f h.file d h.declaration declared h.declared same in
    let there = subst (λ (g : File). slice_get (member_names g d) h.number ≡ Some name) file (subst (λ (e : Declaration). slice_get (member_names h.file e) h.number ≡ Some name) declaration h.name_is) in
    h.means ∙ ap (λ (q : DeclarationId). meaning.Member q h.number) same ∙ ap (meaning.Member p) (one_place (member_names f d) h.number i name distinct there is)

-- where no member has a name, it means none
pub member_none : (fs : List File) (library type_name name : List ℕ) (p : DeclarationId) (f : File) (d : Declaration) → IsDeclared fs (joined_name library type_name) p f d
    → ((q : DeclarationId) (g : File) (e : Declaration) → IsDeclared fs (joined_name library type_name) q g e → q ≡ p) → ((i : ℕ) → slice_get (member_names f d) i ≡ Some name → ⊥)
    → (m : Meaning) → IsMember fs library type_name name m → ⊥
member_none fs library type_name name p f d declared is only m h =
    let same = is h.id h.file h.declaration h.declared in
    let file = same_file fs (joined_name library type_name) p h.id f h.file d h.declaration declared h.declared same in
    let declaration = same_declaration fs (joined_name library type_name) p h.id f h.file d h.declaration declared h.declared same in
    only h.number (subst (λ (g : File). slice_get (member_names g d) h.number ≡ Some name) file (subst (λ (e : Declaration). slice_get (member_names h.file e) h.number ≡ Some name) declaration h.name_is))
