-- The components of a name: the last, and those before it.
use Rattle.std.proofs.Common.{◌≡◌, ◌⊎◌, ℕ, ◌+◌, List, [], ◌∷◌, ◌++◌, Option, Some, None, Result, map, take, length, get_or, ap, sym, subst, ◌∙◌, inl, inr, arith, refl}
use Rattle.std.specs.Prelude.{flat_map, codes, IfOk, IfErr}
use Rattle.std.proofs.lemmas.List.{map-append, take_all, take_more}
use Rattle.fidl_span.specs.declared.words.Span.{Span}
use Rattle.fidl_tree.specs.Leaf.{text_at}
use Rattle.fidl_tree.specs.declared.file.File.{File}
use Rattle.fidl_tree.specs.declared.path.Path.{Path}
use Rattle.fidl_tree.specs.declared.path.PathPart.{PathPart}
use Rattle.fidl_named.specs.declared.place.Place.{Place}
use Rattle.fidl_named.specs.declared.meaning.Wanted.{Wanted}
use Rattle.fidl_named.specs.declared.meaning.Wanted.TheVariants as wanted
use Rattle.fidl_named.specs.declared.meaning.Meaning.{Meaning}
use Rattle.fidl_named.specs.declared.meaning.Meaning.TheVariants as meaning
use Rattle.fidl_named.specs.Names.{part_text}
use Rattle.fidl_named.specs.Imports.{path_span}
use Rattle.fidl_named.specs.Meanings.{names_in, dotted, components, IsDeclarationOf, IsMemberOf, IsMemberAfter, IsReading, declaration, member, IsJust, Means, IsTrueOfName, one_of}
use Rattle.fidl_named.proofs.Readings.{just_iff, ok_iff}

no_end : {X : Type 0} (ys : List X) (y : X) → [] ≡ ys ++ y ∷ [] → ⊥
no_end [] y is = absurd (cc)
no_end (z ∷ ys) y is = absurd (cc)

-- lists that end in one element are the same where what stands before is, and the element
record SameEnd {X : Type 0} (xs ys : List X) (x y : X) : Type 0 where
  before : xs ≡ ys
  last : x ≡ y

same_end : {X : Type 0} (xs ys : List X) (x y : X) → xs ++ x ∷ [] ≡ ys ++ y ∷ [] → SameEnd xs ys x y
same_end [] [] x y is = record { before = refl; last = cc }
same_end [] (z ∷ ys) x y is = let it : [] ≡ ys ++ y ∷ [] = cc in absurd (no_end ys y it)
same_end (w ∷ xs) [] x y is = let it : xs ++ x ∷ [] ≡ [] = cc in absurd (no_end xs x (sym it))
same_end (w ∷ xs) (z ∷ ys) x y is =
    let head : w ≡ z = cc in
    let tail : xs ++ x ∷ [] ≡ ys ++ y ∷ [] = cc in
    let r = same_end xs ys x y tail in
    record { before = ap (λ l. w ∷ l) r.before ∙ ap (λ z. z ∷ ys) head; last = r.last }

module _ (f : File) (first : Span) where
  dotted_parts : (ps : List PathPart) → flat_map (λ (d : List ℕ). codes "." ++ d) (map (λ (q : PathPart). text_at f.src.now q.name) ps) ≡ flat_map (part_text f.src.now) ps
  dotted_parts [] = refl
  dotted_parts (p ∷ ps) = ap (λ l. part_text f.src.now p ++ l) (dotted_parts ps)

  pub dotted-names_in : (ps : List PathPart) → text_at f.src.now first ++ flat_map (part_text f.src.now) ps ≡ dotted (names_in f first ps)
  dotted-names_in ps = ap (λ l. text_at f.src.now first ++ l) (sym (dotted_parts ps))

  -- the last of some parts, and those before it
  pub names_in-last : (ps : List PathPart) (i : ℕ) (d : PathPart) → i + 1 ≡ length ps → names_in f first ps ≡ names_in f first (take i ps) ++ text_at f.src.now (get_or ps i d).name ∷ []
  names_in-last ps i d long =
      let parts : ps ≡ take i ps ++ get_or ps i d ∷ [] = sym (take_all (i + 1) ps (omega arith)) ∙ take_more ps i d (omega arith) in
      ap (names_in f first) parts ∙ ap (λ l. text_at f.src.now first ∷ l) (map-append (λ (q : PathPart). text_at f.src.now q.name) (take i ps) (get_or ps i d ∷ []))

module _ (fs : List File) (f : File) (front : List (List ℕ)) (t n : List ℕ) where
  pub just_after : {E : Type 0} (r : Result (Option Meaning) E) → IfOk r (IsJust (IsMemberOf fs f front t n)) → IfOk r (IsJust (IsMemberAfter fs f (front ++ t ∷ []) n))
  just_after = ok_iff (IsMemberOf fs f front t n) (IsMemberAfter fs f (front ++ t ∷ []) n)
      (λ m h. record { front = front; type_name = t; before_is = refl; member = h })
      (λ m h. let r = same_end front h.front t h.type_name h.before_is in
      subst (λ (u : List ℕ). IsMemberOf fs f front u n m) (sym r.last) (subst (λ (g : List (List ℕ)). IsMemberOf fs f g h.type_name n m) (sym r.before) h.member))

module _ (fs : List File) (f : File) (kind : Wanted) (front : List (List ℕ)) (n : List ℕ) where
  -- a member, where a value is wanted
  pub record IsValue (m : Meaning) : Type 0 where
    pub wants : kind ≡ wanted.Value
    pub member : IsMemberAfter fs f front n m

  declared_means : (g : List (List ℕ)) (m : Meaning) → IsDeclarationOf fs f kind g n m → (p : _) (i : ℕ) → m ≡ meaning.Member p i → ⊥
  declared_means [] m (inl h) p i is = let means = h.means in absurd (cc)
  declared_means [] m (inr h) p i is = let means = h.means in absurd (cc)
  declared_means (c ∷ cs) m h p i is = let means = h.own.means in absurd (cc)

  apart : (g : List (List ℕ)) (t : List ℕ) (m : Meaning) → IsDeclarationOf fs f kind front n m → IsMemberOf fs f g t n m → ⊥
  apart [] t m d h = declared_means front m d h.id h.number h.means
  apart (c ∷ cs) t m d h = declared_means front m d h.member.id h.member.number h.member.means

  module _ (name : List (List ℕ)) (is : name ≡ front ++ n ∷ []) where
    reading_of : (m : Meaning) → IsReading fs f kind name m → IsDeclarationOf fs f kind front n m ⊎ IsValue m
    reading_of m (declaration g k at h) =
        let r = same_end front g n k (sym is ∙ at) in
        inl (subst (λ (u : List ℕ). IsDeclarationOf fs f kind front u m) (sym r.last) (subst (λ (g : List (List ℕ)). IsDeclarationOf fs f kind g k m) (sym r.before) h))
    reading_of m (member g k at value h) =
        let r = same_end front g n k (sym is ∙ at) in
        inr (record { wants = value; member = subst (λ (u : List ℕ). IsMemberAfter fs f front u m) (sym r.last) (subst (λ (g : List (List ℕ)). IsMemberAfter fs f g k m) (sym r.before) h) })

pub no_items : {X : Type 0} (xs : List X) → length xs ≡ 0 → xs ≡ []
no_items [] is = refl
no_items (x ∷ xs) is = absurd (omega arith)

-- what at most two readings give: a declaration by the last component and those before it, and a member
module _ (fs : List File) (f : File) (kind : Wanted) (front : List (List ℕ)) (n : List ℕ) (name : List (List ℕ)) (is : name ≡ front ++ n ∷ []) where
  abbrev P : Meaning → Type 0
  P = IsDeclarationOf fs f kind front n

  abbrev Q : Meaning → Type 0
  Q = IsValue fs f kind front n

  of_declaration : (m : Meaning) → P m → IsReading fs f kind name m
  of_declaration m h = declaration front n is h

  of_member : (m : Meaning) → Q m → IsReading fs f kind name m
  of_member m h = member front n is h.wants h.member

  differ : (m : Meaning) → P m → Q m → ⊥
  differ m p q = apart fs f kind front n q.member.front q.member.type_name m p q.member.member

  pub read_ok : (a b : Option Meaning) → IsJust P a → IsJust Q b → (place : Place) → IfOk (one_of a b place) (Means fs f kind name)
  read_ok None None pa qb place = tt
  read_ok (Some m) None pa qb place = (of_declaration m pa.0, only)
    where
      only : (y : Meaning) → IsReading fs f kind name y → y ≡ m
      only y h = elim (reading_of fs f kind front n name is y h) [ inl p ↦ pa.1 y p | inr q ↦ absurd (qb y q) ]
  read_ok None (Some m) pa qb place = (of_member m qb.0, only)
    where
      only : (y : Meaning) → IsReading fs f kind name y → y ≡ m
      only y h = elim (reading_of fs f kind front n name is y h) [ inl p ↦ absurd (pa y p) | inr q ↦ qb.1 y q ]
  read_ok (Some m) (Some o) pa qb place = tt

module _ (fs : List File) (f : File) (kind : Wanted) (front : List (List ℕ)) (n : List ℕ) (number : ℕ) (path : Path) (is : components f.src.now path ≡ front ++ n ∷ []) where
  abbrev name_of : List (List ℕ)
  name_of = components f.src.now path

  pub read_reported : (a b : Option Meaning) → IsJust (IsDeclarationOf fs f kind front n) a → IsJust (IsValue fs f kind front n) b → (place : Place) → place ≡ record { file = number; span = path_span path } → IfErr (one_of a b place) (IsTrueOfName fs f number kind path)
  read_reported None None pa qb place at = (nothing, at)
    where
      nothing : (y : Meaning) → IsReading fs f kind name_of y → ⊥
      nothing y h = elim (reading_of fs f kind front n name_of is y h) [ inl p ↦ pa y p | inr q ↦ qb y q ]
  read_reported (Some m) None pa qb place at = tt
  read_reported None (Some m) pa qb place at = tt
  read_reported (Some m) (Some o) pa qb place at = (
    record {
      one = m;
      other = o;
      differ = λ same. apart fs f kind front n qb.0.member.front qb.0.member.type_name o (subst (IsDeclarationOf fs f kind front n) same pa.0) qb.0.member.member;
      first = declaration front n is pa.0;
      second = member front n is qb.0.wants qb.0.member;
    },
    at,
  )

-- no member is meant by one component, nor where no value is wanted
pub no_member_alone : (fs : List File) (f : File) (kind : Wanted) (n : List ℕ) → IsJust (IsValue fs f kind [] n) None
no_member_alone fs f kind n m h = no_end h.member.front h.member.type_name h.member.before_is

pub no_value : (fs : List File) (f : File) (kind : Wanted) (front : List (List ℕ)) (n : List ℕ) → (kind ≡ wanted.Value → ⊥) → IsJust (IsValue fs f kind front n) None
no_value fs f kind front n other m h = other h.wants

pub just_value : (fs : List File) (f : File) (kind : Wanted) (front : List (List ℕ)) (n : List ℕ) → kind ≡ wanted.Value → (o : Option Meaning) → IsJust (IsMemberAfter fs f front n) o → IsJust (IsValue fs f kind front n) o
just_value fs f kind front n is = just_iff (IsMemberAfter fs f front n) (IsValue fs f kind front n) (λ m h. record { wants = is; member = h }) (λ m h. h.member)
