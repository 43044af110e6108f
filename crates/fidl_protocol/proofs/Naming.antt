-- The names of the methods of a protocol, and texts in a set.
use Rattle.std.proofs.Common.{◌≡◌, ◌∙◌, ◌+◌, ◌<◌, ℕ, zero, suc, Bool, true, false, not, ◌||◌, List, [], ◌∷◌, ◌++◌, Option, Some, map, take, length, get_or, nat_eq, refl, ap, sym, subst, inl, inr, arith, true≢false}
use Rattle.std.specs.Prelude.{slice_get}
use Rattle.std.specs.Bool.{Decides, if◌then◌else◌}
use Rattle.std.specs.Global.{Vec}
use Rattle.std.specs.List.{Contains, list_any}
use Rattle.std.specs.Option.{option_map_or}
use Rattle.std.specs.Cmp.Lexicographic.{pointwise}
use Rattle.std.proofs.lemmas.Slice.Eq.{slice_eq-Decides}
use Rattle.std.proofs.lemmas.Bool.Decides.{Decides-eqb}
use Rattle.std.proofs.lemmas.List.{map-append, get_or-take, length-take}
use Rattle.std.proofs.lemmas.Option.{same_Some, none-some, slice_get_within, slice_get-get_or}
use Rattle.fidl_tree.specs.Leaf.{text_at}
use Rattle.fidl_tree.specs.declared.file.File.{File}
use Rattle.fidl_named.specs.declared.place.DeclarationId.{DeclarationId}
use Rattle.fidl_cycles.proofs.Lists.{take_item}
use Rattle.fidl_composition.proofs.Lists.{among, here, there, nothing_there, first_or_rest, map_there, pairs_push}
use Rattle.fidl_payloads.specs.declared.payload.Payload.TheVariants.{Missing}
use Rattle.fidl_protocol.specs.declared.method.Method.{Method}
use Rattle.fidl_protocol.specs.Methods.{IsDeclared, IsNamed, HaveOneName}
use Rattle.fidl_protocol.specs.Gathered.{AreGathered, ArePair, name_text, NamesDiffer}
use Rattle.fidl_protocol.proofs.Lists.{front_before, front_there, item_there}

-- the default of a place in a list of methods
abbrev pub no_method : Method
no_method = record {
  protocol = record { file = 0; index = 0 };
  own = record { member = 0; name = record { from = 0; to = 0 }; is_strict = false; ordinal = 0 };
  payloads = record { request = Missing; response = Missing };
}

-- the test of the set
abbrev pub same_text : List ℕ → Vec ℕ → Bool
same_text text key = pointwise nat_eq text key.items

text_test : (text : List ℕ) (key : Vec ℕ) → Decides (same_text text key) (text ≡ key.items)
text_test text key = slice_eq-Decides Decides-eqb text key.items (same_text text key) refl

abbrev pub texts_of : List (Vec ℕ) → List (List ℕ)
texts_of keys = map (λ (v : Vec ℕ). v.items) keys

among_keys : (text : List ℕ) (keys : List (Vec ℕ)) → Decides (list_any (same_text text) keys) (Contains (texts_of keys) text)
among_keys text [] = ((λ e. absurd (true≢false (sym e))), λ h. absurd (nothing_there text h))
among_keys text (key ∷ keys) = tested (among_keys text keys) (same_text text key) refl
  where
    found : Decides (list_any (same_text text) keys) (Contains (texts_of keys) text) → Contains (texts_of (key ∷ keys)) text → same_text text key ≡ false → list_any (same_text text) keys ≡ true
    found rest h other = elim (first_or_rest key.items (texts_of keys) text h) [
      | inl is ↦ absurd (true≢false (sym ((text_test text key).1 (sym is)) ∙ other))
      | inr later ↦ rest.1 later
    ]

    tested : Decides (list_any (same_text text) keys) (Contains (texts_of keys) text) → (b : Bool) → same_text text key ≡ b → Decides (b || list_any (same_text text) keys) (Contains (texts_of (key ∷ keys)) text)
    tested rest true is = ((λ _. subst (λ x. Contains (x ∷ texts_of keys) text) ((text_test text key).0 is) (here text (texts_of keys))), λ _. refl)
    tested rest false other = ((λ e. there key.items (texts_of keys) text (rest.0 e)), λ h. found rest h other)

not_new : (b : Bool) → false ≡ not b → b ≡ true
not_new true e = refl
not_new false e = absurd (true≢false (sym e))

is_new : (b : Bool) → true ≡ not b → b ≡ false
is_new true e = absurd (true≢false e)
is_new false e = refl

-- the keys of a set that has a text stay
pub kept_keys : (keys new : List (Vec ℕ)) (name : Vec ℕ) → new ≡ (if list_any (same_text name.items) keys then keys else (keys ++ name ∷ [])) → false ≡ not (list_any (same_text name.items) keys) → new ≡ keys
kept_keys keys new name inserted old = inserted ∙ ap (λ b. if b then keys else (keys ++ name ∷ [])) (not_new (list_any (same_text name.items) keys) old)

-- what stands at a place of a list, and of the list of what a function gives of each
pub seen_at : {X Y : Type 0} (g : X → Y) (xs : List X) (k : ℕ) (x : X) → slice_get xs k ≡ Some x → slice_get (map g xs) k ≡ Some (g x)
seen_at g [] k x at = absurd (none-some x at)
seen_at g (y ∷ ys) zero x at = ap (λ z. Some (g z)) (same_Some y x at)
seen_at g (y ∷ ys) (suc k) x at = seen_at g ys k x at

seen_back : {X Y : Type 0} (g : X → Y) (xs : List X) (k : ℕ) (y : Y) → slice_get (map g xs) k ≡ Some y → (x : X) × ((slice_get xs k ≡ Some x) × (g x ≡ y))
seen_back g [] k y at = absurd (none-some y at)
seen_back g (x ∷ xs) zero y at = (x, (refl, same_Some (g x) y at))
seen_back g (x ∷ xs) (suc k) y at = seen_back g xs k y at

module _ (files : List File) where
  pub named : (m : Method) → IsDeclared files m → IsNamed files m (name_text files m)
  named m h = record {
    file = h.file;
    at = h.at.at.file_at;
    is = ap (λ (o : Option File). option_map_or (λ (f : File). text_at f.src.now m.own.name) o []) h.at.at.file_at;
  }

  pub its_name : (m : Method) (name : List ℕ) → IsNamed files m name → name_text files m ≡ name
  its_name m name h = ap (λ (o : Option File). option_map_or (λ (f : File). text_at f.src.now m.own.name) o []) h.at ∙ sym h.is

  pub name_of_it : (m : Method) (f : File) → slice_get files m.protocol.file ≡ Some f → name_text files m ≡ text_at f.src.now m.own.name
  name_of_it m f at = ap (λ (o : Option File). option_map_or (λ (g : File). text_at g.src.now m.own.name) o []) at

  -- the names of methods, in a set
  module _ (ms : List Method) (i : ℕ) (m : Method) (lt : i < length ms) (is : m ≡ get_or ms i m) (keys : List (Vec ℕ)) (same : texts_of keys ≡ map (name_text files) (take i ms)) (name : Vec ℕ) (name_is : name.items ≡ name_text files m) where
    -- a name that is there is that of the method before at the name's place
    module _ (place : ℕ) (key : Vec ℕ) (at : slice_get keys place ≡ Some key) (equal : same_text name.items key ≡ true) where
      earlier : (x : Method) × ((slice_get (take i ms) place ≡ Some x) × (name_text files x ≡ name_text files m))
      earlier =
          let there : slice_get (map (name_text files) (take i ms)) place ≡ Some key.items = ap (λ (l : List (List ℕ)). slice_get l place) (sym same) ∙ seen_at (λ (v : Vec ℕ). v.items) keys place key at in
          let back = seen_back (name_text files) (take i ms) place key.items there in
          (back.0, (back.1.0, back.1.1 ∙ sym ((text_test name.items key).0 equal) ∙ name_is))

      before : place < i
      before =
          let within = slice_get_within (take i ms) place earlier.0 earlier.1.0 in
          omega (arith, within, length-take i ms)

      pub place_within : place < length ms
      place_within = omega (arith, before, lt)

      one_is : get_or ms place m ≡ earlier.0
      one_is = sym (get_or-take i ms place m before) ∙ same_Some (get_or (take i ms) place m) earlier.0 (sym (slice_get-get_or (take i ms) place m (slice_get_within (take i ms) place earlier.0 earlier.1.0)) ∙ earlier.1.0)

      module _ (one : Method) (here_is : one ≡ get_or ms place m) where
        one_among : Contains (take i ms) one
        one_among = subst (Contains (take i ms)) (sym (here_is ∙ one_is)) (among (take i ms) place earlier.0 earlier.1.0)

        pub old_pair : (p : DeclarationId) → AreGathered files p ms → ArePair files p (record { one = one; other = m })
        old_pair p g = record {
          has_one = g.sound one (front_there ms i one one_among);
          has_other = g.sound m (item_there ms i m lt is);
          differ = front_before (λ x y. x ≡ y → ⊥) ms i m lt is g.once one one_among;
        }

        pub old_name : (p : DeclarationId) → AreGathered files p ms → HaveOneName files one m
        old_name p g =
            let pair = old_pair p g in
            let name_one : name_text files one ≡ name_text files m = ap (name_text files) (here_is ∙ one_is) ∙ earlier.1.1 in
            record { name = name_text files m; one_is = subst (IsNamed files one) name_one (named one pair.has_one.declared); other_is = named m pair.has_other.declared }

    module _ (new : List (Vec ℕ)) (inserted : new ≡ (if list_any (same_text name.items) keys then keys else (keys ++ name ∷ []))) (fresh : true ≡ not (list_any (same_text name.items) keys)) where
      lacks : list_any (same_text name.items) keys ≡ false
      lacks = is_new (list_any (same_text name.items) keys) fresh

      pub names_more : texts_of new ≡ map (name_text files) (take (i + 1) ms)
      names_more =
          ap texts_of (inserted ∙ ap (λ b. if b then keys else (keys ++ name ∷ [])) lacks)
          ∙ map-append (λ (v : Vec ℕ). v.items) keys (name ∷ [])
          ∙ ap (λ l. l ++ name.items ∷ []) same
          ∙ ap (λ t. map (name_text files) (take i ms) ++ t ∷ []) name_is
          ∙ sym (map-append (name_text files) (take i ms) (m ∷ []))
          ∙ ap (map (name_text files)) (sym (take_item ms i m lt is))

      unlike : (x : Method) → Contains (take i ms) x → name_text files x ≡ name_text files m → ⊥
      unlike x c e =
          let among : Contains (texts_of keys) name.items = subst (Contains (texts_of keys)) (sym name_is) (subst (λ l. Contains l (name_text files m)) (sym same) (subst (Contains (map (name_text files) (take i ms))) e (map_there (name_text files) (take i ms) x c))) in
          true≢false (sym ((among_keys name.items keys).1 among) ∙ lacks)

      pub differ_more : NamesDiffer files (take i ms) → NamesDiffer files (take (i + 1) ms)
      differ_more h = subst (NamesDiffer files) (sym (take_item ms i m lt is)) (pairs_push (λ x y. name_text files x ≡ name_text files y → ⊥) (take i ms) m h unlike)
