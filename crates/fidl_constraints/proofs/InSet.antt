-- The lists of constraints of a type, and the constraints in them, stand in the files.
use Rattle.std.proofs.Common.{◌≡◌, ◌<◌, ℕ, zero, suc, List, [], ◌∷◌, ◌++◌, Option, Some, length, map, refl, ap, sym, subst, ◌∙◌}
use Rattle.std.specs.Prelude.{slice_get, option_copied}
use Rattle.std.proofs.lemmas.Option.{same_Some, none-some, slice_get_within}
use Rattle.std.proofs.lemmas.List.{append-nil}
use Rattle.std.proofs.lemmas.Grind.{flat_map-append}
use Rattle.fidl_tree.specs.Syntax.{TypeUse, Arguments, Value, Body, const_body, alias_body, type_body, protocol_body, service_body, resource_body}
use Rattle.fidl_tree.specs.Views.{declared_view}
use Rattle.fidl_tree.specs.declared.file.File.{File}
use Rattle.fidl_named.specs.declared.place.DeclarationId.{DeclarationId}
use Rattle.fidl_named.specs.declared.meaning.Meaning.{Meaning}
use Rattle.fidl_named.specs.declared.meaning.Meaning.TheVariants as meaning
use Rattle.fidl_tree.specs.Views.{constraints_view}
use Rattle.fidl_tree.specs.declared.constraint.Constraints.{Constraints}
use Rattle.fidl_tree.specs.declared.constraint.Constraints.TheVariants.{Single, List as Several}
use Rattle.fidl_constraints.specs.declared.heads.Given.{Given as CodeGiven}
use Rattle.fidl_constraints.specs.BehindViews.{given_view, lists_view}
use Rattle.fidl_constraints.specs.Behind.{Given, Core, Target, ends, follows, list_of, body_target, constraints_in, given_in, MeaningRefersTo, RefersTo, Behind}
use Rattle.fidl_constraints.specs.Items.{Item, is_word, next_rank, items_from, items_of, all_items}
use Rattle.fidl_constraints.specs.ItemViews.{AreInSet, ItemsInSet}

abbrev target_file : Target → ℕ
target_file (ends number head) = number
target_file (follows number next) = number

body_file : (p : DeclarationId) (b : Body) (x : Target) → body_target p b ≡ Some x → target_file x ≡ p.file
body_file p (alias_body t) x is = ap target_file (sym (same_Some _ x is))
body_file p (type_body attributes l) x is = ap target_file (sym (same_Some _ x is))
body_file p (resource_body t ms) x is = ap target_file (sym (same_Some _ x is))
body_file p (const_body t v) x is = absurd (none-some x is)
body_file p (protocol_body o ms) x is = absurd (none-some x is)
body_file p (service_body ms) x is = absurd (none-some x is)

module _ (files : List File) where
  meant_within : (number : ℕ) (arguments : Arguments) (m : Meaning) (x : Target) → number < length files → MeaningRefersTo files number arguments m x → target_file x < length files
  meant_within number _ (meaning.Predeclared w) x lt is = subst (λ n. n < length files) (sym (ap target_file is)) lt
  meant_within number _ (meaning.Declared p) x lt at =
      let is : target_file x ≡ p.file = body_file p (declared_view at.declaration.body) x at.is in
      subst (λ n. n < length files) (sym is) (slice_get_within files p.file at.file at.at.file_at)
  meant_within number _ (meaning.Member p n) x lt at = absurd at
  meant_within number _ (meaning.PropertyMember p n i) x lt at = absurd at

  pub target_within : (number : ℕ) (t : TypeUse) (x : Target) → number < length files → RefersTo files number t x → target_file x < length files
  target_within number _ _ lt (RefersTo.by_layout attributes l cs) = lt
  target_within number _ x lt (RefersTo.by_name path written cs m _ h at) = meant_within number written m x lt at

  list_within : (number : ℕ) (vs : List Value) → number < length files → AreInSet files (list_of number vs)
  list_within number [] lt = tt
  list_within number (v ∷ vs) lt = (lt, tt)

  lists_append : (xs ys : List Given) → AreInSet files xs → AreInSet files ys → AreInSet files (xs ++ ys)
  lists_append [] ys h k = k
  lists_append (x ∷ xs) ys h k = (h.0, lists_append xs ys h.1 k)

  lists_first : (xs ys : List Given) → AreInSet files (xs ++ ys) → AreInSet files xs
  lists_first [] ys h = tt
  lists_first (x ∷ xs) ys h = (h.0, lists_first xs ys h.1)

  lists_rest : (xs ys : List Given) → AreInSet files (xs ++ ys) → AreInSet files ys
  lists_rest [] ys h = h
  lists_rest (x ∷ xs) ys h = lists_rest xs ys h.1

  -- where the lists of the code stand in the files, so does each
  pub each_list : (gs : List CodeGiven) (i : ℕ) (g : CodeGiven) → AreInSet files (lists_view gs) → slice_get gs i ≡ Some g
      → AreInSet files (list_of g.file_index (constraints_view (option_copied g.constraints)))
  each_list [] i g h at = absurd (none-some g at)
  each_list (x ∷ gs) zero g h at =
      subst (λ (y : CodeGiven). AreInSet files (list_of y.file_index (constraints_view (option_copied y.constraints)))) (same_Some x g at)
      (lists_first (list_of x.file_index (constraints_view (option_copied x.constraints))) (lists_view gs) h)
  each_list (x ∷ gs) (suc i) g h at = each_list gs i g (lists_rest (list_of x.file_index (constraints_view (option_copied x.constraints))) (lists_view gs) h) at

  -- constraints that are written are some
  pub some_within : (number : ℕ) (cs : Constraints) → AreInSet files (list_of number (constraints_view (Some cs))) → number < length files
  some_within number (Single colon value) h = h.0
  some_within number (Several colon less first rest greater) h = h.0

  pub lists_within : (number : ℕ) (t : TypeUse) (c : Core) → number < length files → Behind files number t c → AreInSet files c.given
  lists_within _ _ _ lt (Behind.no_alias number t of head h) = list_within number (constraints_in t) lt
  lists_within _ _ _ lt (Behind.an_alias number t of next c h rest) =
      lists_append (given_in number t) c.given (list_within number (constraints_in t) lt) (lists_within of next c (target_within number t (follows of next) lt h) rest)

  -- so does its head
  pub head_within : (number : ℕ) (t : TypeUse) (c : Core) → number < length files → Behind files number t c → c.file < length files
  head_within _ _ _ lt (Behind.no_alias number t of head h) = target_within number t (ends of head) lt h
  head_within _ _ _ lt (Behind.an_alias number t of next c h rest) = head_within of next c (target_within number t (follows of next) lt h) rest

  from_within : (f : Option File) (number rank : ℕ) (vs : List Value) → number < length files → ItemsInSet files (items_from f number rank vs)
  from_within f number rank [] lt = tt
  from_within f number rank (v ∷ vs) lt = (lt, from_within f number (next_rank (is_word f v) rank) vs lt)

  all_append : (xs ys : List Item) → ItemsInSet files xs → ItemsInSet files ys → ItemsInSet files (xs ++ ys)
  all_append [] ys h k = k
  all_append (x ∷ xs) ys h k = (h.0, all_append xs ys h.1 k)

  pub items_within : (lists : List Given) → AreInSet files lists → ItemsInSet files (all_items files lists)
  items_within [] h = tt
  items_within (g ∷ gs) h = all_append (items_of files g) (all_items files gs) (from_within (slice_get files g.file) g.file 0 g.values h.0) (items_within gs h.1)

-- lists without constraints have none
module _ (files : List File) where
  one_listed : (number : ℕ) (vs : List Value) → all_items files (list_of number vs) ≡ items_of files (record { file = number; values = vs })
  one_listed number [] = refl
  one_listed number (v ∷ vs) = append-nil (items_of files (record { file = number; values = v ∷ vs }))

  pub items_listed : (gs : List CodeGiven) → all_items files (lists_view gs) ≡ all_items files (map given_view gs)
  items_listed [] = refl
  items_listed (g ∷ gs) =
      let own = list_of g.file_index (constraints_view (option_copied g.constraints)) in
      flat_map-append (items_of files) own (lists_view gs) ∙ (ap (λ l. l ++ all_items files (lists_view gs)) (one_listed g.file_index (constraints_view (option_copied g.constraints)))
      ∙ ap (λ l. items_of files (given_view g) ++ l) (items_listed gs))
