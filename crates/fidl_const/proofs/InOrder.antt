-- A table that is filled in an order, one declaration or member at a time.
use Rattle.std.proofs.Common.{◌≡◌, ◌⊎◌, ◌<◌, ◌≤◌, ◌+◌, ℕ, zero, suc, List, Some, None, length, take, get_or, replicate, inl, inr, refl, ap, sym, subst, ◌∙◌}
use Rattle.std.specs.Prelude.{slice_get}
use Rattle.std.specs.List.{Contains}
use Rattle.std.specs.Global.{Vec}
use Rattle.std.proofs.lemmas.List.{length-replicate, take_all, take_more}
use Rattle.std.proofs.lemmas.List.Elements.{Contains-push_cases}
use Rattle.std.proofs.lemmas.Option.{none-some, same_Some, slice_get-get_or, slice_get_read, slice_get_within}
use Rattle.fidl_tree.specs.declared.file.File.{File}
use Rattle.fidl_tree.specs.declared.declaration.ConstDeclaration.{ConstDeclaration}
use Rattle.fidl_named.specs.declared.place.DeclarationId.{DeclarationId}
use Rattle.fidl_named.specs.declared.meaning.Meaning.{Meaning}
use Rattle.fidl_named.specs.declared.meaning.Meaning.TheVariants as meaning
use Rattle.fidl_consts.specs.declared.consts.Consts.{Consts}
use Rattle.fidl_consts.specs.Types.{IsConstAt}
use Rattle.fidl_consts.specs.Dependencies.{IsKnownNode, IsNode}
use Rattle.fidl_consts.specs.Evaluated.{ConstantHolds}
use Rattle.fidl_consts.specs.Tables.{number_of, AreConsts, AreTrue, IsDone}
use Rattle.fidl_const.specs.Columns.{AreNumbered, Extends, HasRoom, IsNodeOrder, UsesSettled}

nothing_at : {X : Type 0} (n k : ℕ) (x : X) → get_or (replicate n None) k None ≡ Some x → ⊥
nothing_at zero k x is = none-some x is
nothing_at (suc n) zero x is = none-some x is
nothing_at (suc n) (suc k) x is = nothing_at n k x is

-- a table without anything
module _ (fs : List File) (nodes : List Meaning) (c : Consts) (values : c.values.items ≡ replicate (length nodes) None) (limits : c.limits.items ≡ replicate (length nodes) None) where
  pub true_empty : AreTrue fs c
  true_empty = record {
    values = λ m e known is. absurd (nothing_at (length nodes) _ e (sym (ap (λ l. get_or l (number_of c.starts.items m) None) values) ∙ is));
    limits = λ p f a l at is. absurd (nothing_at (length nodes) _ l (sym (ap (λ x. get_or x (number_of c.starts.items (meaning.Declared p)) None) limits) ∙ is));
  }

  pub room_empty : AreNumbered fs nodes c.starts.items → HasRoom fs nodes c
  room_empty numbered = record {
    numbered = numbered;
    values = ap length values ∙ length-replicate (length nodes) None;
    limits = ap length limits ∙ length-replicate (length nodes) None;
  }

-- all is done of those whose numbers these are
abbrev pub AreDone : List File → List Meaning → Consts → List ℕ → Type 0
AreDone fs nodes c placed = (t : ℕ) (m : Meaning) → Contains placed t → slice_get nodes t ≡ Some m → IsDone fs c m

-- and the constants among them hold
abbrev pub AllHold : List File → List Meaning → List ℕ → Type 0
AllHold fs nodes placed = (t : ℕ) (p : DeclarationId) (f : File) (c : ConstDeclaration) → Contains placed t → slice_get nodes t ≡ Some (meaning.Declared p) → IsConstAt fs p f c → ConstantHolds fs p f c

const_known : (fs : List File) (p : DeclarationId) (f : File) (c : ConstDeclaration) → IsConstAt fs p f c → IsKnownNode fs (meaning.Declared p)
const_known fs p f c h = record { file = f; place = _; is = IsNode.declaration p f h.declaration h.at }

pub room_kept : (fs : List File) (nodes : List Meaning) (old new : Consts) → HasRoom fs nodes old → Extends fs old new → HasRoom fs nodes new
room_kept fs nodes old new room more = record {
  numbered = subst (λ (s : Vec (Vec ℕ)). AreNumbered fs nodes s.items) (sym more.starts) room.numbered;
  values = more.values ∙ room.values;
  limits = more.limits ∙ room.limits;
}

-- the one whose number comes next
module _ (fs : List File) (nodes : List Meaning) (order : List ℕ) (placed : IsNodeOrder fs nodes order) (i : ℕ) (lt : i < length order) where
  pub next_within : get_or order i 0 < length nodes
  next_within = placed.within i (get_or order i 0) (slice_get-get_or order i 0 lt)

  pub next_at : (one : Meaning) → one ≡ get_or nodes (get_or order i 0) one → slice_get nodes (get_or order i 0) ≡ Some one
  next_at one is = slice_get_read nodes (length nodes) (get_or order i 0) one refl next_within is

  pub next_settled : (c : Consts) (one : Meaning) → slice_get nodes (get_or order i 0) ≡ Some one → AreDone fs nodes c (take i order) → UsesSettled fs c one
  next_settled c one at done = λ other hangs.
      let before = placed.after i (get_or order i 0) one other (slice_get-get_or order i 0 lt) at hangs in
      done before.0 other before.1.0 before.1.1

  either_place : (t : ℕ) → Contains (take (i + 1) order) t → Contains (take i order) t ⊎ (get_or order i 0 ≡ t)
  either_place t h = Contains-push_cases (take i order) (get_or order i 0) t (subst (λ l. Contains l t) (take_more order i 0 lt) h)

  same_node : (one m : Meaning) (t : ℕ) → slice_get nodes (get_or order i 0) ≡ Some one → get_or order i 0 ≡ t → slice_get nodes t ≡ Some m → one ≡ m
  same_node one m t at is there = same_Some one m (sym at ∙ ap (slice_get nodes) is ∙ there)

  pub done_more : (old new : Consts) (one : Meaning) → AreNumbered fs nodes old.starts.items → slice_get nodes (get_or order i 0) ≡ Some one → Extends fs old new → IsDone fs new one → AreDone fs nodes old (take i order)
      → AreDone fs nodes new (take (i + 1) order)
  done_more old new one numbered at more last done t m h there = either (either_place t h)
    where
      either : Contains (take i order) t ⊎ (get_or order i 0 ≡ t) → IsDone fs new m
      either (inl before) = more.kept m (numbered.node t m there) (done t m before there)
      either (inr is) = subst (IsDone fs new) (same_node one m t at is there) last

  pub holds_more : (one : Meaning) → slice_get nodes (get_or order i 0) ≡ Some one → ((p : DeclarationId) (f : File) (c : ConstDeclaration) → one ≡ meaning.Declared p → IsConstAt fs p f c → ConstantHolds fs p f c) → AllHold fs nodes (take i order)
      → AllHold fs nodes (take (i + 1) order)
  holds_more one at last holds t p f c h there const = either (either_place t h)
    where
      either : Contains (take i order) t ⊎ (get_or order i 0 ≡ t) → ConstantHolds fs p f c
      either (inl before) = holds t p f c before there const
      either (inr is) = last p f c (same_node one (meaning.Declared p) t at is there) const

-- where all numbers have come
module _ (fs : List File) (nodes : List Meaning) (order : List ℕ) (placed : IsNodeOrder fs nodes order) (i : ℕ) (past : length order ≤ i) (ss : List (Vec ℕ)) (numbered : AreNumbered fs nodes ss) where
  all_placed : (m : Meaning) → IsKnownNode fs m → Contains (take i order) (number_of ss m)
  all_placed m known =
      let within = slice_get_within nodes (number_of ss m) m (numbered.numbered m known) in
      subst (λ l. Contains l (number_of ss m)) (sym (take_all i order past)) (placed.whole (number_of ss m) within)

  pub all_done : (c : Consts) → AreTrue fs c → AreDone fs nodes c (take i order) → AreConsts fs c
  all_done c known done = record {
    are_true = known;
    all = λ m node. done (number_of ss m) m (all_placed m node) (numbered.numbered m node);
  }

  pub all_hold : AllHold fs nodes (take i order) → (p : DeclarationId) (f : File) (c : ConstDeclaration) → IsConstAt fs p f c → ConstantHolds fs p f c
  all_hold holds p f c at =
      let node = const_known fs p f c at in
      holds (number_of ss (meaning.Declared p)) p f c (all_placed (meaning.Declared p) node) (numbered.numbered (meaning.Declared p) node) at
