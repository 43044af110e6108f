-- From alias to alias: what a type refers to next is behind what it began with.
use Rattle.std.proofs.Common.{◌≡◌, ◌≤◌, ℕ, List, [], ◌++◌, length, length-append, ap, sym, subst, append_assoc, arith}
use Rattle.std.proofs.lemmas.List.{append-nil}
use Rattle.fidl_tree.specs.Syntax.{TypeUse}
use Rattle.fidl_tree.specs.declared.file.File.{File}
use Rattle.fidl_constraints.specs.Behind.{Head, Given, Core, Target, ends, follows, list_of, constraints_in, RefersTo, LeadsTo, given_in, given_also, Behind}
use Rattle.fidl_constraints.proofs.OneBehind.{one_target, one_behind}

-- a type that was reached from the first, with what was given on the way
pub record IsReached (files : List File) (start : ℕ) (first : TypeUse) (gs : List Given) (at : ℕ) (t : TypeUse) : Type 0 where
  pub from : (c : Core) → Behind files at t c → Behind files start first (given_also gs c)
  pub back : (c : Core) → Behind files start first c → (d : Core) × Behind files at t d

pub reached_first : (files : List File) (start : ℕ) (first : TypeUse) → IsReached files start first [] start first
reached_first files start first = record { from = λ c h. h; back = λ c h. (c, h) }

-- a type that adds no constraints is what it leads to
module _ (files : List File) where
  bare_also : (number : ℕ) (t : TypeUse) (c : Core) → constraints_in t ≡ [] → given_also (given_in number t) c ≡ c
  bare_also number t c bare = ap (λ (l : List Given). given_also l c) (ap (list_of number) bare)

  -- past an alias without constraints
  past : (number : ℕ) (t : TypeUse) (of : ℕ) (next : TypeUse) (c : Core) → RefersTo files number t (follows of next) → constraints_in next ≡ [] → Behind files of next (given_also (given_in of next) c)
      → Behind files number t (given_also (given_in number t) c)
  past number t of next c k bare rest = Behind.an_alias number t of next c k (subst (Behind files of next) (bare_also of next c bare) rest)

  pub leads_end : (number : ℕ) (t : TypeUse) (of : ℕ) (head : Head) → LeadsTo files number t (ends of head) → Behind files number t (record { file = of; head = head; given = given_in number t })
  leads_end _ _ of head (LeadsTo.at_once number t _ k) = Behind.no_alias number t of head k
  leads_end _ _ of head (LeadsTo.by_alias number t at next _ k bare rest) =
      let there = leads_end at next of head rest in
      let bared : Behind files at next (record { file = of; head = head; given = [] }) = subst (λ (l : List Given). Behind files at next (record { file = of; head = head; given = l })) (ap (list_of at) bare) there in
      subst (λ (l : List Given). Behind files number t (record { file = of; head = head; given = l })) (append-nil (given_in number t))
      (Behind.an_alias number t at next (record { file = of; head = head; given = [] }) k bared)

  pub leads_next : (number : ℕ) (t : TypeUse) (of : ℕ) (next : TypeUse) → LeadsTo files number t (follows of next) → (c : Core) → Behind files of next c → Behind files number t (given_also (given_in number t) c)
  leads_next _ _ of next (LeadsTo.at_once number t _ k) c rest = Behind.an_alias number t of next c k rest
  leads_next _ _ of next (LeadsTo.by_alias number t at further _ k bare more) c rest = past number t at further c k bare (leads_next at further of next more c rest)

  refers : (number : ℕ) (t : TypeUse) (d : Core) → Behind files number t d → (x : Target) × RefersTo files number t x
  refers _ _ _ (Behind.no_alias _ _ of head k) = (ends of head, k)
  refers _ _ _ (Behind.an_alias _ _ of next c k rest) = (follows of next, k)

  after : (number : ℕ) (t : TypeUse) (of : ℕ) (next : TypeUse) → RefersTo files number t (follows of next) → (d : Core) → Behind files number t d → (e : Core) × Behind files of next e
  after number t of next k _ (Behind.no_alias _ _ other head also) =
      let is : ends other head ≡ follows of next = one_target files number t (ends other head) (follows of next) also k in
      absurd (cc)
  after number t of next k _ (Behind.an_alias _ _ other further c also rest) =
      let is : follows other further ≡ follows of next = one_target files number t (follows other further) (follows of next) also k in
      let file : other ≡ of = cc in
      let next_is : further ≡ next = cc in
      (c, subst (λ (x : TypeUse). Behind files of x c) next_is (subst (λ (n : ℕ). Behind files n further c) file rest))

  pub leads_after : (number : ℕ) (t : TypeUse) (of : ℕ) (next : TypeUse) → LeadsTo files number t (follows of next) → (d : Core) → Behind files number t d → (e : Core) × Behind files of next e
  leads_after _ _ of next (LeadsTo.at_once number t _ k) d rest = after number t of next k d rest
  leads_after _ _ of next (LeadsTo.by_alias number t at further _ k bare more) d rest =
      let e = after number t at further k d rest in
      leads_after at further of next more e.0 e.1

module _ (files : List File) (start : ℕ) (first : TypeUse) (gs : List Given) (at : ℕ) (t : TypeUse) (h : IsReached files start first gs at t) where
  pub reached_end : (of : ℕ) (head : Head) → LeadsTo files at t (ends of head) → Behind files start first (record { file = of; head = head; given = gs ++ given_in at t })
  reached_end of head k = h.from (record { file = of; head = head; given = given_in at t }) (leads_end files at t of head k)

  pub reached_nothing : ((x : Target) → RefersTo files at t x → ⊥) → (c : Core) → Behind files start first c → ⊥
  reached_nothing none c k = let d = h.back c k in let x = refers files at t d.0 d.1 in none x.0 x.1

  pub reached_next : (of : ℕ) (next : TypeUse) → LeadsTo files at t (follows of next) → IsReached files start first (gs ++ given_in at t) of next
  reached_next of next k = record {
    from = λ c rest.
        let there = h.from (given_also (given_in at t) c) (leads_next files at t of next k c rest) in
        subst (λ (g : List Given). Behind files start first (record { file = c.file; head = c.head; given = g })) (sym (append_assoc gs (given_in at t) c.given)) there;
    back = λ c rest. let d = h.back c rest in leads_after files at t of next k d.0 d.1;
  }

  -- the first is given at least what was given on the way
  pub reached_many : (c : Core) → Behind files start first c → length gs ≤ length c.given
  reached_many c k =
      let d = h.back c k in
      let is : c ≡ given_also gs d.0 = one_behind files start first c (given_also gs d.0) k (h.from d.0 d.1) in
      omega (arith, ap (λ (x : Core). length x.given) is, length-append gs d.0.given)
