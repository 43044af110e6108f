-- How many steps are counted where no struct is wrong.
use Rattle.std.proofs.Common.{◌≡◌, ℕ, ◌+◌, ◌-◌, ◌*◌, ◌≤◌, sym, ap, subst, ◌∙◌, arith, refl}
use Rattle.std.specs.Prelude.{Option, Some, None, IfNone}
use Rattle.fidl_decode_columns.specs.declared.column.Wrong.{Wrong}
use Rattle.fidl_decode_columns.specs.Columns.{right_before, first_of}

none_first : (known found : Option Wrong) → IfNone (first_of known found) (known ≡ None)
none_first None None = refl
none_first None (Some w) = tt
none_first (Some k) None = tt
none_first (Some k) (Some w) = tt

-- none was known before
pub none_known : (known found answer : Option Wrong) → answer ≡ first_of known found → IfNone answer (known ≡ None)
none_known known found answer is = subst (λ (o : Option Wrong). IfNone o (known ≡ None)) (sym is) (none_first known found)

-- then each is looked at
pub all_counted : (n limit old new : ℕ) (known : Option Wrong) → limit ≡ right_before n known → known ≡ None → old + limit ≤ new → old + n ≤ new
all_counted n limit old new known is none le = let all : limit ≡ n = is ∙ ap (λ (o : Option Wrong). right_before n o) none in omega (arith, le, all)

-- what holds where a part is not wrong either
pub where_none : {P Q R : Type 0} (part answer : Option Wrong) → IfNone answer (part ≡ None) → IfNone answer Q → IfNone part P → (part ≡ None → P → Q → R) → IfNone answer R
where_none {P} part None none q p f = f none (subst (λ (o : Option Wrong). IfNone o P) none p) q
where_none part (Some w) none q p f = tt

pub if_none : {P Q : Type 0} (o : Option Wrong) → (P → Q) → IfNone o P → IfNone o Q
if_none None f p = f p
if_none (Some w) f p = tt

-- one row more of each
pub next_counted : (n row old mid new : ℕ) → old + n * row ≤ mid → mid + n ≤ new → old + n * (row + 1) ≤ new
next_counted n row old mid new before one = let more : n * (row + 1) ≡ n * row + n = omega arith in omega (arith, before, one, more)

pub none_counted : (n first steps : ℕ) → steps + n * (first - first) ≤ steps
none_counted n first steps = let none : n * (first - first) ≡ n * 0 = (let z : first - first ≡ 0 = omega arith in ap (λ k. n * k) z) in omega (arith, none)

-- one row more of each struct is looked at
pub counted : (n first i old mid new : ℕ) → first ≤ i → (known answer : Option Wrong) → IfNone answer ((known ≡ None) × (mid + n ≤ new)) → IfNone known (old + n * (i - first) ≤ mid) → IfNone answer (old + n * (i + 1 - first) ≤ new)
counted n first i old mid new le known None a b =
    let next : i + 1 - first ≡ i - first + 1 = omega (arith, le) in
    let before = subst (λ (o : Option Wrong). IfNone o (old + n * (i - first) ≤ mid)) a.0 b in
    subst (λ k. old + n * k ≤ new) (sym next) (next_counted n (i - first) old mid new before a.1)
counted n first i old mid new le known (Some w) a b = tt

-- and all rows at the end
pub all_rows : (n first rows i old mid new : ℕ) → i ≡ first + rows → mid ≤ new → (known answer : Option Wrong) → IfNone answer (known ≡ None) → IfNone known (old + n * (i - first) ≤ mid) → IfNone answer (old + n * rows ≤ new)
all_rows n first rows i old mid new is grows known None a b =
    let all : i - first ≡ rows = omega (arith, is) in
    let before = subst (λ (o : Option Wrong). IfNone o (old + n * (i - first) ≤ mid)) a b in
    subst (λ k. old + n * k ≤ new) all (omega (arith, before, grows))
all_rows n first rows i old mid new is grows known (Some w) a b = tt
