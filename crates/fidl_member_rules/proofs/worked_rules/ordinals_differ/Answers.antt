use Rattle.std.proofs.Common.{◌≡◌, ◌<◌, ◌∙◌, ℕ, zero, suc, [], ◌∷◌, length, get_or, take, refl, ap, sym, arith}
use Rattle.std.specs.Prelude.{◌≢◌}
use Rattle.std.specs.List.{Contains, AllPairs}
use Rattle.std.proofs.lemmas.List.Quantifiers.{all_pairs_push}
use Rattle.std.proofs.lemmas.Option.{slice_get_within}
use Rattle.fidl_tree.specs.Leaf.{text_at}
use Rattle.fidl_consts.specs.Literals.{number_of}
use Rattle.fidl_member_rules.proofs.worked_rules.ordinals_differ.Goals as goal

differs : (m n : ℕ) → m ≢ n → (k d : ℕ) → k < length (m ∷ []) → get_or (m ∷ []) k d ≢ n
differs m n apart zero d within = apart
differs m n apart (suc k) d within = absurd (omega (arith, within))

alone : (m : ℕ) → AllPairs (λ a b. a ≢ b) (m ∷ [])
alone m i j d less within = absurd (omega (arith, less, within))

pair : (m n : ℕ) → m ≢ n → AllPairs (λ a b. a ≢ b) (m ∷ n ∷ [])
pair m n apart = all_pairs_push (λ a b. a ≢ b) (m ∷ []) n (alone m) (differs m n apart)

never : (m n : ℕ) → m ≢ n → (rank : ℕ) → rank < 2 → Contains (take rank (m ∷ n ∷ [])) n → ⊥
never m n apart zero less (k, within, is) = absurd (omega (arith, within))
never m n apart (suc zero) less (zero, within, is) = apart is
never m n apart (suc zero) less (suc k, within, is) = absurd (omega (arith, within))
never m n apart (suc (suc rank)) less h = absurd (omega (arith, less))

one_two : (m n : ℕ) → m ≡ 1 → n ≡ 2 → m ≢ n
one_two m n one two same = omega (arith, one, two, same)

pub returns-clause-kept : goal.returns-clause-kept
returns-clause-kept c src one two e k =
    let m : number_of (text_at src one) ≡ 1 = ap number_of e in
    let n : number_of (text_at src two) ≡ 2 = ap number_of k in
    record {
      within = ((omega (arith, m), omega (arith, m)), ((omega (arith, n), omega (arith, n)), tt));
      differ = pair (number_of (text_at src one)) (number_of (text_at src two)) (one_two (number_of (text_at src one)) (number_of (text_at src two)) m n);
    }

pub returns-clause-repeated : goal.returns-clause-repeated
returns-clause-repeated c src one again e k =
    let m : number_of (text_at src one) ≡ 1 = ap number_of e in
    let n : number_of (text_at src again) ≡ 1 = ap number_of k in
    record { rank = 1; stands = refl; earlier = (0, omega arith, m ∙ sym n) }

pub returns-clause-other : goal.returns-clause-other
returns-clause-other c src one two e k h =
    let m : number_of (text_at src one) ≡ 1 = ap number_of e in
    let n : number_of (text_at src two) ≡ 2 = ap number_of k in
    never (number_of (text_at src one)) (number_of (text_at src two)) (one_two (number_of (text_at src one)) (number_of (text_at src two)) m n) h.rank (slice_get_within (one ∷ two ∷ []) h.rank two h.stands) h.earlier
