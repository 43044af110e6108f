use Rattle.std.proofs.Common.{◌≡◌, ◌≢◌, ℕ, ◌+◌, ◌*◌, ◌≤◌, ◌∷◌, zero, suc, slice_index, refl, arith}
use Rattle.fidl_wire.specs.Encoding.{zeros}
use Rattle.fidl_links.specs.Words.{word, Put}
use Rattle.fidl_links.proofs.worked.words_that_are_written.Goals as goal

others : (j : ℕ) → j ≢ 0 → 8 * j + 8 ≤ 16 → word (16 ∷ zeros 15) j ≡ word (zeros 16) j
unfolding word
others zero ne room = absurd (ne refl)
others (suc zero) ne room = refl
others (suc (suc j)) ne room = absurd (omega (arith, room))

behind : (k : ℕ) → 8 ≤ k → slice_index (16 ∷ zeros 15) k ≡ slice_index (zeros 16) k
behind zero from = absurd (omega (arith, from))
behind (suc k) from = refl

stays : word (zeros 16) 0 ≡ 0
unfolding word
stays = refl

first : word (16 ∷ zeros 15) 0 ≡ 16
unfolding word
first = refl

pub returns-clause-first : goal.returns-clause-first
returns-clause-first c = record { len = refl; number = first; words = others; tail = behind }

pub returns-clause-none : goal.returns-clause-none
returns-clause-none c = λ (p : Put (zeros 16) (zeros 16) 0 16). omega (arith, p.number, stays)
