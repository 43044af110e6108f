use Rattle.std.proofs.Common.{◌≡◌, ℕ, List, length, drop, refl, sym, ap, subst, arith}
use Rattle.std.specs.Prelude.{slice_index}
use Rattle.fidl_script.specs.Phrases.{HasNo}
use Rattle.fidl_script.proofs.worked.protocol_lines.Goals as goal

pub returns-clause-two_blanks : goal.returns-clause-two_blanks
returns-clause-two_blanks c = λ name h. (subst (HasNo 32) (sym (ap (drop 9) h.is)) h.word.no_blank).0 refl

pub returns-clause-no_name : goal.returns-clause-no_name
returns-clause-no_name c = λ name h. (let e : 0 ≡ length name = ap (λ (l : List ℕ). length (drop 9 l)) h.is in let some = h.word.some in omega (arith, e, some))

pub returns-clause-two_names : goal.returns-clause-two_names
returns-clause-two_names c = λ name h. (subst (HasNo 32) (sym (ap (drop 9) h.is)) h.word.no_blank).1.1.1.0 refl

pub returns-clause-capital : goal.returns-clause-capital
returns-clause-capital c = λ name h. (let e : 80 ≡ 112 = ap (λ (l : List ℕ). slice_index l 0) h.is in omega (arith, e))
