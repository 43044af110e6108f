use Rattle.std.proofs.Common.{◌≡◌, ℕ, List, length, refl, ap, arith}
use Rattle.std.specs.Prelude.{codes}
use Rattle.fidl_script.proofs.Splitting.{no_method_word}
use Rattle.fidl_script.proofs.worked.reply_lines.Goals as goal

pub returns-clause-empty_is_some : goal.returns-clause-empty_is_some
returns-clause-empty_is_some c = λ h. (let e : 12 ≡ 11 = ap (λ (l : List ℕ). length l) h.is in omega (arith, e))

pub returns-clause-no_method : goal.returns-clause-no_method
returns-clause-no_method c = λ method text h. no_method_word (codes "reply  1") (codes " 1") refl 0 (λ less. refl) refl method text h
