use Rattle.std.proofs.Common.{◌≡◌, ℕ, ◌<◌, get_or}
use Rattle.fidl_named.specs.declared.meaning.Predeclared.TheVariants as name
use Rattle.fidl_named.specs.Meanings.{predeclared_text}
use Rattle.fidl_named.proofs.meaning.find_predeclared.Given as goal

-- none of the names so far is the text
abbrev pub invariant-loop-name : goal.invariant-loop-name
invariant-loop-name l = (k : ℕ) → k < l.name-index → predeclared_text (get_or l.name-items k name.Bool) ≡ l.text → ⊥
