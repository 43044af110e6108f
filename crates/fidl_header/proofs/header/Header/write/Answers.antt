use Rattle.std.proofs.Common.{rules, ◌≡◌, ℕ, Bool, List, sym, ap, ◌∙◌}
use Rattle.std.specs.Int.{w32, w64, from_le_bytes}
use Rattle.std.proofs.lemmas.Nat.{from_le_bytes-to_le_bytes_4, from_le_bytes-to_le_bytes_8}
use Rattle.fidl_header.specs.declared.header.Header.{Header}
use Rattle.fidl_header.proofs.header.Header.write.Goals as goal

same : (h : Header) (t o : ℕ) (f : Bool) → t ≡ h.txid → f ≡ h.flexible → o ≡ h.ordinal → ◌≡◌ {A = Header} (record { txid = t; flexible = f; ordinal = o }) h
same h t o f e g i = rw (e, g, i)

pub returns-then-self-clause-back : goal.returns-then-self-clause-back
returns-then-self-clause-back c = same _ _ _ _ (ap (λ (l : List ℕ). from_le_bytes w32 l) c.to_le_bytes.ensures ∙ from_le_bytes-to_le_bytes_4 _ (search rules)) (sym c.if-self.true) (ap (λ (l : List ℕ). from_le_bytes w64 l) c.to_le_bytes-2.ensures ∙ from_le_bytes-to_le_bytes_8 _ (search rules))

pub returns-else-self-clause-back : goal.returns-else-self-clause-back
returns-else-self-clause-back c = same _ _ _ _ (ap (λ (l : List ℕ). from_le_bytes w32 l) c.to_le_bytes.ensures ∙ from_le_bytes-to_le_bytes_4 _ (search rules)) (sym c.if-self.false) (ap (λ (l : List ℕ). from_le_bytes w64 l) c.to_le_bytes-2.ensures ∙ from_le_bytes-to_le_bytes_8 _ (search rules))
