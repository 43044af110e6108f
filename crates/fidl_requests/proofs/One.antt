-- A frame has one verdict.
use Rattle.std.proofs.Common.{◌≡◌, ℕ, List, refl, ap, subst}
use Rattle.fidl_verify.specs.Lookups.{TableProtocol, IsProtocolOfTable}
use Rattle.fidl_requests.specs.declared.verdict.Verdict.{Verdict}
use Rattle.fidl_requests.specs.Methods.{is_two_way}
use Rattle.fidl_requests.specs.Verdict.{frame_head, IsCalledRight, IsBody, IsVerdict, call_verdict}
use Rattle.fidl_requests.specs.Verdict.{no_header, unknown, wrong_call, bad_body, called}
use Rattle.fidl_requests.proofs.Numbered.{one_number, never_both}

module _ (p : TableProtocol) (is : IsProtocolOfTable p) (frame : List ℕ) where
  same_number : (m n : ℕ) → m ≡ n → IsCalledRight (is_two_way p.table m) (frame_head frame).txid → IsCalledRight (is_two_way p.table n) (frame_head frame).txid
  same_number m n e = subst (λ (k : ℕ). IsCalledRight (is_two_way p.table k) (frame_head frame).txid) e

  same_body : (m n : ℕ) → m ≡ n → IsBody p.table m frame → IsBody p.table n frame
  same_body m n e = subst (λ (k : ℕ). IsBody p.table k frame) e

  pub one_verdict : (v w : Verdict) → IsVerdict p frame v → IsVerdict p frame w → v ≡ w
  one_verdict _ _ (no_header a) (no_header b) = refl
  one_verdict _ _ (no_header a) (unknown h b) = absurd (a h)
  one_verdict _ _ (no_header a) (wrong_call n h r b) = refl
  one_verdict _ _ (no_header a) (bad_body n h r t b) = refl
  one_verdict _ _ (no_header a) (called n h r t b) = absurd (a h)
  one_verdict _ _ (unknown g a) (no_header b) = absurd (b g)
  one_verdict _ _ (unknown g a) (unknown h b) = refl
  one_verdict _ _ (unknown g a) (wrong_call n h r b) = absurd (never_both p is _ n a r)
  one_verdict _ _ (unknown g a) (bad_body n h r t b) = absurd (never_both p is _ n a r)
  one_verdict _ _ (unknown g a) (called n h r t b) = absurd (never_both p is _ n a r)
  one_verdict _ _ (wrong_call m g q a) (no_header b) = refl
  one_verdict _ _ (wrong_call m g q a) (unknown h b) = absurd (never_both p is _ m b q)
  one_verdict _ _ (wrong_call m g q a) (wrong_call n h r b) = refl
  one_verdict _ _ (wrong_call m g q a) (bad_body n h r t b) = refl
  one_verdict _ _ (wrong_call m g q a) (called n h r t b) = absurd (a (same_number n m (one_number p is _ n m r q) t))
  one_verdict _ _ (bad_body m g q s a) (no_header b) = refl
  one_verdict _ _ (bad_body m g q s a) (unknown h b) = absurd (never_both p is _ m b q)
  one_verdict _ _ (bad_body m g q s a) (wrong_call n h r b) = refl
  one_verdict _ _ (bad_body m g q s a) (bad_body n h r t b) = refl
  one_verdict _ _ (bad_body m g q s a) (called n h r t b) = absurd (a (same_body n m (one_number p is _ n m r q) b))
  one_verdict _ _ (called m g q s a) (no_header b) = absurd (b g)
  one_verdict _ _ (called m g q s a) (unknown h b) = absurd (never_both p is _ m b q)
  one_verdict _ _ (called m g q s a) (wrong_call n h r b) = absurd (b (same_number m n (one_number p is _ m n q r) s))
  one_verdict _ _ (called m g q s a) (bad_body n h r t b) = absurd (b (same_body m n (one_number p is _ m n q r) a))
  one_verdict _ _ (called m g q s a) (called n h r t b) = ap (λ (k : ℕ). call_verdict p.table k (frame_head frame)) (one_number p is _ m n q r)
