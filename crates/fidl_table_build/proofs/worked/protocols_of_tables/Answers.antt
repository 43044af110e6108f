use Rattle.std.proofs.Common.{◌≡◌, ◌∙◌, ◌+◌, ℕ, zero, suc, [], ◌∷◌, Some, slice_get, length, refl, ap, sym, subst, codes, arith}
use Rattle.std.specs.Global.{Vec}
use Rattle.std.proofs.lemmas.Option.{none-some, same_Some}
use Rattle.fidl_wire.specs.Term as ty
use Rattle.fidl_table_build.specs.declared.listing.MethodEntry.{MethodEntry}
use Rattle.fidl_table_build.specs.Methods.{ShowsMethod}
use Rattle.fidl_table_build.specs.Samples.{two_protocols, a_method}
use Rattle.fidl_table_build.proofs.worked.protocols_of_tables.Goals as goal

abbrev Shown : MethodEntry → (number : ℕ) → Type 0
Shown = ShowsMethod (ty.bool ∷ ty.named 2 ∷ []) (two_protocols 1 1 7)

third : (own : Vec ℕ) → own.items ≡ codes "m" → Shown (a_method own) 2
third own is = record { ordinal = refl; name = sym is; strict = refl; request = (1, refl, refl); response = refl }

each : (own : Vec ℕ) → own.items ≡ codes "m" → (k : ℕ) (m : MethodEntry) → slice_get (a_method own ∷ []) k ≡ Some m → Shown m (2 + k)
each own is zero m at = subst (λ m. Shown m 2) (same_Some (a_method own) m at) (third own is)
each own is (suc k) m at = absurd (none-some m at)

pub returns-clause-same : goal.returns-clause-same
returns-clause-same c = λ name own methods named called listed. record {
  name = sym named;
  openness = refl;
  count = ap length (sym listed);
  methods = λ k m at. each own called k m (ap (λ l. slice_get l k) (sym listed) ∙ at);
}

pub returns-clause-other_method : goal.returns-clause-other_method
returns-clause-other_method c = λ name own methods listed h.
    let never : 8 ≡ 7 = (h.methods 0 (a_method own) (ap (λ l. slice_get l 0) listed)).ordinal in
    absurd (omega (arith, never))
