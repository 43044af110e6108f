-- A script of a protocol is ready for its calls: the ordinals rise, the bodies fit, and each call has
-- its method.
use Rattle.std.proofs.Common.{◌≡◌, ℕ, zero, suc, ◌<◌, List, [], ◌∷◌, length, get_or, arith, refl, sym, ap, subst, ◌∙◌}
use Rattle.std.proofs.lemmas.List.{get_or-map, length-map}
use Rattle.std.specs.Prelude.{IsTrue, ◌&&◌, Bool, true, false}
use Rattle.std.specs.List.{AllByRecursion, Contains}
use Rattle.fidl_verify.specs.Lookups.{TableProtocol, response_of}
use Rattle.fidl_verify.specs.declared.method.Payload.{Payload}
use Rattle.fidl_verify.specs.declared.method.Payload.TheVariants.{Missing, Empty, Entry}
use Rattle.fidl_requests.specs.declared.verdict.Verdict.{Verdict}
use Rattle.fidl_requests.specs.declared.verdict.Verdict.TheVariants.{Silence, Unknown, Call, End}
use Rattle.fidl_requests.specs.Methods.{record_of}
use Rattle.fidl_requests.specs.Verdict.{IsVerdict}
use Rattle.fidl_script.specs.Script.{Body, Replies, Script, bodies_of, IsReplyOf, IsTwoWay, has_both, method_of, IsScriptFor}
use Rattle.fidl_encode.specs.declared.message.Message.{Message}
use Rattle.fidl_script.specs.Held.{body_view, bodies_view}
use Rattle.fidl_serve.specs.Cursors.{HasMethodOf, HasMethodFor, Fits, AreReady}
use Rattle.fidl_serve.proofs.Verdicts.{IsCall, call_is}

-- what holds of each element that a list contains
pub all_from : {X : Type 0} (P : X → Type 0) (xs : List X) → ((x : X) → Contains xs x → P x) → AllByRecursion P xs
all_from P [] h = tt
all_from P (x ∷ xs) h = (h x (0, omega arith, refl), all_from P xs (λ y c. h y (suc c.0, omega (arith, c.1), c.2)))

fits : (table : List ℕ) (payload : Payload) (body : Body) → IsReplyOf table payload body → Fits body
fits table Missing body i = absurd i
fits table Empty body i = subst Fits (sym i) (record { bytes = omega arith; handles = omega arith })
fits table (Entry e) body i = record { bytes = i.1; handles = i.0.1.few }

fit_all : (table : List ℕ) (payload : Payload) (bodies : List Body) → AllByRecursion (IsReplyOf table payload) bodies → AllByRecursion Fits bodies
fit_all table payload [] i = tt
fit_all table payload (b ∷ bs) i = (fits table payload b i.0, fit_all table payload bs i.1)

pub ready : (p : TableProtocol) (s : Script) → IsScriptFor p s → AreReady s.methods
ready p s f = record { rise = f.rise; fit = all_from _ s.methods (λ r c. let a = f.sound r c in fit_all p.table (response_of (method_of p a.0)) (bodies_of r) a.1.bodies) }

both_true : (a b : Bool) → a ≡ true → b ≡ true → (a && b) ≡ true
both_true true b h k = k
both_true false b h k = absurd (cc h)

-- the script has the method of a call
pub known_by : (p : TableProtocol) (s : Script) (frame : List ℕ) (txid ordinal : ℕ) → IsScriptFor p s → IsCall p frame txid ordinal → HasMethodOf ordinal s.methods
known_by p s frame txid ordinal f c =
    let r = c.requested in
    let two_way : IsTwoWay p r.place = record { within = r.at.within; messages = subst (λ (n : ℕ). IsTrue (has_both (record_of p.table n))) r.is (both_true _ _ r.request c.two_way) } in
    let m = f.complete r.place two_way in (
      m.0,
      m.1,
      m.2.ordinal ∙ r.at.is ∙ c.ordinal_is,
    )

pub known : (p : TableProtocol) (s : Script) (frame : List ℕ) (v : Verdict) → IsScriptFor p s → IsVerdict p frame v → HasMethodFor v s.methods
known p s frame Silence f i = tt
known p s frame (Unknown txid ordinal) f i = tt
known p s frame (Call txid ordinal) f i = known_by p s frame txid ordinal f (call_is p frame txid ordinal i)
known p s frame (End e) f i = tt

-- what holds of all elements holds of the one that was read at a place
pub at_place : {X : Type 0} (P : X → Type 0) (xs : List X) (k : ℕ) (d : X) → AllByRecursion P xs → k < length xs → P (get_or xs k d)
at_place P [] k d all h = absurd (omega (arith, h))
at_place P (x ∷ xs) zero d all h = all.0
at_place P (x ∷ xs) (suc k) d all h = at_place P xs k d all.1 (omega (arith, h))

-- the body that was read at a place of the replies
pub body_read : (rs : Replies) (ms : List Message) (k : ℕ) (m : Message) → bodies_view ms ≡ bodies_of rs → k < length (bodies_of rs) → m ≡ get_or ms k m → body_view m ≡ get_or (bodies_of rs) k rs.next
body_read rs ms k m e h is =
    let long : length ms ≡ length (bodies_of rs) = sym (length-map ms body_view) ∙ ap length e in
    let within : k < length ms = omega (arith, long, h) in
    ap body_view is ∙ sym (get_or-map body_view ms k m rs.next within) ∙ ap (λ (l : List Body). get_or l k rs.next) e

pub body_fits : (rs : Replies) (ms : List Message) (k : ℕ) (m : Message) → AllByRecursion Fits (bodies_of rs) → bodies_view ms ≡ bodies_of rs → k < length (bodies_of rs) → m ≡ get_or ms k m → Fits (body_view m)
body_fits rs ms k m all e h is = subst Fits (sym (body_read rs ms k m e h is)) (at_place Fits (bodies_of rs) k rs.next all h)
