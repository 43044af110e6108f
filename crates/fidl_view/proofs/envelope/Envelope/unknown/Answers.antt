use Rattle.std.proofs.Common.{◌≡◌, ℕ, ◌+◌, List, ap, sym, subst, ◌∙◌, ◌%◌, length, arith}
use Rattle.std.specs.Prelude.{None, Some, ◌==◌}
use Rattle.std.specs.Int.{w16}
use Rattle.fidl_wire.specs.Value.{Member, unknown}
use Rattle.fidl_wire.specs.Term.{find}
use Rattle.fidl_wire.specs.Term as ty
use Rattle.fidl_wire.specs.Field.{number_at}
use Rattle.fidl_table_format.specs.Terms.{members_of}
use Rattle.fidl_view.specs.Members.{ShowMember, term_at}
use Rattle.fidl_view.proofs.Raw as raw
use Rattle.std.proofs.Math.Logic.{∥∥₁_elim}
use denote.Struct.Props.{props}
use Rattle.fidl_view.proofs.envelope.Envelope.unknown.Goals as goal

pub returns : goal.returns
returns c x h =
    let d = c.args.self.decoded.now in
    let i = c.args.self.index in
    let o = c.args.self.ordinal in
    let p = c.args.self.place in
    let lacks : term_at d i o ≡ None = subst (λ (b : List ℕ). find (members_of b i) o ≡ None) c.table.ensures c.in_default.ensures.none in
    let flag : c.came_flags.result ≡ number_at w16 d.bytes (p + 6) = c.came_flags.ensures ∙ ap (λ (b : List ℕ). number_at w16 b (p + 6)) c.links.ensures.came in
    let r = raw.raw_there d i o p c.args.self.short c.args.self.few lacks x h in
    let own = subst (λ (y : Member). ShowMember d i o p y) r.is h in
    subst (λ n. x ≡ unknown (n == 1) c.raw_bytes.result.now c.raw_handles.result.now) (sym flag)
    (raw.raw_flag d i o p x r c.raw_bytes.result.now c.raw_handles.result.now
    (c.raw_bytes.ensures r.inline r.bytes r.handles own ∙ sym (ap (λ (y : Member). raw.raw_bytes_of y) r.is))
    (c.raw_handles.ensures r.inline r.bytes r.handles own ∙ sym (ap (λ (y : Member). raw.raw_handles_of y) r.is)))

pub returns-in-Some : goal.returns-in-Some
returns-in-Some c =
    let d = c.args.self.decoded.now in
    let i = c.args.self.index in
    let o = c.args.self.ordinal in
    let row = c.in-Some._row in
    raw.known_no_unknown d i o c.args.self.place (ty.named row.entry) (subst (λ (b : List ℕ). find (members_of b i) o ≡ Some (ty.named row.entry)) c.table.ensures c.in-Some.ensures.some)

pub came_flags-requires : goal.came_flags-requires
came_flags-requires c =
    let d = c.args.self.decoded.now in
    let i = c.args.self.index in
    let o = c.args.self.ordinal in
    let p = c.args.self.place in
    let lacks : term_at d i o ≡ None = subst (λ (b : List ℕ). find (members_of b i) o ≡ None) c.table.ensures c.in_default.ensures.none in
    let aligned : p % 8 ≡ 0 = ∥∥₁_elim c.args.self.shown (hlevel props) (λ h. (raw.raw_there d i o p c.args.self.short c.args.self.few lacks h.0 h.1).aligned) in
    let long = ap length c.links.ensures.came in
    record { aligned = aligned; within = omega (arith, long, c.args.self.room) }
