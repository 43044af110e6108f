use Rattle.std.proofs.Common.{◌≡◌, ◌∙◌, ℕ, List, get_or, unwrap_or, refl, ap, sym, arith}
use Rattle.std.specs.Prelude.{codes}
use Rattle.fidl_span.specs.declared.words.Span.{Span}
use Rattle.fidl_tree.specs.Leaf.{text_at}
use Rattle.fidl_consts.specs.Literals.{string_of}
use Rattle.fidl_member_rules.proofs.worked_rules.transports_by_channels.Goals as goal

pub returns-clause-seen : goal.returns-clause-seen
returns-clause-seen c src s e = record { word = s; alone = refl; channel = ap string_of e }

pub returns-clause-socket : goal.returns-clause-socket
returns-clause-socket c src s e h =
    let is : s ≡ h.word = ap (λ o. unwrap_or o s) h.alone in
    let same : codes "Socket" ≡ codes "Channel" = sym (ap string_of e) ∙ ap (λ (w : Span). string_of (text_at src w)) is ∙ h.channel in
    let first : 83 ≡ 67 = ap (λ (l : List ℕ). get_or l 0 0) same in
    omega (arith, first)
