use Rattle.std.proofs.Common.{◌∙◌, ◌<◌, ℕ, ap, inl, inr, refl, sym, arith}
use Rattle.fidl_named.specs.declared.place.Place.{Place}
use Rattle.fidl_named.specs.declared.place.DeclarationId.{DeclarationId}
use Rattle.fidl_protocol.proofs.worked.where_alike_methods_are_reported.Goals as goal

pub returns-clause-own : goal.returns-clause-own
returns-clause-own c = λ files p one other h k differ alike apart own. record {
  protocol = p;
  one = one;
  other = other;
  has_one = h;
  has_other = k;
  differ = differ;
  alike = alike;
  reported = inl (record { own = own; later = λ is. absurd (apart is); place_is = refl });
}

pub returns-clause-later : goal.returns-clause-later
returns-clause-later c = λ files p one other own less. inl (record { own = own; later = λ _. less; place_is = refl })

pub returns-clause-first : goal.returns-clause-first
returns-clause-first c = λ files p one other place own its less h. elim h [
  | inl at ↦ let more = at.later its in omega (arith, less, more)
  | inr at ↦ at.reported_composed own
]

pub returns-clause-path : goal.returns-clause-path
returns-clause-path c = λ files p one other place apart composed way. inr (record { reported_composed = composed; other_composed = apart; way = way })

pub returns-clause-own_by_path : goal.returns-clause-own_by_path
returns-clause-own_by_path c = λ files p one other place own composed h. elim h [
  | inl at ↦ composed at.own
  | inr at ↦ at.other_composed own
]

pub returns-clause-other_file : goal.returns-clause-other_file
returns-clause-other_file c = λ files p one other place apart h. elim h [
  | inl at ↦ apart (ap (λ (x : Place). x.file) at.place_is ∙ ap (λ (x : DeclarationId). x.file) at.own)
  | inr at ↦ apart at.way.file_is
]

pub returns-clause-alone : goal.returns-clause-alone
returns-clause-alone c = λ files place one h. h.differ (one h.protocol h.one h.other h.has_one h.has_other)
