use Rattle.std.proofs.Common.{inl, inr}
use Rattle.fidl_requests.proofs.Asked.{an_event, is_requested}
use Rattle.fidl_requests.proofs.method.requested.Goals as goal

pub returns-in-Missing-clause-none : goal.returns-in-Missing-clause-none
returns-in-Missing-clause-none c = inr (an_event _ _ c.in-Some.method c.in-Some.ensures.table c.in-Some.ensures.found _ c.request.ensures.value c.in-Missing.is)

pub returns-in-Empty : goal.returns-in-Empty
returns-in-Empty c = record {
  table = c.in-Some.ensures.table;
  some = is_requested _ _ c.in-Some.method c.in-Some.ensures.table c.in-Some.ensures.found _ c.request.ensures.value (λ none. elim c.in-Empty.is [ inl e ↦ cc | inr e ↦ let f = e.1 in cc ]);
  none = tt;
}
