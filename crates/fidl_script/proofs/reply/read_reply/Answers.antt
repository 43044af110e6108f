use Rattle.std.proofs.Common.{refl, subst, ◌∙◌, List, ℕ}
use Rattle.fidl_verify.specs.Lookups.{EntryHolds}
use Rattle.fidl_script.specs.Held.{body_view, line_view, text_view}
use Rattle.fidl_script.proofs.Passing.{match_some, match_none}
use Rattle.fidl_script.proofs.Looking.{reply_made, no_reply_made}
use Rattle.fidl_script.proofs.reply.read_reply.Goals as goal

pub body_of-requires : goal.body_of-requires
body_of-requires c = subst (λ (b : List ℕ). EntryHolds b c.response.result) (c.in-Some-named.ensures.table ∙ c.requires) c.response.ensures.entry

pub returns-in-Some-found-clause-ok : goal.returns-in-Some-found-clause-ok
returns-in-Some-found-clause-ok c =
    let words = c.in-Some.words in
    let named = c.in-Some-named.named in
    let known = c.in-Some-named.ensures in
    reply_made c.args.methods.now c.args.table.now c.requires (line_view c.args.line.now) words.method.now (text_view words) c.in-Some.ensures.found named.place named.method known.table known.found known.means c.response.result c.response.ensures.value
    (body_view c.in-Some-found.message) (match_some c.in_ok-found.found c.in-Some-found.message _ _ c.in-Some-found.is c.in_ok-found.ensures)

pub returns-in-None-clause-fault_is_true : goal.returns-in-None-clause-fault_is_true
returns-in-None-clause-fault_is_true c =
    let words = c.in-Some.words in
    let named = c.in-Some-named.named in
    let known = c.in-Some-named.ensures in (
      refl,
      no_reply_made c.args.methods.now c.args.table.now c.requires (line_view c.args.line.now) words.method.now (text_view words) c.in-Some.ensures.found named.place named.method known.table known.found known.means c.response.result c.response.ensures.value
          (match_none c.in_ok-found.found _ _ c.in-None.is c.in_ok-found.ensures),
    )
