use Rattle.fidl_links.proofs.Counted.{word_within, handles_counted}
use Rattle.fidl_links.proofs.Seen.{Seen}
use Rattle.fidl_links.proofs.links.Links.counted_handles.Goals as goal

pub came_at-word-requires-clause-within : goal.came_at-word-requires-clause-within
came_at-word-requires-clause-within c =
    let seen : Seen c.self.inside.bytes.now c.self.inside.room.now.marks c.args.self.now = record { is = c.self.view_is; sound = c.self.invariant.2 } in
    word_within _ _ _ seen c.args.envelope c.requires.aligned c.requires.within

pub returns : goal.returns
returns c =
    let seen : Seen c.self.inside.bytes.now c.self.inside.room.now.marks c.args.self.now = record { is = c.self.view_is; sound = c.self.invariant.2 } in
    handles_counted _ _ _ seen c.args.envelope c.requires.aligned c.requires.within c.came_at-word.result.0 c.came_at-word.ensures.came
