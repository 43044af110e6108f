use Rattle.std.specs.Prelude.{Some}
use Rattle.fidl_verify.proofs.Members.{lies_within, is_small, rises, if_none, if_some}
use Rattle.fidl_verify.proofs.table.Table.member.Goals as goal

pub search-requires-clause-within : goal.search-requires-clause-within
search-requires-clause-within c = lies_within c.args.self.now c.entry-parts.ensures.well_formed c.args.entry c.requires.entry c.requires.kind c.entry-parts.result c.entry-parts.ensures.value

pub search-requires-clause-small : goal.search-requires-clause-small
search-requires-clause-small c = is_small c.args.self.now c.entry-parts.ensures.well_formed c.args.entry c.requires.entry c.requires.kind c.entry-parts.result c.entry-parts.ensures.value

pub search-requires-clause-rises : goal.search-requires-clause-rises
search-requires-clause-rises c = rises c.args.self.now c.entry-parts.ensures.well_formed c.args.entry c.requires.entry c.requires.kind c.entry-parts.result c.entry-parts.ensures.value

pub returns-clause-none : goal.returns-clause-none
returns-clause-none c = if_none c.args.self.now c.entry-parts.ensures.well_formed c.args.entry c.requires.entry c.requires.kind c.entry-parts.result c.entry-parts.ensures.value c.args.ordinal c.search.result c.search.ensures.none

pub returns-clause-some : goal.returns-clause-some
returns-clause-some c = if_some c.args.self.now c.entry-parts.ensures.well_formed c.args.entry c.requires.entry c.requires.kind c.entry-parts.result c.entry-parts.ensures.value c.args.ordinal c.search.result c.search.ensures.row

pub look-requires : goal.look-requires
look-requires c = record { budget = c.requires.budget; within = lies_within c.args.self.now c.entry-parts.ensures.well_formed c.args.entry c.requires.entry c.requires.kind c.entry-parts.result c.entry-parts.ensures.value }

pub returns-in-Some-clause-some : goal.returns-in-Some-clause-some
returns-in-Some-clause-some c = if_some c.args.self.now c.entry-parts.ensures.well_formed c.args.entry c.requires.entry c.requires.kind c.entry-parts.result c.entry-parts.ensures.value c.args.ordinal (Some c.in-Some.row) c.in-Some.ensures.row
