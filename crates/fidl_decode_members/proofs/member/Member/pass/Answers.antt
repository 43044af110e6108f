use Rattle.std.proofs.Common.{◌-◌, subst}
use Rattle.std.specs.Prelude.{Some, None}
use Rattle.fidl_wire.specs.Term as ty
use Rattle.fidl_decode_model.specs.Machine.{Opens, at_of}
use Rattle.fidl_decode_values.specs.Reading.{message}
use Rattle.fidl_decode_members.specs.Members.{IsPassage}
use Rattle.fidl_decode_members.proofs.member.Member.pass.Goals as goal

pub pass_inside-requires-clause-free : goal.pass_inside-requires-clause-free
pass_inside-requires-clause-free c =
    (subst (IsPassage c.args.decoder.now.table.now (message c.args.decoder.now) c.args.self.now.entry) c.in-Inside.is c.requires.passage).0.0

pub pass_inside-requires-clause-size : goal.pass_inside-requires-clause-size
pass_inside-requires-clause-size c =
    (subst (IsPassage c.args.decoder.now.table.now (message c.args.decoder.now) c.args.self.now.entry) c.in-Inside.is c.requires.passage).0.1

pub pass_inside-requires-clause-small : goal.pass_inside-requires-clause-small
pass_inside-requires-clause-small c =
    (subst (IsPassage c.args.decoder.now.table.now (message c.args.decoder.now) c.args.self.now.entry) c.in-Inside.is c.requires.passage).1

pub pass_bool-requires-clause-kind : goal.pass_bool-requires-clause-kind
pass_bool-requires-clause-kind c =
    subst (IsPassage c.args.decoder.now.table.now (message c.args.decoder.now) c.args.self.now.entry) c.in-Bool.is c.requires.passage

pub pass_below-requires-clause-free : goal.pass_below-requires-clause-free
pass_below-requires-clause-free c =
    (subst (IsPassage c.args.decoder.now.table.now (message c.args.decoder.now) c.args.self.now.entry) c.in-Below.is c.requires.passage).0

pub pass_below-requires-clause-size : goal.pass_below-requires-clause-size
pass_below-requires-clause-size c =
    (subst (IsPassage c.args.decoder.now.table.now (message c.args.decoder.now) c.args.self.now.entry) c.in-Below.is c.requires.passage).1

pub pass_text-requires-clause-kind : goal.pass_text-requires-clause-kind
pass_text-requires-clause-kind c =
    subst (IsPassage c.args.decoder.now.table.now (message c.args.decoder.now) c.args.self.now.entry) c.in-Text.is c.requires.passage

pub pass_object-requires-clause-known : goal.pass_object-requires-clause-known
pass_object-requires-clause-known c =
    (subst (IsPassage c.args.decoder.now.table.now (message c.args.decoder.now) c.args.self.now.entry) c.in-Struct.is c.requires.passage).0

pub returns-in-Struct-clause-passed : goal.returns-in-Struct-clause-passed
returns-in-Struct-clause-passed c =
    λ so.
    let t = c.args.decoder.now.table.now in
    let m = message c.args.decoder.now in
    let old = c.args.state.now in
    let new = c.pass_object.new.state in
    let same = (subst (IsPassage t m c.args.self.now.entry) c.in-Struct.is c.requires.passage).1 in
    subst (λ e. Opens t m c.args.depth (Some (ty.named e)) c.args.envelope (at_of old) (at_of new) (new.steps - old.steps) None)
    same (c.pass_object.ensures.passed so)
