use Rattle.std.proofs.Common.{◌*◌, ◌/◌, sym, ap, ◌∙◌}
use Rattle.fidl_links.proofs.FreeBytes.{free_byte}
use Rattle.fidl_links.proofs.Seen.{Seen, as_long, objects_count, records_count}
use Rattle.fidl_links.proofs.links.Links.raw.Goals as goal

pub returns-clause-same_length : goal.returns-clause-same_length
returns-clause-same_length c =
    let seen : Seen c.self.inside.bytes.now c.self.inside.room.now.marks c.args.self.now = record { is = c.self.view_is; sound = c.self.invariant.2 } in
    sym (as_long _ _ _ seen)

pub returns-clause-agree : goal.returns-clause-agree
returns-clause-agree c =
    let seen : Seen c.self.inside.bytes.now c.self.inside.room.now.marks c.args.self.now = record { is = c.self.view_is; sound = c.self.invariant.2 } in
    free_byte _ _ _ seen c.self.invariant.1

pub returns-clause-as_many_objects : goal.returns-clause-as_many_objects
returns-clause-as_many_objects c =
    let seen : Seen c.self.inside.bytes.now c.self.inside.room.now.marks c.args.self.now = record { is = c.self.view_is; sound = c.self.invariant.2 } in
    objects_count _ _ _ seen ∙ ap (λ n. n / 8) (sym (as_long _ _ _ seen))

pub returns-clause-as_many_records : goal.returns-clause-as_many_records
returns-clause-as_many_records c =
    let seen : Seen c.self.inside.bytes.now c.self.inside.room.now.marks c.args.self.now = record { is = c.self.view_is; sound = c.self.invariant.2 } in
    records_count _ _ _ seen ∙ ap (λ n. 2 * (n / 8)) (sym (as_long _ _ _ seen))
