use Rattle.fidl_links.proofs.Seen.{objects_long, records_long}
use Rattle.fidl_links.proofs.TakenOut.{clear_sound, clear_came, clear_objects, clear_records}
use Rattle.fidl_links.proofs.links.Links.new.Goals as goal

pub invariant_of-result : goal.invariant_of-result
invariant_of-result c = (c.requires, c.are_octets.ensures, clear_sound c.args.bytes.now _ c.are_octets.ensures c.clear.ensures.markers c.clear.ensures.envelopes c.clear.ensures.handles)

pub returns-clause-came : goal.returns-clause-came
returns-clause-came c = clear_came c.args.bytes.now _ c.are_octets.ensures c.clear.ensures.markers c.clear.ensures.envelopes c.clear.ensures.handles

pub returns-clause-objects : goal.returns-clause-objects
returns-clause-objects c = clear_objects c.args.bytes.now _ c.are_octets.ensures c.clear.ensures.markers c.clear.ensures.envelopes c.clear.ensures.handles

pub returns-clause-records : goal.returns-clause-records
returns-clause-records c = clear_records c.args.bytes.now _ c.are_octets.ensures c.clear.ensures.markers c.clear.ensures.envelopes c.clear.ensures.handles

pub returns-clause-as_many_objects : goal.returns-clause-as_many_objects
returns-clause-as_many_objects c = objects_long c.args.bytes.now _

pub returns-clause-as_many_records : goal.returns-clause-as_many_records
returns-clause-as_many_records c = records_long c.args.bytes.now _
