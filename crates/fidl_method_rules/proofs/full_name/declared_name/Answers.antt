use Rattle.fidl_method_rules.proofs.FullNames.{pushed_text}
use Rattle.fidl_method_rules.proofs.full_name.declared_name.Goals as goal

pub returns : goal.returns
returns c =
    pushed_text c.args.file.now c.args.name c.new-text.result.items c.extend_from_slice.new.self.items c.push_parts.new.text.items c.push.new.self.items c.extend_from_slice-2.new.self.items c.text.result.now c.text-2.result.now c.deref.result.now
    c.new-text.ensures.items
    c.text.ensures.bytes
    c.in_ok-extend_from_slice.ensures.items
    c.deref.ensures.value
    c.in_ok-push_parts.ensures
    c.in_ok-push.ensures.items
    c.text-2.ensures.bytes
    c.in_ok-extend_from_slice-2.ensures.items
