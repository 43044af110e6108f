use Rattle.std.proofs.Common.{◌≡◌, ℕ, List, sym, subst, ◌∙◌}
use Rattle.std.specs.Prelude.{IfSome}
use Rattle.fidl_table_format.specs.declared.kind.EntryKind.TheVariants.{String}
use Rattle.fidl_table_format.specs.Section.{header_of, entry_at}
use Rattle.fidl_table_format.specs.Terms.{declarations_of, is_optional}
use Rattle.fidl_view.specs.Views.{type_shown, types_shown}
use Rattle.fidl_view.proofs.Viewing as viewing
use Rattle.fidl_view.proofs.Content as content
use Rattle.fidl_view.proofs.Lists as lists
use Rattle.fidl_view.proofs.view.View.as_bytes.Goals as goal

pub returns-in-String : goal.returns-in-String
returns-in-String c =
    let d = c.args.self.decoded.now in
    let i = c.args.self.index in
    let p = c.args.self.place in
    let e = entry_at d.table i in
    record {
      value = λ v h.
          c.string_bytes.ensures.value v h
          ∙ lists.text_bytes (types_shown c.args.self) (type_shown c.args.self) (is_optional e) e.bound v (viewing.lies d c.kind.ensures.well_formed i p c.args.self.in_range String c.in-String.ensures.of v h).0;
      slice = c.string_bytes.ensures.slice;
    }

pub returns-in_default : goal.returns-in_default
returns-in_default c =
    let d = c.args.self.decoded.now in
    let i = c.args.self.index in
    let p = c.args.self.place in
    let w = c.kind.ensures.well_formed in
    let e = entry_at d.table i in
    record {
      value = λ v h.
          c.octets.ensures.value v h
          (sym (content.no_string (declarations_of d.table) d.table (header_of d.table) e c.kind.result c.in_default.not-String v
          (viewing.lies d w i p c.args.self.in_range c.kind.result c.kind.ensures.of v h).0));
      slice = subst (λ (m : List ℕ). IfSome c.octets.result (λ b. b.now ≡ m)) (viewing.bytes_of_elements d w i p c.args.self.in_range c.kind.result c.kind.ensures.of c.in_default.not-String) c.octets.ensures.slice;
    }
