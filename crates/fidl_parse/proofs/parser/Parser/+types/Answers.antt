use Rattle.std.proofs.Common.{rules, refl, codes}
use Rattle.std.proofs.lemmas.Bool.{false≢true}
use Rattle.fidl_span.specs.declared.words.WordKind.TheVariants as kind
use Rattle.fidl_parse.proofs.Joins.{reads_push, reads_none}
use Rattle.fidl_parse.proofs.Types.{named_reads}
use Rattle.fidl_parse.proofs.Rows.{list_more, list_done, members_more, members_done}
use Rattle.fidl_tree.specs.Constraint.{constraints_leaves}
use Rattle.fidl_tree.specs.TypeConstructor.{type_arguments_leaves, next_type_argument_leaves, underlying_leaves, member_leaves, ordinal_member_leaves}
use Rattle.fidl_parse.specs.FollowSets.{extends_path, extends_name, extends_type, extends_attributes}
use Rattle.fidl_parse.proofs.Ahead.{not_begins, begins_not}
use Rattle.fidl_parse.proofs.Options.{kind_none, kind_some}
use Rattle.fidl_parse.proofs.Follow.{other_begins, is_comma, not_row, not_optional, path_of_value, value_of_type, name_of_type}
use Rattle.fidl_parse.proofs.Constraints.{constraints_begin}
use Rattle.fidl_parse.proofs.LayoutBodies.{body_of, body_ahead, tail_may, values_ahead, block_ahead, struct_tail_ahead, table_tail_ahead, union_tail_ahead, values_tail_ahead}
use Rattle.fidl_parse.proofs.TypeAhead.{named_ahead, type_arguments_begin, next_type_argument_begins, underlying_begins, type_arguments_ahead, next_type_argument_ahead, layout_ahead, underlying_ahead, member_ahead, ordinal_member_ahead, member_apart, ordinal_member_apart}
use Rattle.fidl_parse.proofs.TypeChoices.{body_begins, named_type_ahead, layout_type_ahead, number_argument_ahead, type_argument_ahead, reserved_ahead, typed_ahead}
use Rattle.fidl_parse.proofs.TypeParts.{typed_reads}
use Rattle.fidl_parse.proofs.TypeReads.{struct_reads, table_reads, union_reads, values_reads, layout_reads, underlying_reads, member_reads, ordinal_member_reads}
use Rattle.fidl_parse.proofs.Stops.{stops}
use Rattle.fidl_tree.specs.declared.type_constructor.NamedType.{out-NamedType}
use Rattle.fidl_tree.specs.declared.type_constructor.TypeArguments.{out-TypeArguments}
use Rattle.fidl_tree.specs.declared.type_constructor.NextTypeArgument.{out-NextTypeArgument}
use Rattle.fidl_tree.specs.declared.type_constructor.Layout.{out-Layout}
use Rattle.fidl_tree.specs.declared.type_constructor.Underlying.{out-Underlying}
use Rattle.fidl_tree.specs.declared.type_constructor.Member.{out-Member}
use Rattle.fidl_tree.specs.declared.type_constructor.OrdinalMember.{out-OrdinalMember}
use Rattle.fidl_parse.proofs.parser.Parser.+types.Goals as goal

pub type_constructor-returns-in_err-named_type-clause-complete : goal.type_constructor-returns-in_err-named_type-clause-complete
type_constructor-returns-in_err-named_type-clause-complete t c x rest m a =
    let n = named_type_ahead _ _ x rest (λ e. false≢true (c.if-not-begins_layout.ensures.1 e)) a in
    let h = c.in_err-named_type.ensures.complete n.0 _ m n.1 in
    stops _ _ _ _ c.from_residual.ensures (λ x g. g) h

pub type_constructor-returns-then-not-begins_layout-clause-complete : goal.type_constructor-returns-then-not-begins_layout-clause-complete
type_constructor-returns-then-not-begins_layout-clause-complete t c x rest m a =
    let n = named_type_ahead _ _ x rest (λ e. false≢true (c.if-not-begins_layout.ensures.1 e)) a in
    c.in_ok-named_type.ensures.complete n.0 _ m n.1

pub type_constructor-returns-in_err-layout-clause-complete : goal.type_constructor-returns-in_err-layout-clause-complete
type_constructor-returns-in_err-layout-clause-complete t c x rest m a =
    let l = layout_type_ahead _ _ x rest (c.begins_layout.ensures.0 c.if-not-begins_layout.false) a in
    let h = c.in_err-layout.ensures.complete l.0 _ tt l.2 in
    stops _ _ _ _ c.from_residual-in_err-layout.ensures (λ x g. g) h

pub type_constructor-returns-in_err-constraints-clause-complete : goal.type_constructor-returns-in_err-constraints-clause-complete
type_constructor-returns-in_err-constraints-clause-complete t c x rest m a =
    let l = layout_type_ahead _ _ x rest (c.begins_layout.ensures.0 c.if-not-begins_layout.false) a in
    let b1 = c.in_ok-layout.ensures.complete l.0 _ tt l.2 in
    let h = c.in_err-constraints.ensures.complete l.1 _ m b1 in
    stops _ _ _ _ c.from_residual-in_err-constraints.ensures (λ x g. g) h

pub type_constructor-returns-clause-complete : goal.type_constructor-returns-clause-complete
type_constructor-returns-clause-complete t c x rest m a =
    let l = layout_type_ahead _ _ x rest (c.begins_layout.ensures.0 c.if-not-begins_layout.false) a in
    let b1 = c.in_ok-layout.ensures.complete l.0 _ tt l.2 in
    c.in_ok-constraints.ensures.complete l.1 _ m b1

pub named_type-returns-in_err-path-clause-complete : goal.named_type-returns-in_err-path-clause-complete
named_type-returns-in_err-path-clause-complete t c x rest m a =
    let a0 = named_ahead _ _ x rest a in
    let h = c.in_err-path.ensures.complete (out-NamedType x).path _ (not_optional extends_path type_arguments_leaves kind.Less refl type_arguments_begin (out-NamedType x).arguments _ (not_optional extends_path constraints_leaves kind.Colon refl constraints_begin (out-NamedType x).constraints rest (path_of_value rest (value_of_type rest m)))) a0 in
    stops _ _ _ _ c.from_residual.ensures (λ x g. g) h

pub named_type-returns-in_err-arguments-clause-complete : goal.named_type-returns-in_err-arguments-clause-complete
named_type-returns-in_err-arguments-clause-complete t c x rest m a =
    let a0 = named_ahead _ _ x rest a in
    let b1 = c.in_ok-path.ensures.complete (out-NamedType x).path _ (not_optional extends_path type_arguments_leaves kind.Less refl type_arguments_begin (out-NamedType x).arguments _ (not_optional extends_path constraints_leaves kind.Colon refl constraints_begin (out-NamedType x).constraints rest (path_of_value rest (value_of_type rest m)))) a0 in
    let h = c.in_err-arguments.ensures.complete (out-NamedType x).arguments _ (not_optional extends_name constraints_leaves kind.Colon refl constraints_begin (out-NamedType x).constraints rest (name_of_type rest m)) b1 in
    stops _ _ _ _ c.from_residual-in_err-arguments.ensures (λ x g. g) h

pub named_type-returns-in_err-constraints-clause-complete : goal.named_type-returns-in_err-constraints-clause-complete
named_type-returns-in_err-constraints-clause-complete t c x rest m a =
    let a0 = named_ahead _ _ x rest a in
    let b1 = c.in_ok-path.ensures.complete (out-NamedType x).path _ (not_optional extends_path type_arguments_leaves kind.Less refl type_arguments_begin (out-NamedType x).arguments _ (not_optional extends_path constraints_leaves kind.Colon refl constraints_begin (out-NamedType x).constraints rest (path_of_value rest (value_of_type rest m)))) a0 in
    let b2 = c.in_ok-arguments.ensures.complete (out-NamedType x).arguments _ (not_optional extends_name constraints_leaves kind.Colon refl constraints_begin (out-NamedType x).constraints rest (name_of_type rest m)) b1 in
    let h = c.in_err-constraints.ensures.complete (out-NamedType x).constraints _ m b2 in
    stops _ _ _ _ c.from_residual-in_err-constraints.ensures (λ x g. g) h

pub named_type-returns-clause-complete : goal.named_type-returns-clause-complete
named_type-returns-clause-complete t c x rest m a =
    let a0 = named_ahead _ _ x rest a in
    let b1 = c.in_ok-path.ensures.complete (out-NamedType x).path _ (not_optional extends_path type_arguments_leaves kind.Less refl type_arguments_begin (out-NamedType x).arguments _ (not_optional extends_path constraints_leaves kind.Colon refl constraints_begin (out-NamedType x).constraints rest (path_of_value rest (value_of_type rest m)))) a0 in
    let b2 = c.in_ok-arguments.ensures.complete (out-NamedType x).arguments _ (not_optional extends_name constraints_leaves kind.Colon refl constraints_begin (out-NamedType x).constraints rest (name_of_type rest m)) b1 in
    c.in_ok-constraints.ensures.complete (out-NamedType x).constraints _ m b2

pub type_arguments-returns-then-not-is_next-clause-complete : goal.type_arguments-returns-then-not-is_next-clause-complete
type_arguments-returns-then-not-is_next-clause-complete t c x rest m a =
    kind_none type_arguments_leaves kind.Less _ _ x rest type_arguments_begin (λ e. false≢true (c.if-not-is_next.ensures.next.1 e)) a

pub type_arguments-returns-in_err-less-clause-complete : goal.type_arguments-returns-in_err-less-clause-complete
type_arguments-returns-in_err-less-clause-complete t c x rest m a =
    let y = kind_some type_arguments_leaves kind.Less _ _ x rest (not_begins extends_name kind.Less rest refl m) (c.is_next.ensures.next.0 c.if-not-is_next.false) a in
    let a0 = type_arguments_ahead _ _ y.0 rest y.1 in
    let h = c.in_err-less.ensures.complete (out-TypeArguments y.0).less _ tt a0 in
    stops _ _ _ _ c.from_residual.ensures (λ x g. g) h

pub type_arguments-returns-in_err-type_argument-clause-complete : goal.type_arguments-returns-in_err-type_argument-clause-complete
type_arguments-returns-in_err-type_argument-clause-complete t c x rest m a =
    let y = kind_some type_arguments_leaves kind.Less _ _ x rest (not_begins extends_name kind.Less rest refl m) (c.is_next.ensures.next.0 c.if-not-is_next.false) a in
    let a0 = type_arguments_ahead _ _ y.0 rest y.1 in
    let b1 = c.in_ok-less.ensures.complete (out-TypeArguments y.0).less _ tt a0 in
    let h = c.in_err-type_argument.ensures.complete (out-TypeArguments y.0).first.value _ (not_row extends_type next_type_argument_leaves kind.Comma refl next_type_argument_begins (out-TypeArguments y.0).rest.items _ refl) b1 in
    stops _ _ _ _ c.from_residual-in_err-type_argument.ensures (λ x g. g) h

pub type_arguments-returns-in_err-rest-clause-complete : goal.type_arguments-returns-in_err-rest-clause-complete
type_arguments-returns-in_err-rest-clause-complete t c x rest m a =
    let y = kind_some type_arguments_leaves kind.Less _ _ x rest (not_begins extends_name kind.Less rest refl m) (c.is_next.ensures.next.0 c.if-not-is_next.false) a in
    let a0 = type_arguments_ahead _ _ y.0 rest y.1 in
    let b1 = c.in_ok-less.ensures.complete (out-TypeArguments y.0).less _ tt a0 in
    let b2 = c.in_ok-type_argument.ensures.complete (out-TypeArguments y.0).first.value _ (not_row extends_type next_type_argument_leaves kind.Comma refl next_type_argument_begins (out-TypeArguments y.0).rest.items _ refl) b1 in
    let h = c.in_err-rest.ensures.complete (out-TypeArguments y.0).rest.items _ refl b2 in
    stops _ _ _ _ c.from_residual-in_err-rest.ensures (λ x g. g) h

pub type_arguments-returns-in_err-greater-clause-complete : goal.type_arguments-returns-in_err-greater-clause-complete
type_arguments-returns-in_err-greater-clause-complete t c x rest m a =
    let y = kind_some type_arguments_leaves kind.Less _ _ x rest (not_begins extends_name kind.Less rest refl m) (c.is_next.ensures.next.0 c.if-not-is_next.false) a in
    let a0 = type_arguments_ahead _ _ y.0 rest y.1 in
    let b1 = c.in_ok-less.ensures.complete (out-TypeArguments y.0).less _ tt a0 in
    let b2 = c.in_ok-type_argument.ensures.complete (out-TypeArguments y.0).first.value _ (not_row extends_type next_type_argument_leaves kind.Comma refl next_type_argument_begins (out-TypeArguments y.0).rest.items _ refl) b1 in
    let b3 = c.in_ok-rest.ensures.complete (out-TypeArguments y.0).rest.items _ refl b2 in
    let h = c.in_err-greater.ensures.complete (out-TypeArguments y.0).greater _ tt b3 in
    stops _ _ _ _ c.from_residual-in_err-greater.ensures (λ x g. g) h

pub type_arguments-returns-clause-complete : goal.type_arguments-returns-clause-complete
type_arguments-returns-clause-complete t c x rest m a =
    let y = kind_some type_arguments_leaves kind.Less _ _ x rest (not_begins extends_name kind.Less rest refl m) (c.is_next.ensures.next.0 c.if-not-is_next.false) a in
    let a0 = type_arguments_ahead _ _ y.0 rest y.1 in
    let b1 = c.in_ok-less.ensures.complete (out-TypeArguments y.0).less _ tt a0 in
    let b2 = c.in_ok-type_argument.ensures.complete (out-TypeArguments y.0).first.value _ (not_row extends_type next_type_argument_leaves kind.Comma refl next_type_argument_begins (out-TypeArguments y.0).rest.items _ refl) b1 in
    let b3 = c.in_ok-rest.ensures.complete (out-TypeArguments y.0).rest.items _ refl b2 in
    c.in_ok-greater.ensures.complete (out-TypeArguments y.0).greater _ tt b3

pub next_type_arguments-loop-arguments-init : goal.next_type_arguments-loop-arguments-init
next_type_arguments-loop-arguments-init t c = record {
  reads = search (rules, reads_none);
  left = λ xs rest m a. (xs, a);
}

pub next_type_arguments-loop-arguments-preserved : goal.next_type_arguments-loop-arguments-preserved
next_type_arguments-loop-arguments-preserved t c = record {
  reads = rw c.in_ok-push.ensures.items (reads_push next_type_argument_leaves _ _ _ _ _ _ c.loop-arguments.invariant.reads c.in_ok-next_type_argument.ensures.reads);
  left = λ xs rest m a.
      let h = c.loop-arguments.invariant.left xs rest m a in
      let more = list_more next_type_argument_leaves kind.Comma _ _ h.0 rest (other_begins is_comma kind.Comma kind.Greater rest refl refl m) (c.is_next.ensures.next.0 c.loop-arguments-test.true) h.1 in
      (more.1, c.in_ok-next_type_argument.ensures.complete more.0 _ (not_row extends_type next_type_argument_leaves kind.Comma refl next_type_argument_begins more.1 rest (begins_not extends_type kind.Greater rest refl m)) more.2);
}

pub next_type_arguments-returns-in_err-next_type_argument-clause-complete : goal.next_type_arguments-returns-in_err-next_type_argument-clause-complete
next_type_arguments-returns-in_err-next_type_argument-clause-complete t c = λ xs rest m a.
    let h = c.loop-arguments.invariant.left xs rest m a in
    let more = list_more next_type_argument_leaves kind.Comma _ _ h.0 rest (other_begins is_comma kind.Comma kind.Greater rest refl refl m) (c.is_next.ensures.next.0 c.loop-arguments-test.true) h.1 in
    let stop = c.in_err-next_type_argument.ensures.complete more.0 _ (not_row extends_type next_type_argument_leaves kind.Comma refl next_type_argument_begins more.1 rest (begins_not extends_type kind.Greater rest refl m)) more.2 in
    stops _ _ _ _ c.from_residual.ensures (λ x g. g) stop

pub next_type_arguments-returns-clause-reads : goal.next_type_arguments-returns-clause-reads
next_type_arguments-returns-clause-reads t c = c.loop-arguments.invariant.reads

pub next_type_arguments-returns-clause-complete : goal.next_type_arguments-returns-clause-complete
next_type_arguments-returns-clause-complete t c = λ xs rest m a.
    let h = c.loop-arguments.invariant.left xs rest m a in
    list_done next_type_argument_leaves kind.Comma _ _ h.0 rest next_type_argument_begins (λ i. false≢true (c.loop-arguments-test.ensures.next.1 i)) h.1

pub next_type_argument-returns-in_err-comma-clause-complete : goal.next_type_argument-returns-in_err-comma-clause-complete
next_type_argument-returns-in_err-comma-clause-complete t c x rest m a =
    let a0 = next_type_argument_ahead _ _ x rest a in
    let h = c.in_err-comma.ensures.complete (out-NextTypeArgument x).comma _ tt a0 in
    stops _ _ _ _ c.from_residual.ensures (λ x g. g) h

pub next_type_argument-returns-in_err-argument-clause-complete : goal.next_type_argument-returns-in_err-argument-clause-complete
next_type_argument-returns-in_err-argument-clause-complete t c x rest m a =
    let a0 = next_type_argument_ahead _ _ x rest a in
    let b1 = c.in_ok-comma.ensures.complete (out-NextTypeArgument x).comma _ tt a0 in
    let h = c.in_err-argument.ensures.complete (out-NextTypeArgument x).argument _ m b1 in
    stops _ _ _ _ c.from_residual-in_err-argument.ensures (λ x g. g) h

pub next_type_argument-returns-clause-complete : goal.next_type_argument-returns-clause-complete
next_type_argument-returns-clause-complete t c x rest m a =
    let a0 = next_type_argument_ahead _ _ x rest a in
    let b1 = c.in_ok-comma.ensures.complete (out-NextTypeArgument x).comma _ tt a0 in
    c.in_ok-argument.ensures.complete (out-NextTypeArgument x).argument _ m b1

pub type_argument-returns-in_err-symbol-clause-complete : goal.type_argument-returns-in_err-symbol-clause-complete
type_argument-returns-in_err-symbol-clause-complete t c x rest m a =
    let y = number_argument_ahead _ _ x rest (c.is_next.ensures.next.0 c.if-is_next.true) a in
    let h = c.in_err-symbol.ensures.complete y.0 _ tt y.1 in
    stops _ _ _ _ c.from_residual.ensures (λ x g. g) h

pub type_argument-returns-then-is_next-clause-complete : goal.type_argument-returns-then-is_next-clause-complete
type_argument-returns-then-is_next-clause-complete t c x rest m a =
    let y = number_argument_ahead _ _ x rest (c.is_next.ensures.next.0 c.if-is_next.true) a in
    c.in_ok-symbol.ensures.complete y.0 _ tt y.1

pub type_argument-returns-in_err-type_constructor-clause-complete : goal.type_argument-returns-in_err-type_constructor-clause-complete
type_argument-returns-in_err-type_constructor-clause-complete t c x rest m a =
    let z = type_argument_ahead _ _ x rest (λ e. false≢true (c.if-is_next.ensures.next.1 e)) a in
    let h = c.in_err-type_constructor.ensures.complete z.0 _ m z.1 in
    stops _ _ _ _ c.from_residual-in_err-type_constructor.ensures (λ x g. g) h

pub type_argument-returns-clause-complete : goal.type_argument-returns-clause-complete
type_argument-returns-clause-complete t c x rest m a =
    let z = type_argument_ahead _ _ x rest (λ e. false≢true (c.if-is_next.ensures.next.1 e)) a in
    c.in_ok-type_constructor.ensures.complete z.0 _ m z.1

pub layout-returns-in_err-attributes-clause-complete : goal.layout-returns-in_err-attributes-clause-complete
layout-returns-in_err-attributes-clause-complete t c x rest m a =
    let a0 = layout_ahead _ _ x rest a in
    let h = c.in_err-attributes.ensures.complete (out-Layout x).attributes.items _ (begins_not extends_attributes kind.Identifier _ refl (body_begins (out-Layout x).body rest)) a0 in
    stops _ _ _ _ c.from_residual.ensures (λ x g. g) h

pub layout-returns-in_err-body-clause-complete : goal.layout-returns-in_err-body-clause-complete
layout-returns-in_err-body-clause-complete t c x rest m a =
    let a0 = layout_ahead _ _ x rest a in
    let b1 = c.in_ok-attributes.ensures.complete (out-Layout x).attributes.items _ (begins_not extends_attributes kind.Identifier _ refl (body_begins (out-Layout x).body rest)) a0 in
    let h = c.in_err-body.ensures.complete (out-Layout x).body _ tt b1 in
    stops _ _ _ _ c.from_residual-in_err-body.ensures (λ x g. g) h

pub layout-returns-clause-complete : goal.layout-returns-clause-complete
layout-returns-clause-complete t c x rest m a =
    let a0 = layout_ahead _ _ x rest a in
    let b1 = c.in_ok-attributes.ensures.complete (out-Layout x).attributes.items _ (begins_not extends_attributes kind.Identifier _ refl (body_begins (out-Layout x).body rest)) a0 in
    c.in_ok-body.ensures.complete (out-Layout x).body _ tt b1

pub layout_body-returns-in_err-modifiers-clause-complete : goal.layout_body-returns-in_err-modifiers-clause-complete
layout_body-returns-in_err-modifiers-clause-complete t c x rest m a =
    let y = body_of x in
    let a0 = body_ahead _ _ x rest a in
    let h = c.in_err-modifiers.ensures.complete y.modifiers _ (tail_may y.tail rest) a0 in
    stops _ _ _ _ c.from_residual.ensures (λ x g. g) h

pub layout_body-returns-in_err-struct_layout-clause-complete : goal.layout_body-returns-in_err-struct_layout-clause-complete
layout_body-returns-in_err-struct_layout-clause-complete t c x rest m a =
    let y = body_of x in
    let a0 = body_ahead _ _ x rest a in
    let b1 = c.in_ok-modifiers.ensures.complete y.modifiers _ (tail_may y.tail rest) a0 in
    let u = struct_tail_ahead _ _ y.tail y.modifiers rest (c.is_next_word.ensures.next.0 c.if-is_next_word.true) y.fits b1 in
    let e = c.in_ok-modifiers.ensures.strictness y.modifiers _ (tail_may y.tail rest) a0 u.1 in
    let h = c.in_err-struct_layout.ensures.complete e u.0 _ tt u.2 in
    stops _ _ _ _ c.from_residual-in_err-struct_layout.ensures (λ x g. g) h

pub layout_body-returns-then-is_next_word-clause-complete : goal.layout_body-returns-then-is_next_word-clause-complete
layout_body-returns-then-is_next_word-clause-complete t c x rest m a =
    let y = body_of x in
    let a0 = body_ahead _ _ x rest a in
    let b1 = c.in_ok-modifiers.ensures.complete y.modifiers _ (tail_may y.tail rest) a0 in
    let u = struct_tail_ahead _ _ y.tail y.modifiers rest (c.is_next_word.ensures.next.0 c.if-is_next_word.true) y.fits b1 in
    let e = c.in_ok-modifiers.ensures.strictness y.modifiers _ (tail_may y.tail rest) a0 u.1 in
    c.in_ok-struct_layout.ensures.complete e u.0 _ tt u.2

pub layout_body-returns-in_err-table_layout-clause-complete : goal.layout_body-returns-in_err-table_layout-clause-complete
layout_body-returns-in_err-table_layout-clause-complete t c x rest m a =
    let y = body_of x in
    let a0 = body_ahead _ _ x rest a in
    let b1 = c.in_ok-modifiers.ensures.complete y.modifiers _ (tail_may y.tail rest) a0 in
    let u = table_tail_ahead _ _ y.tail y.modifiers rest (c.is_next_word-2.ensures.next.0 c.if-is_next_word-2.true) y.fits b1 in
    let e = c.in_ok-modifiers.ensures.strictness y.modifiers _ (tail_may y.tail rest) a0 u.1 in
    let h = c.in_err-table_layout.ensures.complete e u.0 _ tt u.2 in
    stops _ _ _ _ c.from_residual-in_err-table_layout.ensures (λ x g. g) h

pub layout_body-returns-then-is_next_word-2-clause-complete : goal.layout_body-returns-then-is_next_word-2-clause-complete
layout_body-returns-then-is_next_word-2-clause-complete t c x rest m a =
    let y = body_of x in
    let a0 = body_ahead _ _ x rest a in
    let b1 = c.in_ok-modifiers.ensures.complete y.modifiers _ (tail_may y.tail rest) a0 in
    let u = table_tail_ahead _ _ y.tail y.modifiers rest (c.is_next_word-2.ensures.next.0 c.if-is_next_word-2.true) y.fits b1 in
    let e = c.in_ok-modifiers.ensures.strictness y.modifiers _ (tail_may y.tail rest) a0 u.1 in
    c.in_ok-table_layout.ensures.complete e u.0 _ tt u.2

pub layout_body-returns-in_err-union_layout-clause-complete : goal.layout_body-returns-in_err-union_layout-clause-complete
layout_body-returns-in_err-union_layout-clause-complete t c x rest m a =
    let y = body_of x in
    let a0 = body_ahead _ _ x rest a in
    let b1 = c.in_ok-modifiers.ensures.complete y.modifiers _ (tail_may y.tail rest) a0 in
    let u = union_tail_ahead _ _ y.tail rest (c.is_next_word-3.ensures.next.0 c.if-is_next_word-3.true) b1 in
    let h = c.in_err-union_layout.ensures.complete u.0 _ tt u.1 in
    stops _ _ _ _ c.from_residual-in_err-union_layout.ensures (λ x g. g) h

pub layout_body-returns-then-is_next_word-3-clause-complete : goal.layout_body-returns-then-is_next_word-3-clause-complete
layout_body-returns-then-is_next_word-3-clause-complete t c x rest m a =
    let y = body_of x in
    let a0 = body_ahead _ _ x rest a in
    let b1 = c.in_ok-modifiers.ensures.complete y.modifiers _ (tail_may y.tail rest) a0 in
    let u = union_tail_ahead _ _ y.tail rest (c.is_next_word-3.ensures.next.0 c.if-is_next_word-3.true) b1 in
    c.in_ok-union_layout.ensures.complete u.0 _ tt u.1

pub layout_body-returns-in_err-values_layout-clause-complete : goal.layout_body-returns-in_err-values_layout-clause-complete
layout_body-returns-in_err-values_layout-clause-complete t c x rest m a =
    let y = body_of x in
    let a0 = body_ahead _ _ x rest a in
    let b1 = c.in_ok-modifiers.ensures.complete y.modifiers _ (tail_may y.tail rest) a0 in
    let u = values_tail_ahead _ _ y.tail y.modifiers rest (λ e. false≢true (c.if-is_next_word.ensures.next.1 e)) (λ e. false≢true (c.if-is_next_word-2.ensures.next.1 e)) (λ e. false≢true (c.if-is_next_word-3.ensures.next.1 e)) y.fits b1 in
    let e = c.in_ok-modifiers.ensures.resource y.modifiers _ (tail_may y.tail rest) a0 u.1 in
    let h = c.in_err-values_layout.ensures.complete e u.0 _ tt u.2 in
    stops _ _ _ _ c.from_residual-in_err-values_layout.ensures (λ x g. g) h

pub layout_body-returns-clause-complete : goal.layout_body-returns-clause-complete
layout_body-returns-clause-complete t c x rest m a =
    let y = body_of x in
    let a0 = body_ahead _ _ x rest a in
    let b1 = c.in_ok-modifiers.ensures.complete y.modifiers _ (tail_may y.tail rest) a0 in
    let u = values_tail_ahead _ _ y.tail y.modifiers rest (λ e. false≢true (c.if-is_next_word.ensures.next.1 e)) (λ e. false≢true (c.if-is_next_word-2.ensures.next.1 e)) (λ e. false≢true (c.if-is_next_word-3.ensures.next.1 e)) y.fits b1 in
    let e = c.in_ok-modifiers.ensures.resource y.modifiers _ (tail_may y.tail rest) a0 u.1 in
    c.in_ok-values_layout.ensures.complete e u.0 _ tt u.2

pub struct_layout-returns-in_err-resource-clause-complete : goal.struct_layout-returns-in_err-resource-clause-complete
struct_layout-returns-in_err-resource-clause-complete t c e x rest m a =
    absurd (false≢true (c.in_err-resource.ensures.complete e))

pub struct_layout-returns-in_err-keyword-clause-complete : goal.struct_layout-returns-in_err-keyword-clause-complete
struct_layout-returns-in_err-keyword-clause-complete t c e x rest m a =
    let a0 = block_ahead _ _ (codes "struct") member_leaves x rest a in
    let h = c.in_err-keyword.ensures.complete x.word _ tt a0 in
    stops _ _ _ _ c.from_residual-in_err-keyword.ensures (λ x g. g) h

pub struct_layout-returns-in_err-left-clause-complete : goal.struct_layout-returns-in_err-left-clause-complete
struct_layout-returns-in_err-left-clause-complete t c e x rest m a =
    let a0 = block_ahead _ _ (codes "struct") member_leaves x rest a in
    let b1 = c.in_ok-keyword.ensures.complete x.word _ tt a0 in
    let h = c.in_err-left.ensures.complete x.left _ tt b1 in
    stops _ _ _ _ c.from_residual-in_err-left.ensures (λ x g. g) h

pub struct_layout-returns-in_err-members-clause-complete : goal.struct_layout-returns-in_err-members-clause-complete
struct_layout-returns-in_err-members-clause-complete t c e x rest m a =
    let a0 = block_ahead _ _ (codes "struct") member_leaves x rest a in
    let b1 = c.in_ok-keyword.ensures.complete x.word _ tt a0 in
    let b2 = c.in_ok-left.ensures.complete x.left _ tt b1 in
    let h = c.in_err-members.ensures.complete x.members _ refl b2 in
    stops _ _ _ _ c.from_residual-in_err-members.ensures (λ x g. g) h

pub struct_layout-returns-in_err-right-clause-complete : goal.struct_layout-returns-in_err-right-clause-complete
struct_layout-returns-in_err-right-clause-complete t c e x rest m a =
    let a0 = block_ahead _ _ (codes "struct") member_leaves x rest a in
    let b1 = c.in_ok-keyword.ensures.complete x.word _ tt a0 in
    let b2 = c.in_ok-left.ensures.complete x.left _ tt b1 in
    let b3 = c.in_ok-members.ensures.complete x.members _ refl b2 in
    let h = c.in_err-right.ensures.complete x.right _ tt b3 in
    stops _ _ _ _ c.from_residual-in_err-right.ensures (λ x g. g) h

pub struct_layout-returns-clause-complete : goal.struct_layout-returns-clause-complete
struct_layout-returns-clause-complete t c e x rest m a =
    let a0 = block_ahead _ _ (codes "struct") member_leaves x rest a in
    let b1 = c.in_ok-keyword.ensures.complete x.word _ tt a0 in
    let b2 = c.in_ok-left.ensures.complete x.left _ tt b1 in
    let b3 = c.in_ok-members.ensures.complete x.members _ refl b2 in
    c.in_ok-right.ensures.complete x.right _ tt b3

pub table_layout-returns-in_err-resource-clause-complete : goal.table_layout-returns-in_err-resource-clause-complete
table_layout-returns-in_err-resource-clause-complete t c e x rest m a =
    absurd (false≢true (c.in_err-resource.ensures.complete e))

pub table_layout-returns-in_err-keyword-clause-complete : goal.table_layout-returns-in_err-keyword-clause-complete
table_layout-returns-in_err-keyword-clause-complete t c e x rest m a =
    let a0 = block_ahead _ _ (codes "table") ordinal_member_leaves x rest a in
    let h = c.in_err-keyword.ensures.complete x.word _ tt a0 in
    stops _ _ _ _ c.from_residual-in_err-keyword.ensures (λ x g. g) h

pub table_layout-returns-in_err-left-clause-complete : goal.table_layout-returns-in_err-left-clause-complete
table_layout-returns-in_err-left-clause-complete t c e x rest m a =
    let a0 = block_ahead _ _ (codes "table") ordinal_member_leaves x rest a in
    let b1 = c.in_ok-keyword.ensures.complete x.word _ tt a0 in
    let h = c.in_err-left.ensures.complete x.left _ tt b1 in
    stops _ _ _ _ c.from_residual-in_err-left.ensures (λ x g. g) h

pub table_layout-returns-in_err-members-clause-complete : goal.table_layout-returns-in_err-members-clause-complete
table_layout-returns-in_err-members-clause-complete t c e x rest m a =
    let a0 = block_ahead _ _ (codes "table") ordinal_member_leaves x rest a in
    let b1 = c.in_ok-keyword.ensures.complete x.word _ tt a0 in
    let b2 = c.in_ok-left.ensures.complete x.left _ tt b1 in
    let h = c.in_err-members.ensures.complete x.members _ refl b2 in
    stops _ _ _ _ c.from_residual-in_err-members.ensures (λ x g. g) h

pub table_layout-returns-in_err-right-clause-complete : goal.table_layout-returns-in_err-right-clause-complete
table_layout-returns-in_err-right-clause-complete t c e x rest m a =
    let a0 = block_ahead _ _ (codes "table") ordinal_member_leaves x rest a in
    let b1 = c.in_ok-keyword.ensures.complete x.word _ tt a0 in
    let b2 = c.in_ok-left.ensures.complete x.left _ tt b1 in
    let b3 = c.in_ok-members.ensures.complete x.members _ refl b2 in
    let h = c.in_err-right.ensures.complete x.right _ tt b3 in
    stops _ _ _ _ c.from_residual-in_err-right.ensures (λ x g. g) h

pub table_layout-returns-clause-complete : goal.table_layout-returns-clause-complete
table_layout-returns-clause-complete t c e x rest m a =
    let a0 = block_ahead _ _ (codes "table") ordinal_member_leaves x rest a in
    let b1 = c.in_ok-keyword.ensures.complete x.word _ tt a0 in
    let b2 = c.in_ok-left.ensures.complete x.left _ tt b1 in
    let b3 = c.in_ok-members.ensures.complete x.members _ refl b2 in
    c.in_ok-right.ensures.complete x.right _ tt b3

pub union_layout-returns-in_err-keyword-clause-complete : goal.union_layout-returns-in_err-keyword-clause-complete
union_layout-returns-in_err-keyword-clause-complete t c x rest m a =
    let a0 = block_ahead _ _ (codes "union") ordinal_member_leaves x rest a in
    let h = c.in_err-keyword.ensures.complete x.word _ tt a0 in
    stops _ _ _ _ c.from_residual.ensures (λ x g. g) h

pub union_layout-returns-in_err-left-clause-complete : goal.union_layout-returns-in_err-left-clause-complete
union_layout-returns-in_err-left-clause-complete t c x rest m a =
    let a0 = block_ahead _ _ (codes "union") ordinal_member_leaves x rest a in
    let b1 = c.in_ok-keyword.ensures.complete x.word _ tt a0 in
    let h = c.in_err-left.ensures.complete x.left _ tt b1 in
    stops _ _ _ _ c.from_residual-in_err-left.ensures (λ x g. g) h

pub union_layout-returns-in_err-members-clause-complete : goal.union_layout-returns-in_err-members-clause-complete
union_layout-returns-in_err-members-clause-complete t c x rest m a =
    let a0 = block_ahead _ _ (codes "union") ordinal_member_leaves x rest a in
    let b1 = c.in_ok-keyword.ensures.complete x.word _ tt a0 in
    let b2 = c.in_ok-left.ensures.complete x.left _ tt b1 in
    let h = c.in_err-members.ensures.complete x.members _ refl b2 in
    stops _ _ _ _ c.from_residual-in_err-members.ensures (λ x g. g) h

pub union_layout-returns-in_err-right-clause-complete : goal.union_layout-returns-in_err-right-clause-complete
union_layout-returns-in_err-right-clause-complete t c x rest m a =
    let a0 = block_ahead _ _ (codes "union") ordinal_member_leaves x rest a in
    let b1 = c.in_ok-keyword.ensures.complete x.word _ tt a0 in
    let b2 = c.in_ok-left.ensures.complete x.left _ tt b1 in
    let b3 = c.in_ok-members.ensures.complete x.members _ refl b2 in
    let h = c.in_err-right.ensures.complete x.right _ tt b3 in
    stops _ _ _ _ c.from_residual-in_err-right.ensures (λ x g. g) h

pub union_layout-returns-clause-complete : goal.union_layout-returns-clause-complete
union_layout-returns-clause-complete t c x rest m a =
    let a0 = block_ahead _ _ (codes "union") ordinal_member_leaves x rest a in
    let b1 = c.in_ok-keyword.ensures.complete x.word _ tt a0 in
    let b2 = c.in_ok-left.ensures.complete x.left _ tt b1 in
    let b3 = c.in_ok-members.ensures.complete x.members _ refl b2 in
    c.in_ok-right.ensures.complete x.right _ tt b3

pub values_layout-returns-in_err-strictness-clause-complete : goal.values_layout-returns-in_err-strictness-clause-complete
values_layout-returns-in_err-strictness-clause-complete t c e x rest m a =
    absurd (false≢true (c.in_err-strictness.ensures.complete e))

pub values_layout-returns-in_err-keyword-clause-complete : goal.values_layout-returns-in_err-keyword-clause-complete
values_layout-returns-in_err-keyword-clause-complete t c e x rest m a =
    let a0 = values_ahead _ _ x rest a in
    let h = c.in_err-keyword.ensures.complete x.word _ tt a0 in
    stops _ _ _ _ c.from_residual-in_err-keyword.ensures (λ x g. g) h

pub values_layout-returns-in_err-underlying-clause-complete : goal.values_layout-returns-in_err-underlying-clause-complete
values_layout-returns-in_err-underlying-clause-complete t c e x rest m a =
    let a0 = values_ahead _ _ x rest a in
    let b1 = c.in_ok-keyword.ensures.complete x.word _ tt a0 in
    let h = c.in_err-underlying.ensures.complete x.underlying _ refl b1 in
    stops _ _ _ _ c.from_residual-in_err-underlying.ensures (λ x g. g) h

pub values_layout-returns-in_err-left-clause-complete : goal.values_layout-returns-in_err-left-clause-complete
values_layout-returns-in_err-left-clause-complete t c e x rest m a =
    let a0 = values_ahead _ _ x rest a in
    let b1 = c.in_ok-keyword.ensures.complete x.word _ tt a0 in
    let b2 = c.in_ok-underlying.ensures.complete x.underlying _ refl b1 in
    let h = c.in_err-left.ensures.complete x.left _ tt b2 in
    stops _ _ _ _ c.from_residual-in_err-left.ensures (λ x g. g) h

pub values_layout-returns-in_err-members-clause-complete : goal.values_layout-returns-in_err-members-clause-complete
values_layout-returns-in_err-members-clause-complete t c e x rest m a =
    let a0 = values_ahead _ _ x rest a in
    let b1 = c.in_ok-keyword.ensures.complete x.word _ tt a0 in
    let b2 = c.in_ok-underlying.ensures.complete x.underlying _ refl b1 in
    let b3 = c.in_ok-left.ensures.complete x.left _ tt b2 in
    let h = c.in_err-members.ensures.complete x.members _ refl b3 in
    stops _ _ _ _ c.from_residual-in_err-members.ensures (λ x g. g) h

pub values_layout-returns-in_err-right-clause-complete : goal.values_layout-returns-in_err-right-clause-complete
values_layout-returns-in_err-right-clause-complete t c e x rest m a =
    let a0 = values_ahead _ _ x rest a in
    let b1 = c.in_ok-keyword.ensures.complete x.word _ tt a0 in
    let b2 = c.in_ok-underlying.ensures.complete x.underlying _ refl b1 in
    let b3 = c.in_ok-left.ensures.complete x.left _ tt b2 in
    let b4 = c.in_ok-members.ensures.complete x.members _ refl b3 in
    let h = c.in_err-right.ensures.complete x.right _ tt b4 in
    stops _ _ _ _ c.from_residual-in_err-right.ensures (λ x g. g) h

pub values_layout-returns-clause-complete : goal.values_layout-returns-clause-complete
values_layout-returns-clause-complete t c e x rest m a =
    let a0 = values_ahead _ _ x rest a in
    let b1 = c.in_ok-keyword.ensures.complete x.word _ tt a0 in
    let b2 = c.in_ok-underlying.ensures.complete x.underlying _ refl b1 in
    let b3 = c.in_ok-left.ensures.complete x.left _ tt b2 in
    let b4 = c.in_ok-members.ensures.complete x.members _ refl b3 in
    c.in_ok-right.ensures.complete x.right _ tt b4

pub underlying-returns-then-not-is_next-clause-complete : goal.underlying-returns-then-not-is_next-clause-complete
underlying-returns-then-not-is_next-clause-complete t c x rest m a =
    kind_none underlying_leaves kind.Colon _ _ x rest underlying_begins (λ e. false≢true (c.if-not-is_next.ensures.next.1 e)) a

pub underlying-returns-in_err-colon-clause-complete : goal.underlying-returns-in_err-colon-clause-complete
underlying-returns-in_err-colon-clause-complete t c x rest m a =
    let y = kind_some underlying_leaves kind.Colon _ _ x rest (other_begins extends_type kind.Colon kind.LeftBrace rest refl refl m) (c.is_next.ensures.next.0 c.if-not-is_next.false) a in
    let a0 = underlying_ahead _ _ y.0 rest y.1 in
    let h = c.in_err-colon.ensures.complete (out-Underlying y.0).colon _ tt a0 in
    stops _ _ _ _ c.from_residual.ensures (λ x g. g) h

pub underlying-returns-in_err-named-clause-complete : goal.underlying-returns-in_err-named-clause-complete
underlying-returns-in_err-named-clause-complete t c x rest m a =
    let y = kind_some underlying_leaves kind.Colon _ _ x rest (other_begins extends_type kind.Colon kind.LeftBrace rest refl refl m) (c.is_next.ensures.next.0 c.if-not-is_next.false) a in
    let a0 = underlying_ahead _ _ y.0 rest y.1 in
    let b1 = c.in_ok-colon.ensures.complete (out-Underlying y.0).colon _ tt a0 in
    let h = c.in_err-named.ensures.complete (out-Underlying y.0).named _ (begins_not extends_type kind.LeftBrace rest refl m) b1 in
    stops _ _ _ _ c.from_residual-in_err-named.ensures (λ x g. g) h

pub underlying-returns-clause-complete : goal.underlying-returns-clause-complete
underlying-returns-clause-complete t c x rest m a =
    let y = kind_some underlying_leaves kind.Colon _ _ x rest (other_begins extends_type kind.Colon kind.LeftBrace rest refl refl m) (c.is_next.ensures.next.0 c.if-not-is_next.false) a in
    let a0 = underlying_ahead _ _ y.0 rest y.1 in
    let b1 = c.in_ok-colon.ensures.complete (out-Underlying y.0).colon _ tt a0 in
    c.in_ok-named.ensures.complete (out-Underlying y.0).named _ (begins_not extends_type kind.LeftBrace rest refl m) b1

pub members-loop-members-init : goal.members-loop-members-init
members-loop-members-init t c = record {
  reads = search (rules, reads_none);
  left = λ xs rest m a. (xs, a);
}

pub members-loop-members-preserved : goal.members-loop-members-preserved
members-loop-members-preserved t c = record {
  reads = rw c.in_ok-push.ensures.items (reads_push member_leaves _ _ _ _ _ _ c.loop-members.invariant.reads c.in_ok-member.ensures.reads);
  left = λ xs rest m a.
      let h = c.loop-members.invariant.left xs rest m a in
      let more = members_more member_leaves kind.RightBrace _ _ h.0 rest m (λ i. false≢true (c.loop-members-test.ensures.next.1 i)) h.1 in
      (more.1, c.in_ok-member.ensures.complete more.0 _ tt more.2);
}

pub members-returns-in_err-member-clause-complete : goal.members-returns-in_err-member-clause-complete
members-returns-in_err-member-clause-complete t c = λ xs rest m a.
    let h = c.loop-members.invariant.left xs rest m a in
    let more = members_more member_leaves kind.RightBrace _ _ h.0 rest m (λ i. false≢true (c.loop-members-test.ensures.next.1 i)) h.1 in
    let stop = c.in_err-member.ensures.complete more.0 _ tt more.2 in
    stops _ _ _ _ c.from_residual.ensures (λ x g. g) stop

pub members-returns-clause-reads : goal.members-returns-clause-reads
members-returns-clause-reads t c = c.loop-members.invariant.reads

pub members-returns-clause-complete : goal.members-returns-clause-complete
members-returns-clause-complete t c = λ xs rest m a.
    let h = c.loop-members.invariant.left xs rest m a in
    members_done member_leaves kind.RightBrace _ _ h.0 rest member_apart (c.is_next.ensures.next.0 c.loop-members-test.false) h.1

pub ordinal_members-loop-members-init : goal.ordinal_members-loop-members-init
ordinal_members-loop-members-init t c = record {
  reads = search (rules, reads_none);
  left = λ xs rest m a. (xs, a);
}

pub ordinal_members-loop-members-preserved : goal.ordinal_members-loop-members-preserved
ordinal_members-loop-members-preserved t c = record {
  reads = rw c.in_ok-push.ensures.items (reads_push ordinal_member_leaves _ _ _ _ _ _ c.loop-members.invariant.reads c.in_ok-ordinal_member.ensures.reads);
  left = λ xs rest m a.
      let h = c.loop-members.invariant.left xs rest m a in
      let more = members_more ordinal_member_leaves kind.RightBrace _ _ h.0 rest m (λ i. false≢true (c.loop-members-test.ensures.next.1 i)) h.1 in
      (more.1, c.in_ok-ordinal_member.ensures.complete more.0 _ tt more.2);
}

pub ordinal_members-returns-in_err-ordinal_member-clause-complete : goal.ordinal_members-returns-in_err-ordinal_member-clause-complete
ordinal_members-returns-in_err-ordinal_member-clause-complete t c = λ xs rest m a.
    let h = c.loop-members.invariant.left xs rest m a in
    let more = members_more ordinal_member_leaves kind.RightBrace _ _ h.0 rest m (λ i. false≢true (c.loop-members-test.ensures.next.1 i)) h.1 in
    let stop = c.in_err-ordinal_member.ensures.complete more.0 _ tt more.2 in
    stops _ _ _ _ c.from_residual.ensures (λ x g. g) stop

pub ordinal_members-returns-clause-reads : goal.ordinal_members-returns-clause-reads
ordinal_members-returns-clause-reads t c = c.loop-members.invariant.reads

pub ordinal_members-returns-clause-complete : goal.ordinal_members-returns-clause-complete
ordinal_members-returns-clause-complete t c = λ xs rest m a.
    let h = c.loop-members.invariant.left xs rest m a in
    members_done ordinal_member_leaves kind.RightBrace _ _ h.0 rest ordinal_member_apart (c.is_next.ensures.next.0 c.loop-members-test.false) h.1

pub member-returns-in_err-attributes-clause-complete : goal.member-returns-in_err-attributes-clause-complete
member-returns-in_err-attributes-clause-complete t c x rest m a =
    let a0 = member_ahead _ _ x rest a in
    let h = c.in_err-attributes.ensures.complete (out-Member x).attributes.items _ refl a0 in
    stops _ _ _ _ c.from_residual.ensures (λ x g. g) h

pub member-returns-in_err-name-clause-complete : goal.member-returns-in_err-name-clause-complete
member-returns-in_err-name-clause-complete t c x rest m a =
    let a0 = member_ahead _ _ x rest a in
    let b1 = c.in_ok-attributes.ensures.complete (out-Member x).attributes.items _ refl a0 in
    let h = c.in_err-name.ensures.complete (out-Member x).name _ tt b1 in
    stops _ _ _ _ c.from_residual-in_err-name.ensures (λ x g. g) h

pub member-returns-in_err-constructor-clause-complete : goal.member-returns-in_err-constructor-clause-complete
member-returns-in_err-constructor-clause-complete t c x rest m a =
    let a0 = member_ahead _ _ x rest a in
    let b1 = c.in_ok-attributes.ensures.complete (out-Member x).attributes.items _ refl a0 in
    let b2 = c.in_ok-name.ensures.complete (out-Member x).name _ tt b1 in
    let h = c.in_err-constructor.ensures.complete (out-Member x).constructor _ refl b2 in
    stops _ _ _ _ c.from_residual-in_err-constructor.ensures (λ x g. g) h

pub member-returns-in_err-semicolon-clause-complete : goal.member-returns-in_err-semicolon-clause-complete
member-returns-in_err-semicolon-clause-complete t c x rest m a =
    let a0 = member_ahead _ _ x rest a in
    let b1 = c.in_ok-attributes.ensures.complete (out-Member x).attributes.items _ refl a0 in
    let b2 = c.in_ok-name.ensures.complete (out-Member x).name _ tt b1 in
    let b3 = c.in_ok-constructor.ensures.complete (out-Member x).constructor _ refl b2 in
    let h = c.in_err-semicolon.ensures.complete (out-Member x).semicolon _ tt b3 in
    stops _ _ _ _ c.from_residual-in_err-semicolon.ensures (λ x g. g) h

pub member-returns-clause-complete : goal.member-returns-clause-complete
member-returns-clause-complete t c x rest m a =
    let a0 = member_ahead _ _ x rest a in
    let b1 = c.in_ok-attributes.ensures.complete (out-Member x).attributes.items _ refl a0 in
    let b2 = c.in_ok-name.ensures.complete (out-Member x).name _ tt b1 in
    let b3 = c.in_ok-constructor.ensures.complete (out-Member x).constructor _ refl b2 in
    c.in_ok-semicolon.ensures.complete (out-Member x).semicolon _ tt b3

pub ordinal_member-returns-in_err-attributes-clause-complete : goal.ordinal_member-returns-in_err-attributes-clause-complete
ordinal_member-returns-in_err-attributes-clause-complete t c x rest m a =
    let a0 = ordinal_member_ahead _ _ x rest a in
    let h = c.in_err-attributes.ensures.complete (out-OrdinalMember x).attributes.items _ refl a0 in
    stops _ _ _ _ c.from_residual.ensures (λ x g. g) h

pub ordinal_member-returns-in_err-ordinal-clause-complete : goal.ordinal_member-returns-in_err-ordinal-clause-complete
ordinal_member-returns-in_err-ordinal-clause-complete t c x rest m a =
    let a0 = ordinal_member_ahead _ _ x rest a in
    let b1 = c.in_ok-attributes.ensures.complete (out-OrdinalMember x).attributes.items _ refl a0 in
    let h = c.in_err-ordinal.ensures.complete (out-OrdinalMember x).ordinal _ tt b1 in
    stops _ _ _ _ c.from_residual-in_err-ordinal.ensures (λ x g. g) h

pub ordinal_member-returns-in_err-colon-clause-complete : goal.ordinal_member-returns-in_err-colon-clause-complete
ordinal_member-returns-in_err-colon-clause-complete t c x rest m a =
    let a0 = ordinal_member_ahead _ _ x rest a in
    let b1 = c.in_ok-attributes.ensures.complete (out-OrdinalMember x).attributes.items _ refl a0 in
    let b2 = c.in_ok-ordinal.ensures.complete (out-OrdinalMember x).ordinal _ tt b1 in
    let h = c.in_err-colon.ensures.complete (out-OrdinalMember x).colon _ tt b2 in
    stops _ _ _ _ c.from_residual-in_err-colon.ensures (λ x g. g) h

pub ordinal_member-returns-in_err-body-clause-complete : goal.ordinal_member-returns-in_err-body-clause-complete
ordinal_member-returns-in_err-body-clause-complete t c x rest m a =
    let a0 = ordinal_member_ahead _ _ x rest a in
    let b1 = c.in_ok-attributes.ensures.complete (out-OrdinalMember x).attributes.items _ refl a0 in
    let b2 = c.in_ok-ordinal.ensures.complete (out-OrdinalMember x).ordinal _ tt b1 in
    let b3 = c.in_ok-colon.ensures.complete (out-OrdinalMember x).colon _ tt b2 in
    let h = c.in_err-body.ensures.complete (out-OrdinalMember x).body _ refl b3 in
    stops _ _ _ _ c.from_residual-in_err-body.ensures (λ x g. g) h

pub ordinal_member-returns-in_err-semicolon-clause-complete : goal.ordinal_member-returns-in_err-semicolon-clause-complete
ordinal_member-returns-in_err-semicolon-clause-complete t c x rest m a =
    let a0 = ordinal_member_ahead _ _ x rest a in
    let b1 = c.in_ok-attributes.ensures.complete (out-OrdinalMember x).attributes.items _ refl a0 in
    let b2 = c.in_ok-ordinal.ensures.complete (out-OrdinalMember x).ordinal _ tt b1 in
    let b3 = c.in_ok-colon.ensures.complete (out-OrdinalMember x).colon _ tt b2 in
    let b4 = c.in_ok-body.ensures.complete (out-OrdinalMember x).body _ refl b3 in
    let h = c.in_err-semicolon.ensures.complete (out-OrdinalMember x).semicolon _ tt b4 in
    stops _ _ _ _ c.from_residual-in_err-semicolon.ensures (λ x g. g) h

pub ordinal_member-returns-clause-complete : goal.ordinal_member-returns-clause-complete
ordinal_member-returns-clause-complete t c x rest m a =
    let a0 = ordinal_member_ahead _ _ x rest a in
    let b1 = c.in_ok-attributes.ensures.complete (out-OrdinalMember x).attributes.items _ refl a0 in
    let b2 = c.in_ok-ordinal.ensures.complete (out-OrdinalMember x).ordinal _ tt b1 in
    let b3 = c.in_ok-colon.ensures.complete (out-OrdinalMember x).colon _ tt b2 in
    let b4 = c.in_ok-body.ensures.complete (out-OrdinalMember x).body _ refl b3 in
    c.in_ok-semicolon.ensures.complete (out-OrdinalMember x).semicolon _ tt b4

pub named_type-returns-clause-reads : goal.named_type-returns-clause-reads
named_type-returns-clause-reads t c =
    named_reads _ _ _ _ _ c.in_ok-path.path c.in_ok-arguments.arguments c.in_ok-constraints.constraints
    c.in_ok-path.ensures.reads c.in_ok-arguments.ensures.reads c.in_ok-constraints.ensures.reads

pub ordinal_body-returns-in_err-keyword-clause-complete : goal.ordinal_body-returns-in_err-keyword-clause-complete
ordinal_body-returns-in_err-keyword-clause-complete t c x rest m a =
    let i = c.begins_reserved.ensures.0 c.if-begins_reserved.true in
    let y = reserved_ahead _ _ x rest i.0 i.1 a in
    let h = c.in_err-keyword.ensures.complete y.0 _ tt y.1 in
    stops _ _ _ _ c.from_residual.ensures (λ x g. g) h

pub ordinal_body-returns-then-begins_reserved-clause-complete : goal.ordinal_body-returns-then-begins_reserved-clause-complete
ordinal_body-returns-then-begins_reserved-clause-complete t c x rest m a =
    let i = c.begins_reserved.ensures.0 c.if-begins_reserved.true in
    let y = reserved_ahead _ _ x rest i.0 i.1 a in
    c.in_ok-keyword.ensures.complete y.0 _ tt y.1

pub ordinal_body-returns-clause-reads : goal.ordinal_body-returns-clause-reads
ordinal_body-returns-clause-reads t c = typed_reads _ _ _ _ c.in_ok-name.name c.in_ok-constructor.constructor c.in_ok-name.ensures.reads c.in_ok-constructor.ensures.reads

pub ordinal_body-returns-in_err-constructor-clause-complete : goal.ordinal_body-returns-in_err-constructor-clause-complete
ordinal_body-returns-in_err-constructor-clause-complete t c x rest m a =
    let y = typed_ahead _ _ x rest m (λ i j. false≢true (c.if-begins_reserved.ensures.1 (i, j))) a in
    let b1 = c.in_ok-name.ensures.complete y.0 _ tt y.2 in
    let h = c.in_err-constructor.ensures.complete y.1 _ (begins_not extends_type kind.Semicolon rest refl m) b1 in
    stops _ _ _ _ c.from_residual-in_err-constructor.ensures (λ x g. g) h

pub ordinal_body-returns-clause-complete : goal.ordinal_body-returns-clause-complete
ordinal_body-returns-clause-complete t c x rest m a =
    let y = typed_ahead _ _ x rest m (λ i j. false≢true (c.if-begins_reserved.ensures.1 (i, j))) a in
    let b1 = c.in_ok-name.ensures.complete y.0 _ tt y.2 in
    c.in_ok-constructor.ensures.complete y.1 _ (begins_not extends_type kind.Semicolon rest refl m) b1

pub struct_layout-returns-clause-reads : goal.struct_layout-returns-clause-reads
struct_layout-returns-clause-reads t c start front =
    struct_reads _ _ _ _ _ _ _ _ c.in_ok-resource.resource c.in_ok-keyword.keyword c.in_ok-left.left c.in_ok-members.members c.in_ok-right.right c.in_ok-resource.ensures.leaves
    front c.in_ok-keyword.ensures.reads c.in_ok-left.ensures.reads c.in_ok-members.ensures.reads c.in_ok-right.ensures.reads

pub table_layout-returns-clause-reads : goal.table_layout-returns-clause-reads
table_layout-returns-clause-reads t c start front =
    table_reads _ _ _ _ _ _ _ _ c.in_ok-resource.resource c.in_ok-keyword.keyword c.in_ok-left.left c.in_ok-members.members c.in_ok-right.right c.in_ok-resource.ensures.leaves
    front c.in_ok-keyword.ensures.reads c.in_ok-left.ensures.reads c.in_ok-members.ensures.reads c.in_ok-right.ensures.reads

pub union_layout-returns-clause-reads : goal.union_layout-returns-clause-reads
union_layout-returns-clause-reads t c start front =
    union_reads _ _ _ _ _ _ _ c.args.modifiers c.in_ok-keyword.keyword c.in_ok-left.left c.in_ok-members.members c.in_ok-right.right
    front c.in_ok-keyword.ensures.reads c.in_ok-left.ensures.reads c.in_ok-members.ensures.reads c.in_ok-right.ensures.reads

pub values_layout-returns-clause-reads : goal.values_layout-returns-clause-reads
values_layout-returns-clause-reads t c start front =
    values_reads _ _ _ _ _ _ _ _ _ c.in_ok-strictness.strictness c.in_ok-keyword.keyword c.in_ok-underlying.underlying c.in_ok-left.left c.in_ok-members.members c.in_ok-right.right c.in_ok-strictness.ensures.leaves
    front c.in_ok-keyword.ensures.reads c.in_ok-underlying.ensures.reads c.in_ok-left.ensures.reads c.in_ok-members.ensures.reads c.in_ok-right.ensures.reads

pub layout-returns-clause-reads : goal.layout-returns-clause-reads
layout-returns-clause-reads t c = layout_reads _ _ _ _ c.in_ok-attributes.attributes c.in_ok-body.body c.in_ok-attributes.ensures.reads c.in_ok-body.ensures.reads

pub underlying-returns-clause-reads : goal.underlying-returns-clause-reads
underlying-returns-clause-reads t c = underlying_reads _ _ _ _ c.in_ok-colon.colon c.in_ok-named.named c.in_ok-colon.ensures.reads c.in_ok-named.ensures.reads

pub member-returns-clause-reads : goal.member-returns-clause-reads
member-returns-clause-reads t c =
    member_reads _ _ _ _ _ _ c.in_ok-attributes.attributes c.in_ok-name.name c.in_ok-constructor.constructor c.in_ok-semicolon.semicolon
    c.in_ok-attributes.ensures.reads c.in_ok-name.ensures.reads c.in_ok-constructor.ensures.reads c.in_ok-semicolon.ensures.reads

pub ordinal_member-returns-clause-reads : goal.ordinal_member-returns-clause-reads
ordinal_member-returns-clause-reads t c =
    ordinal_member_reads _ _ _ _ _ _ _ c.in_ok-attributes.attributes c.in_ok-ordinal.ordinal c.in_ok-colon.colon c.in_ok-body.body c.in_ok-semicolon.semicolon
    c.in_ok-attributes.ensures.reads c.in_ok-ordinal.ensures.reads c.in_ok-colon.ensures.reads c.in_ok-body.ensures.reads c.in_ok-semicolon.ensures.reads
