use Rattle.std.proofs.Common.{ap, map, refl, subst}
use Rattle.fidl_wire.specs.Term.{Term, resolve}
use Rattle.fidl_wire.specs.Term as ty
use Rattle.fidl_equivalence.specs.Alike.{IsNumbered}
use Rattle.fidl_equivalence.specs.Alike as like
use Rattle.fidl_ir.specs.Terms.{number_kind_view, term_view}
use Rattle.fidl_reachable_types.specs.Growing.{reference_view}
use Rattle.fidl_table_format.specs.Terms.{term_of}
use Rattle.fidl_table_check.proofs.Levels.{level}
use Rattle.fidl_table_check.proofs.definition.type_is.Goals as goal

pub returns-in-Bool : goal.returns-in-Bool
returns-in-Bool c = λ is terms bytes h.
    let R : Term → Term → Type 0 = λ t u. IsNumbered (map reference_view c.args.types.now) t u in
    level R (resolve terms (term_view c.args.of.now)) (term_of bytes h c.args.entry.now) ty.bool ty.bool (ap (λ x. resolve terms (term_view x)) c.in-Bool.is) (c.is_bool.ensures is bytes h) like.bool

pub returns-in-Number : goal.returns-in-Number
returns-in-Number c = λ is terms bytes h.
    let R : Term → Term → Type 0 = λ t u. IsNumbered (map reference_view c.args.types.now) t u in
    let one = ty.number (number_kind_view c.in-Number.kind) in
    level R (resolve terms (term_view c.args.of.now)) (term_of bytes h c.args.entry.now) one one (ap (λ x. resolve terms (term_view x)) c.in-Number.is) (c.is_number.ensures is bytes h) (like.number refl)

pub returns-in-Handle : goal.returns-in-Handle
returns-in-Handle c = λ is terms bytes h.
    let R : Term → Term → Type 0 = λ t u. IsNumbered (map reference_view c.args.types.now) t u in
    let one = ty.handle c.in-Handle.optional c.in-Handle.subtype c.in-Handle.rights in
    level R (resolve terms (term_view c.args.of.now)) (term_of bytes h c.args.entry.now) one one (ap (λ x. resolve terms (term_view x)) c.in-Handle.is) (c.is_handle.ensures is bytes h) (like.handle refl refl refl)

pub returns-in-Text : goal.returns-in-Text
returns-in-Text c = λ is terms bytes h.
    let R : Term → Term → Type 0 = λ t u. IsNumbered (map reference_view c.args.types.now) t u in
    let one = ty.string c.in-Text.optional c.in-Text.bound in
    level R (resolve terms (term_view c.args.of.now)) (term_of bytes h c.args.entry.now) one one (ap (λ x. resolve terms (term_view x)) c.in-Text.is) (c.is_text.ensures is bytes h) (like.string refl refl)

pub returns-then-is_vector : goal.returns-then-is_vector
returns-then-is_vector c = λ is terms bytes h.
    let R : Term → Term → Type 0 = λ t u. IsNumbered (map reference_view c.args.types.now) t u in
    let part = subst (λ t. R (term_view t) (ty.named c.args.entry.now.first)) c.deref.ensures (c.is_part.ensures is) in
    level R (resolve terms (term_view c.args.of.now)) (term_of bytes h c.args.entry.now)
    (ty.vector c.in-Vector.optional c.in-Vector.bound (term_view c.in-Vector.element.value)) (ty.vector c.in-Vector.optional c.in-Vector.bound (ty.named c.args.entry.now.first))
    (ap (λ x. resolve terms (term_view x)) c.in-Vector.is) (c.is_vector.ensures c.if-is_vector.true bytes h) (like.vector refl refl part)

pub returns-then-is_array : goal.returns-then-is_array
returns-then-is_array c = λ is terms bytes h.
    let R : Term → Term → Type 0 = λ t u. IsNumbered (map reference_view c.args.types.now) t u in
    let part = subst (λ t. R (term_view t) (ty.named c.args.entry.now.first)) c.deref-then-is_array.ensures (c.is_part-then-is_array.ensures is) in
    level R (resolve terms (term_view c.args.of.now)) (term_of bytes h c.args.entry.now)
    (ty.array (term_view c.in-Array.element.value) c.in-Array.count) (ty.array (ty.named c.args.entry.now.first) c.in-Array.count)
    (ap (λ x. resolve terms (term_view x)) c.in-Array.is) (c.is_array.ensures c.if-is_array.true bytes h) (like.array part refl)

pub returns-then-is_box : goal.returns-then-is_box
returns-then-is_box c = λ is terms bytes h.
    let R : Term → Term → Type 0 = λ t u. IsNumbered (map reference_view c.args.types.now) t u in
    level R (resolve terms (term_view c.args.of.now)) (term_of bytes h c.args.entry.now)
    (ty.box (ty.named c.in-Box.number)) (ty.box (ty.named c.args.entry.now.first))
    (ap (λ x. resolve terms (term_view x)) c.in-Box.is) (c.is_box.ensures c.if-is_box.true bytes h) (like.box (c.is_layout.ensures is))
