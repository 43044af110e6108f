-- The types of members, as the code holds the members.
use Rattle.std.proofs.Common.{◌≡◌, ℕ, ◌+◌, ◌<◌, Bool, true, false, List, [], ◌∷◌, length, map, get_or, take, Some, refl, ap, sym, ◌∙◌, arith}
use Rattle.std.specs.Prelude.{slice_get}
use Rattle.std.proofs.lemmas.Option.{slice_get-get_or}
use Rattle.std.proofs.Math.ListN.{get_or-map, length-map}
use Rattle.fidl_cycles.proofs.Lists.{all_take}
use Rattle.std.proofs.lemmas.List.{get_or_default}
use Rattle.fidl_wire.specs.Term.{Term, nothing}
use Rattle.fidl_ir.specs.declared.term.Definition.{Definition}
use Rattle.fidl_ir.specs.declared.term.Field.{Field}
use Rattle.fidl_ir.specs.declared.term.Row.{Row}
use Rattle.fidl_ir.specs.Terms.{term_view, fields_view, rows_view, definition_view, definitions_view}
use Rattle.fidl_ir.specs.Members.{field_types, row_types}
use Rattle.fidl_ir_rules.specs.Resources.{bears}
use Rattle.fidl_ir_rules.specs.Flags.{BearsAt, NoneBears}

abbrev pub field_type : Field → Term
field_type f = term_view f.of

abbrev pub row_type : Row → Term
row_type r = term_view r.of

pub fields_seen : (fs : List Field) → field_types (fields_view fs) ≡ map field_type fs
fields_seen [] = refl
fields_seen (f ∷ fs) = ap (λ (ts : List Term). term_view f.of ∷ ts) (fields_seen fs)

pub rows_seen : (rs : List Row) → row_types (rows_view rs) ≡ map row_type rs
rows_seen [] = refl
rows_seen (r ∷ rs) = ap (λ (ts : List Term). term_view r.of ∷ ts) (rows_seen rs)

module _ {X : Type 0} (g : X → Term) (types : List Term) (xs : List X) (seen : types ≡ map g xs) (i : ℕ) (x : X) (within : i < length xs) (is : x ≡ get_or xs i x) where
  type_is : get_or (map g xs) i (g x) ≡ g x
  type_is = get_or-map g xs i x ∙ ap g (sym is)

  type_within : i < length (map g xs)
  type_within = omega (arith, within, length-map xs g)

  -- the member that a loop has come to bears
  pub bears_at : (is_one : ℕ → Bool) → bears is_one (g x) ≡ true → BearsAt is_one types i
  bears_at is_one h = record {
    member = g x;
    among = ap (λ (ts : List Term). slice_get ts i) seen ∙ slice_get-get_or (map g xs) i (g x) type_within ∙ ap Some type_is;
    resource = h;
  }

  -- it does not, nor do those before it
  pub none_more : (is_one : ℕ → Bool) → NoneBears is_one (take i types) → bears is_one (g x) ≡ false → NoneBears is_one (take (i + 1) types)
  none_more is_one h k = all_take types i (g x) (omega (arith, type_within, ap length seen)) (sym (ap (λ (ts : List Term). get_or ts i (g x)) seen ∙ type_is)) (λ t. bears is_one t ≡ false) h k

-- a definition, by its number
pub definition_is : (ds : List Definition) (i : ℕ) (d : Definition) → i < length ds → d ≡ get_or ds i d → definition_view d ≡ get_or (definitions_view ds) i nothing
definition_is ds i d within is =
    let lt : i < length (definitions_view ds) = omega (arith, within, length-map ds definition_view) in
    ap definition_view is ∙ sym (get_or-map definition_view ds i d) ∙ get_or_default (definitions_view ds) i (definition_view d) nothing lt
