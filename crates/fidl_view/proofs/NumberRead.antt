-- The number that a view reads in a message with links, by the kind of its part's numbers.
use Rattle.std.proofs.Common.{◌≡◌, ℕ, ◌+◌, ◌<◌, ◌≤◌, List, length, slice_index, ap, ◌∙◌, arith}
use Rattle.std.specs.Prelude.{Option, Some, unwrap_or}
use Rattle.std.specs.Int.{byte_len}
use Rattle.fidl_wire.specs.Value.{Value}
use Rattle.fidl_wire.specs.Term.{Kind, width, uint8}
use Rattle.fidl_links.specs.Links.{Written, IsFree}
use Rattle.fidl_table_format.specs.declared.kind.EntryKind.{EntryKind}
use Rattle.fidl_table_format.specs.Kind.{number_type}
use Rattle.fidl_table_format.specs.Section.{header_of}
use Rattle.fidl_table_format.specs.Terms.{as_number}
use Rattle.fidl_table_format.specs.WellFormed.{WellFormed}
use Rattle.fidl_decode_model.specs.Links.{noted}
use Rattle.fidl_decode_model.specs.Model.{Shown}
use Rattle.fidl_view.specs.Numbers.{unsigned_at, signed_at}
use Rattle.fidl_view.specs.Parts.{numbers_of, unsigned_of, signed_of}
use Rattle.fidl_view.specs.Shows.{Shows, type_of}
use Rattle.fidl_view.proofs.Unlinked as unlinked
use Rattle.fidl_view.proofs.Viewing as viewing

module _ (d : Shown) (w : WellFormed d.table) (index place : ℕ) (lt : index < (header_of d.table).entries) where
  module _ (l : Written) (came : l.came ≡ d.bytes) (same : noted l ≡ d.links) (raw : List ℕ) (long : length raw ≡ length l.came)
      (agree : (k : ℕ) → k < length l.came → IsFree l k → slice_index raw k ≡ slice_index l.came k) where
    module _ (kind : EntryKind) (own : number_type kind ≡ numbers_of (type_of d index)) (fits : place + byte_len (width (as_number kind)) ≤ length d.bytes) where
      room : (number : Kind) → numbers_of (type_of d index) ≡ Some number → place + byte_len (width number) ≤ length d.bytes
      room number is =
          let wide = ap (λ (o : Option Kind). byte_len (width (unwrap_or o uint8))) (own ∙ is) in
          omega (arith, wide, fits)

      pub unsigned_read : (v : Value) → Shows d index place v → unsigned_at (number_type kind) raw place ≡ unsigned_of (type_of d index) v
      unsigned_read v s =
          ap (λ (o : Option Kind). unsigned_at o raw place) own
          ∙ unlinked.unsigned_same l d.bytes d.links came same raw long agree (numbers_of (type_of d index)) place room (λ number is. viewing.number_unlinked d w index place lt number is v s)
          ∙ viewing.unsigned_shown d w index place lt v s

      pub signed_read : (v : Value) → Shows d index place v → signed_at (number_type kind) raw place ≡ signed_of (type_of d index) v
      signed_read v s =
          ap (λ (o : Option Kind). signed_at o raw place) own
          ∙ unlinked.signed_same l d.bytes d.links came same raw long agree (numbers_of (type_of d index)) place room (λ number is. viewing.number_unlinked d w index place lt number is v s)
          ∙ viewing.signed_shown d w index place lt v s
