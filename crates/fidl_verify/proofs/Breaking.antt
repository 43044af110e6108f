-- From a test that failed to the fault that is told.
use Rattle.std.proofs.Common.{◌≡◌, ◌≢◌, ◌↔◌, ℕ, ◌<◌, ◌≤◌, List, length, true, false, IsTrue, None, subst, sym}
use Rattle.std.specs.Option.{option_map_or}
use Rattle.fidl_table_format.specs.declared.record.Header.{Header}
use Rattle.fidl_table_format.specs.declared.record.Entry.{Entry}
use Rattle.fidl_table_format.specs.Kind.{kind_of}
use Rattle.fidl_table_format.specs.Section.{header_of, table_length, entry_at, protocol_at, method_at}
use Rattle.fidl_verify.specs.declared.fault.TableFault.TheVariants.{BadMagic, BadVersion, Truncated, Surplus, BadKind, BadIndex, BadOffset, BadSize, BadNest, NotSorted, BadName, BadMethod}
use Rattle.fidl_table_format.specs.Uses.{is_known, uses_rows, uses_values}
use Rattle.fidl_table_format.specs.Entry.{HasShape, HasChildren, Follows, HasOffsets, HasSize, HasNest, IsSorted, HasNames, entry_figure, rows_before, values_before}
use Rattle.fidl_table_format.specs.Root.{HasEntry, HasRootName, Rises}
use Rattle.fidl_table_format.specs.Protocol.{IsOpenness, HasProtocolName, ProtocolRises, HasMethods, methods_before}
use Rattle.fidl_table_format.specs.Method.{HasMethodShape, HasMethodName, OrdinalRises}
use Rattle.fidl_table_format.specs.WellFormed.{table_magic, IsVersion}
use Rattle.fidl_limits.specs.declared.limits.TheConstants.{MAX_ENTRIES}
use Rattle.fidl_verify.specs.declared.fault.TableFault.{TableFault}
use Rattle.fidl_verify.specs.Faults.{Breaks, BreaksHeader, BreaksRecord}
use Rattle.fidl_verify.specs.Faults as breaks

-- what a test that answered false says
pub refused : {P : Type 0} → (IsTrue false ↔ P) → P → ⊥
refused e p = cc (e.1 p)

module _ (bytes : List ℕ) (h : Header) (same : h ≡ header_of bytes) where
  module _ (room : 40 ≤ length bytes) where
    -- a rule of the header
    header : (fault : TableFault) → BreaksHeader bytes h fault → Breaks bytes fault
    header fault = subst (λ g. BreaksHeader bytes g fault → Breaks bytes fault) (sym same) (breaks.header fault room)

    pub wrong_magic : h.magic ≢ table_magic → Breaks bytes (BadMagic 0)
    wrong_magic n = header (BadMagic 0) (breaks.magic n)

    pub wrong_version : (IsVersion h → ⊥) → Breaks bytes (BadVersion 0)
    wrong_version n = header (BadVersion 0) (breaks.version n)

    pub shorter : length bytes < table_length h → Breaks bytes (Truncated 0)
    shorter n = header (Truncated 0) (breaks.short n)

    pub longer : table_length h < length bytes → Breaks bytes (Surplus 0)
    longer n = header (Surplus 0) (breaks.long n)

  module _ (whole : length bytes ≡ table_length h) where
    -- a rule of the records
    record_at : (fault : TableFault) → BreaksRecord bytes h fault → Breaks bytes fault
    record_at fault = subst (λ g. length bytes ≡ table_length g → BreaksRecord bytes g fault → Breaks bytes fault) (sym same) (breaks.record_at fault) whole

    pub too_many : MAX_ENTRIES < h.entries → Breaks bytes (BadIndex 0)
    too_many n = record_at (BadIndex 0) (breaks.many_entries n)

    module _ (at : ℕ) (within : at < h.entries) (e : Entry) (is : e ≡ entry_at bytes at) where
      pub wrong_kind : kind_of e.kind ≡ None → Breaks bytes (BadKind at)
      wrong_kind n = record_at (BadKind at) (breaks.shape at within (λ s. absurd (never e (subst HasShape (sym is) s) n)))
        where
          never : (e : Entry) → HasShape e → kind_of e.kind ≡ None → ⊥
          never e s n = let k : false ≡ true = subst (λ o. option_map_or is_known o false ≡ true) n s.known in cc

      pub wrong_shape : (HasShape e → ⊥) → Breaks bytes (BadKind at)
      wrong_shape n = record_at (BadKind at) (breaks.shape at within (subst (λ e. HasShape e → ⊥) is n))

      pub wrong_children : (HasChildren bytes h e → ⊥) → Breaks bytes (BadIndex at)
      wrong_children n = record_at (BadIndex at) (breaks.children at within (subst (λ e. HasChildren bytes h e → ⊥) is n))

      pub wrong_rows : (Follows uses_rows (rows_before bytes at) e → ⊥) → Breaks bytes (BadIndex at)
      wrong_rows n = record_at (BadIndex at) (breaks.rows at within (subst (λ e. Follows uses_rows (rows_before bytes at) e → ⊥) is n))

      pub wrong_values : (Follows uses_values (values_before bytes at) e → ⊥) → Breaks bytes (BadIndex at)
      wrong_values n = record_at (BadIndex at) (breaks.values at within (subst (λ e. Follows uses_values (values_before bytes at) e → ⊥) is n))

      pub wrong_offsets : (HasOffsets bytes h e → ⊥) → Breaks bytes (BadOffset at)
      wrong_offsets n = record_at (BadOffset at) (breaks.offsets at within (subst (λ e. HasOffsets bytes h e → ⊥) is n))

      pub wrong_size : (HasSize (entry_figure bytes h e) e → ⊥) → Breaks bytes (BadSize at)
      wrong_size n = record_at (BadSize at) (breaks.size at within (subst (λ e. HasSize (entry_figure bytes h e) e → ⊥) is n))

      pub wrong_nest : (HasNest (entry_figure bytes h e) e → ⊥) → Breaks bytes (BadNest at)
      wrong_nest n = record_at (BadNest at) (breaks.nest at within (subst (λ e. HasNest (entry_figure bytes h e) e → ⊥) is n))

      pub wrong_sorted : (IsSorted bytes h e → ⊥) → Breaks bytes (NotSorted at)
      wrong_sorted n = record_at (NotSorted at) (breaks.sorted at within (subst (λ e. IsSorted bytes h e → ⊥) is n))

      pub wrong_names : (HasNames bytes h e → ⊥) → Breaks bytes (BadName at)
      wrong_names n = record_at (BadName at) (breaks.names at within (subst (λ e. HasNames bytes h e → ⊥) is n))

    pub uncovered : (rows : ℕ) → rows ≡ rows_before bytes h.entries → rows < h.rows → Breaks bytes (BadIndex rows)
    uncovered rows e p = subst (λ n. Breaks bytes (BadIndex n)) (sym e) (record_at (BadIndex (rows_before bytes h.entries)) (breaks.row (subst (λ n. n < h.rows) e p)))

    pub uncovered_value : (values : ℕ) → values ≡ values_before bytes h.entries → values < h.values → Breaks bytes (BadIndex values)
    uncovered_value values e p = subst (λ n. Breaks bytes (BadIndex n)) (sym e) (record_at (BadIndex (values_before bytes h.entries)) (breaks.value (subst (λ n. n < h.values) e p)))

    module _ (at : ℕ) (within : at < h.protocols) where
      pub wrong_openness : (IsOpenness (protocol_at bytes h at) → ⊥) → Breaks bytes (BadMethod at)
      wrong_openness n = record_at (BadMethod at) (breaks.openness at within n)

      pub wrong_protocol_name : (HasProtocolName bytes h at → ⊥) → Breaks bytes (BadName at)
      wrong_protocol_name n = record_at (BadName at) (breaks.protocol_name at within n)

      pub wrong_protocol_order : (ProtocolRises bytes h at → ⊥) → Breaks bytes (NotSorted at)
      wrong_protocol_order n = record_at (NotSorted at) (breaks.protocol_order at within n)

      pub wrong_methods : (HasMethods bytes h at → ⊥) → Breaks bytes (BadIndex at)
      wrong_methods n = record_at (BadIndex at) (breaks.protocol_methods at within n)

    pub methods_left : methods_before bytes h h.protocols < h.methods → Breaks bytes (BadIndex h.protocols)
    methods_left n = record_at (BadIndex h.protocols) (breaks.method n)

    module _ (at : ℕ) (within : at < h.methods) where
      pub wrong_method : (HasMethodShape bytes h (method_at bytes h at) → ⊥) → Breaks bytes (BadMethod at)
      wrong_method n = record_at (BadMethod at) (breaks.method_shape at within n)

      pub wrong_method_name : (HasMethodName bytes h (method_at bytes h at) → ⊥) → Breaks bytes (BadName at)
      wrong_method_name n = record_at (BadName at) (breaks.method_name at within n)

      pub wrong_method_order : (OrdinalRises bytes h at → ⊥) → Breaks bytes (NotSorted at)
      wrong_method_order n = record_at (NotSorted at) (breaks.method_order at within n)

    pub wrong_root : (at : ℕ) → at < h.roots → (HasEntry bytes h at → ⊥) → Breaks bytes (BadIndex at)
    wrong_root at p n = record_at (BadIndex at) (breaks.root at p n)

    pub wrong_root_name : (at : ℕ) → at < h.roots → (HasRootName bytes h at → ⊥) → Breaks bytes (BadName at)
    wrong_root_name at p n = record_at (BadName at) (breaks.root_name at p n)

    pub wrong_order : (at : ℕ) → at < h.roots → (Rises bytes h at → ⊥) → Breaks bytes (NotSorted at)
    wrong_order at p n = record_at (NotSorted at) (breaks.root_order at p n)
