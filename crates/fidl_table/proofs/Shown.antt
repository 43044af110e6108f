-- What an assembled table shows of the library whose listing it was made from.
use Rattle.std.proofs.Common.{◌≡◌, ◌∙◌, ◌<◌, ℕ, List, [], ◌∷◌, ◌++◌, flat_map, Some, map, refl, ap, sym, subst}
use Rattle.std.specs.List.{Contains, AllZip}
use Rattle.std.specs.Prelude.{slice_get}
use Rattle.std.specs.Global.{Vec}
use Rattle.fidl_tree.specs.declared.file.File.{File}
use Rattle.fidl_wire.specs.Term.{Term}
use Rattle.fidl_wire.specs.Term as ty
use Rattle.fidl_wire.specs.Figure.{Figure, Declarations}
use Rattle.fidl_ir.specs.Terms.{definitions_view}
use Rattle.fidl_reachable_types.specs.Reached.{AreReached}
use Rattle.fidl_equivalence.proofs.Levels.{alike_types, numbered_types}
use Rattle.fidl_table_format.specs.Section.{header_of, root_at, method_at}
use Rattle.fidl_table_format.specs.Root.{root_name}
use Rattle.fidl_table_format.specs.Method.{method_number}
use Rattle.fidl_table_format.specs.Terms.{declarations_of}
use Rattle.fidl_table_format.specs.WellFormed.{WellFormed}
use Rattle.fidl_verify.specs.declared.method.Payload.{Payload}
use Rattle.fidl_verify.specs.Lookups.{request_of, response_of}
use Rattle.fidl_verify.proofs.Declared.{laid_out}
use Rattle.fidl_table_check.specs.Numbered.{entry_name, ShowsTypes}
use Rattle.fidl_table_build.specs.declared.listing.Listing.{Listing}
use Rattle.fidl_table_build.specs.declared.listing.MethodEntry.{MethodEntry}
use Rattle.fidl_table_build.specs.declared.listing.ProtocolEntry.{ProtocolEntry}
use Rattle.fidl_table_build.specs.Assembled.{IsAssembled, names_of}
use Rattle.fidl_table_build.specs.Starts.{carried_number, method_numbers, protocol_numbers}
use Rattle.fidl_table_build.specs.Roots.{IsEntryOf}
use Rattle.fidl_table_build.specs.Methods as listing
use Rattle.fidl_declarations.specs.declared.form.Form.{Form as CodeForm}
use Rattle.fidl_declarations.specs.FormViews.{forms_view}
use Rattle.fidl_lower_types.specs.Numbers.{all_forms}
use Rattle.fidl_lower_layouts.proofs.One.{one_definitions}
use Rattle.fidl_types.specs.Types.{TypesAre}
use Rattle.fidl_layout.specs.Laid.{AreLaidOut}
use Rattle.fidl_layout.specs.Roots.{AreRoots, RootAt}
use Rattle.fidl_composition.proofs.Lists.{found_at, among, here, there}
use Rattle.fidl_payloads.specs.declared.payload.Payload.{Payload as Carried}
use Rattle.fidl_payloads.specs.declared.payload.Payload.TheVariants.{Missing, Empty}
use Rattle.fidl_payloads.specs.declared.payload.Payload.TheVariants as carried
use Rattle.fidl_protocol.specs.declared.method.Method.{Method}
use Rattle.fidl_protocol.specs.declared.method.Protocol.{Protocol}
use Rattle.fidl_protocol.specs.Gathered.{payload_numbers, method_payloads, protocol_payloads}
use Rattle.fidl_protocol.specs.Checked.{AreProtocolsWith}
use Rattle.fidl_protocol.proofs.Lists.{zip_length}
use Rattle.fidl_table.specs.Definitions.{definition_names, ShowsDefinition}
use Rattle.fidl_table.specs.Roots.{IsRootOf, ShowsRoots}
use Rattle.fidl_table.specs.Protocols.{ShowsPayload, ShowsMethod, ShowsProtocol, ShowsProtocols}
use Rattle.fidl_table.specs.Entries.{ShowsEntries}
use Rattle.fidl_table.specs.Shows.{Shows}
use Rattle.fidl_table.specs.Listed as code
use Rattle.fidl_table.specs.Listed.{carried_by, IsMethodEntry, IsProtocolEntry, AreListed}
use Rattle.fidl_table.proofs.Lists.{at_within, zip_at}

-- the declarations of a listing, with these figures
abbrev pub declared : Listing → List Figure → Declarations
declared l figures = record { terms = definitions_view l.definitions.now; figures = figures }

module _ (files : List File) (l : Listing) (figures : List Figure) (bytes : List ℕ) (laid : AreLaidOut files (declared l figures)) (well : WellFormed bytes) (a : IsAssembled l bytes) (names : names_of l ≡ definition_names files) where
  shows_types : ShowsTypes (declared l figures) a.types bytes
  shows_types number t at v =
      let ds = declared l figures in
      let es = declarations_of bytes in
      alike_types ds es laid.laid_out (laid_out bytes well) t (ty.named number) (numbered_types ds es a.types (a.entries figures).levels number t at) v

  shows_definition : (i entry : ℕ) → IsEntryOf a.types i entry → ShowsDefinition files (declared l figures) bytes i entry
  shows_definition i entry at = record {
    name = subst (λ (ns : List (List ℕ)). slice_get ns i ≡ Some (entry_name bytes entry)) names (a.names entry i at);
    same = λ v. shows_types entry (ty.named i) at v;
  }

  root_shown : (k i : ℕ) → slice_get l.roots.now k ≡ Some i → RootAt files i → IsRootOf files (declared l figures) bytes i k
  root_shown k i at declared =
      let r = a.roots.each k i at in
      record {
        declared = declared;
        name = subst (λ (ns : List (List ℕ)). slice_get ns i ≡ Some (root_name bytes (header_of bytes) k)) names r.name;
        entry = shows_definition i (root_at bytes (header_of bytes) k).entry r.entry;
      }

  roots_shown : AreRoots files l.roots.now → ShowsRoots files (declared l figures) bytes
  roots_shown are = record {
    sound = λ root lt.
        let r = at_within l.roots.now root (subst (λ n. root < n) a.roots.count lt) in
        (r.0, root_shown root r.0 r.1 (are.sound r.0 (among l.roots.now root r.0 r.1)));
    complete = λ i h.
        let c = are.complete i h in
        (c.0, subst (λ n. c.0 < n) (sym a.roots.count) c.1, root_shown c.0 i (found_at l.roots.now i c) h);
  }

  payload_shown : (x : Carried) (p : Payload) → listing.ShowsPayload a.types (carried_by x) p → ShowsPayload files (declared l figures) bytes x p
  payload_shown Missing p h = h
  payload_shown Empty p h = h
  payload_shown (carried.«Type» i) p h = (h.0, h.1, shows_definition i h.0 h.2)

  method_shown : (m : Method) (e : MethodEntry) (number : ℕ) → IsMethodEntry files m e → listing.ShowsMethod a.types bytes e number → ShowsMethod files (declared l figures) bytes m number
  method_shown m e number is s =
      let r = method_at bytes (header_of bytes) number in
      record {
        ordinal = s.ordinal ∙ is.ordinal;
        name = λ f openness protocol members h. s.name ∙ is.name f openness protocol members h;
        strict = s.strict ∙ is.strict;
        request = payload_shown m.payloads.request (request_of r) (subst (λ c. listing.ShowsPayload a.types c (request_of r)) is.request s.request);
        response = payload_shown m.payloads.response (response_of r) (subst (λ c. listing.ShowsPayload a.types c (response_of r)) is.response s.response);
      }

  protocol_shown : (p : Protocol) (e : ProtocolEntry) (number : ℕ) → slice_get l.protocols.now number ≡ Some e → IsProtocolEntry files p e → ShowsProtocol files (declared l figures) bytes p number
  protocol_shown p e number at is =
      let s = a.protocols.each number e at in
      record {
        head = λ f openness name members h.
            let x = is.head f openness name members h in
            (s.name ∙ x.0, s.openness ∙ x.1);
        count = s.count ∙ sym (zip_length (IsMethodEntry files) p.methods.items e.methods.items is.methods);
        methods = λ k m there.
            let z = zip_at (IsMethodEntry files) p.methods.items e.methods.items k m is.methods there in
            method_shown m z.0 (method_number bytes (header_of bytes) number k) z.2 (s.methods k z.0 z.1);
      }

  protocols_shown : (ps : List Protocol) → AreProtocolsWith files ps → AreListed files ps l.protocols.now → ShowsProtocols files (declared l figures) bytes
  protocols_shown ps are listed = record {
    protocols = ps;
    are = are;
    sound = λ number lt.
        let e = at_within l.protocols.now number (subst (λ n. number < n) a.protocols.count lt) in
        let p = listed.sound e.0 (among l.protocols.now number e.0 e.1) in
        (p.0, p.1, protocol_shown p.0 e.0 number e.1 p.2);
    complete = λ p there.
        let e = listed.complete p there in
        (e.1.0, subst (λ n. e.1.0 < n) (sym a.protocols.count) e.1.1, protocol_shown p e.0 e.1.0 (found_at l.protocols.now e.0 e.1) e.2);
  }

  -- the protocols of a list of entries
  listed_protocols : (ps : List Protocol) (es : List ProtocolEntry) → ((e : ProtocolEntry) → Contains es e → (p : Protocol) × Contains ps p × IsProtocolEntry files p e) → (qs : List Protocol) × AllZip (λ p e. Contains ps p × IsProtocolEntry files p e) qs es
  listed_protocols ps [] sound = ([], tt)
  listed_protocols ps (e ∷ es) sound =
      let one = sound e (here e es) in
      let rest = listed_protocols ps es (λ x c. sound x (there e es x c)) in
      (one.0 ∷ rest.0, ((one.1, one.2), rest.1))

  carried_payloads : (x : Carried) → carried_number (carried_by x) ≡ payload_numbers x
  carried_payloads Missing = refl
  carried_payloads Empty = refl
  carried_payloads (carried.«Type» i) = refl

  -- they carry the same definitions
  methods_carry : (ms : List Method) (es : List MethodEntry) → AllZip (IsMethodEntry files) ms es → flat_map method_payloads ms ≡ flat_map method_numbers es
  methods_carry [] [] h = refl
  methods_carry [] (e ∷ es) h = absurd h
  methods_carry (m ∷ ms) [] h = absurd h
  methods_carry (m ∷ ms) (e ∷ es) h =
      let request : payload_numbers m.payloads.request ≡ carried_number e.request = sym (ap carried_number h.0.request ∙ carried_payloads m.payloads.request) in
      let response : payload_numbers m.payloads.response ≡ carried_number e.response = sym (ap carried_number h.0.response ∙ carried_payloads m.payloads.response) in
      let rest = methods_carry ms es h.1 in
      λ i. (request i ++ response i) ++ rest i

  protocols_carry : (ps qs : List Protocol) (es : List ProtocolEntry) → AllZip (λ p e. Contains ps p × IsProtocolEntry files p e) qs es → flat_map protocol_payloads qs ≡ flat_map protocol_numbers es
  protocols_carry ps [] [] h = refl
  protocols_carry ps [] (e ∷ es) h = absurd h
  protocols_carry ps (p ∷ qs) [] h = absurd h
  protocols_carry ps (p ∷ qs) (e ∷ es) h =
      let first = methods_carry p.methods.items e.methods.items h.0.1.methods in
      let rest = protocols_carry ps qs es h.1 in
      λ i. first i ++ rest i

  entries_shown : AreRoots files l.roots.now → (ps : List Protocol) → AreListed files ps l.protocols.now → ShowsEntries files (declared l figures) ps bytes
  entries_shown are ps listed =
      let es = l.protocols.now in
      let found = listed_protocols ps es listed.sound in
      record {
        roots = l.roots.now;
        roots_are = record { count = a.roots.count; each = λ root definition at. root_shown root definition at (are.sound definition (among l.roots.now root definition at)) };
        protocols = found.0;
        protocols_are = record {
          count = a.protocols.count ∙ sym (zip_length (λ p e. Contains ps p × IsProtocolEntry files p e) found.0 es found.1);
          each = λ number p at.
              let z = zip_at (λ p e. Contains ps p × IsProtocolEntry files p e) found.0 es number p found.1 at in
              (z.2.0, protocol_shown p z.0 number z.1 z.2.1);
        };
        types = a.types;
        reached = subst (λ (n : List ℕ). AreReached (definitions_view l.definitions.now) (l.roots.now ++ n) a.types) (sym (protocols_carry ps found.0 es found.1)) a.reached;
        entries = a.entries figures;
      }

  pub shown : AreRoots files l.roots.now → (ps : List Protocol) → AreProtocolsWith files ps → AreListed files ps l.protocols.now → Shows files bytes
  unfolding protocols_shown
  shown roots ps are listed = record {
    declarations = declared l figures;
    laid_out = laid;
    roots = roots_shown roots;
    protocols = protocols_shown ps are listed;
    entries = entries_shown roots ps listed;
  }

-- the same where figures are those of some declarations that are laid out
declared_laid : (files : List File) (l : Listing) (ds : Declarations) → AreLaidOut files ds → TypesAre files (definitions_view l.definitions.now) → AreLaidOut files (declared l ds.figures)
declared_laid files l ds laid types =
    subst (λ (ts : List Term). AreLaidOut files (record { terms = ts; figures = ds.figures }))
    (one_definitions files ds.terms (definitions_view l.definitions.now) laid.checked.definitions types.definitions)
    laid

-- the files of one library, however they were reached
pub written : (files laid types named : List File) → laid ≡ files → types ≡ laid → named ≡ types → (l : Listing) (ds : Declarations) (bytes : List ℕ) (names : List (Vec ℕ)) (roots : List ℕ) (es : List ProtocolEntry) (ps : List Protocol) (forms : List CodeForm) → AreLaidOut laid ds → TypesAre types (definitions_view l.definitions.now) → map (λ (v : Vec ℕ). v.items) names ≡ code.names_of (forms_view forms) → forms_view forms ≡ all_forms types → AreRoots types roots → AreProtocolsWith files ps → AreListed named ps es → l.names.now ≡ names → l.roots.now ≡ roots → l.protocols.now ≡ es → WellFormed bytes → IsAssembled l bytes → Shows files bytes
written files laid types named one two three l ds bytes names roots es ps forms held defined called all are kept listed to_names to_roots to_entries well assembled =
    let to_types = two ∙ one in
    let to_named = three ∙ to_types in
    let figures = subst (λ (fs : List File). AreLaidOut fs ds) one held in
    let terms = subst (λ (fs : List File). TypesAre fs (definitions_view l.definitions.now)) to_types defined in
    let its_names : names_of l ≡ definition_names files = ap (map (λ (v : Vec ℕ). v.items)) to_names ∙ called ∙ ap code.names_of all ∙ ap definition_names to_types in
    let its_roots = subst (AreRoots files) (sym to_roots) (subst (λ (fs : List File). AreRoots fs roots) to_types are) in
    let its_entries = subst (AreListed files ps) (sym to_entries) (subst (λ (fs : List File). AreListed fs ps es) to_named listed) in
    shown files l ds.figures bytes (declared_laid files l ds figures terms) well assembled its_names its_roots ps kept its_entries
