-- The protocol that was found by an id, and what is listed of it.
use Rattle.std.proofs.Common.{◌≡◌, ◌∙◌, List, [], ◌∷◌, map, ap}
use Rattle.std.specs.List.{AllZip}
use Rattle.fidl_span.specs.declared.words.Span.{Span}
use Rattle.fidl_tree.specs.Views.{file_view, openness_view, protocol_member_view}
use Rattle.fidl_tree.specs.declared.file.File.{File}
use Rattle.fidl_tree.specs.declared.declaration.Declaration.{Declaration}
use Rattle.fidl_tree.specs.declared.declaration.DeclarationBody.TheVariants as body
use Rattle.fidl_named.specs.declared.place.DeclarationId.{DeclarationId}
use Rattle.fidl_named.specs.Constraints.{IsDeclarationAt}
use Rattle.fidl_declarations.specs.declared.step.Step.TheVariants as step
use Rattle.fidl_declarations.specs.Forms.{name_by_path}
use Rattle.fidl_composition.specs.Tables.{IsProtocolNode}
use Rattle.fidl_composition.proofs.Nodes.{at_node, one_openness}
use Rattle.fidl_protocol.proofs.Nodes.{one_file, one_name}
use Rattle.fidl_table.specs.declared.found.Found.{Found}
use Rattle.fidl_protocol.specs.declared.method.Method.{Method}
use Rattle.fidl_protocol.specs.declared.method.Protocol.{Protocol}
use Rattle.fidl_table_build.specs.declared.listing.MethodEntry.{MethodEntry}
use Rattle.fidl_table_build.specs.declared.listing.ProtocolEntry.{ProtocolEntry}
use Rattle.fidl_verify.specs.Lookups as table
use Rattle.fidl_table.specs.Protocols.{openness_number}
use Rattle.fidl_table.specs.Listed.{IsFound, carried_by, IsMethodEntry, IsProtocolEntry}

-- a declaration of an id that is a protocol is the protocol of the id
pub found : (files : List File) (id : DeclarationId) (x : Found) (d : Declaration) → IsDeclarationAt files id x.file.now d → d.body ≡ body.Protocol x.protocol.now → IsFound files id x
found files id x d at is = λ f openness name members h.
    let node : IsProtocolNode files id x.protocol.now = record { file = x.file.now; declaration = d; at = at; body = is } in
    let k = at_node files id x.protocol.now node in
    let view = openness_view x.protocol.now.openness in
    let all = map protocol_member_view x.protocol.now.members.items in
    record {
      file_is = one_file files id x.file.now f view openness x.protocol.now.name name all members k h;
      openness_is = one_openness files id x.file.now f view openness x.protocol.now.name name all members k h;
      name_is = one_name files id x.file.now f view openness x.protocol.now.name name all members k h;
    }

pub method_listed : (files : List File) (m : Method) (x : Found) (e : MethodEntry) → IsFound files m.protocol x → e.name.items ≡ name_by_path (file_view x.file.now) (step.Name x.protocol.now.name ∷ step.Name m.own.name ∷ []) → e.ordinal ≡ m.own.ordinal → e.strict ≡ m.own.is_strict → e.request ≡ carried_by m.payloads.request → e.response ≡ carried_by m.payloads.response → IsMethodEntry files m e
method_listed files m x e found name ordinal strict request response = record {
  ordinal = ordinal;
  name = λ f openness protocol members h.
      let is = found f openness protocol members h in
      name
      ∙ ap (λ (g : File). name_by_path (file_view g) (step.Name x.protocol.now.name ∷ step.Name m.own.name ∷ [])) is.file_is
      ∙ ap (λ (s : Span). name_by_path (file_view f) (step.Name s ∷ step.Name m.own.name ∷ [])) is.name_is;
  strict = strict;
  request = request;
  response = response;
}

pub protocol_listed : (files : List File) (p : Protocol) (x : Found) (e : ProtocolEntry) → IsFound files p.id x → e.name.items ≡ name_by_path (file_view x.file.now) (step.Name x.protocol.now.name ∷ []) → table.openness_number e.openness ≡ openness_number (openness_view x.protocol.now.openness) → AllZip (IsMethodEntry files) p.methods.items e.methods.items → IsProtocolEntry files p e
protocol_listed files p x e found name how methods = record {
  head = λ f openness protocol members h.
      let is = found f openness protocol members h in (
        name
            ∙ ap (λ (g : File). name_by_path (file_view g) (step.Name x.protocol.now.name ∷ [])) is.file_is
            ∙ ap (λ (s : Span). name_by_path (file_view f) (step.Name s ∷ [])) is.name_is,
        how ∙ ap openness_number is.openness_is,
      );
  methods = methods;
}
