-- The result of a method is among the forms of the files.
use Rattle.std.proofs.Common.{◌≡◌, ◌+◌, ℕ, zero, suc, true, Bool, List, [], ◌∷◌, ◌++◌, Option, Some, map, refl, ap, sym, subst, arith}
use Rattle.std.specs.Prelude.{flat_map, slice_get}
use Rattle.std.specs.List.{Contains}
use Rattle.std.proofs.lemmas.List.Elements.{Contains-append_left, Contains-append_right}
use Rattle.std.proofs.lemmas.Option.{same_Some, none-some}
use Rattle.fidl_span.specs.declared.words.Span.{Span}
use Rattle.fidl_tree.specs.Syntax.{Attribute, TypeUse, Response, ProtocolMember, method_member, Body, File}
use Rattle.fidl_tree.specs.Views.{file_view, declaration_view, declared_view, declared_name, openness_view, protocol_member_view}
use Rattle.fidl_tree.specs.declared.declaration.Declaration.{Declaration as CodeDeclaration}
use Rattle.fidl_tree.specs.declared.declaration.DeclarationBody.TheVariants as body
use Rattle.fidl_tree.specs.declared.declaration.ProtocolDeclaration.{ProtocolDeclaration}
use Rattle.fidl_tree.specs.declared.protocol.ProtocolMember.{ProtocolMember as CodeMember}
use Rattle.fidl_tree.specs.declared.file.File.{File as Tree}
use Rattle.fidl_consts.proofs.Among.{among_first, among_rest, among_map, among_flat}
use Rattle.fidl_declarations.specs.declared.step.Step.{Step}
use Rattle.fidl_declarations.specs.declared.step.Step.TheVariants as step
use Rattle.fidl_declarations.specs.Sites.{any_type, present_type, Site, result_site, attributes_site, within, part_sites, has_result, empty_sites, result_sites, answer_sites, protocol_sites, body_sites, declaration_sites, import_site, file_sites}
use Rattle.fidl_declarations.specs.Forms.{Form, result_form, form_at, site_forms, file_forms, forms_from}
use Rattle.fidl_payloads.specs.Results.{ResultStands}
use Rattle.fidl_payloads.specs.Payloads.{result_path}
use Rattle.fidl_payloads.specs.Members.{IsMemberOf}

seen_at : {X Y : Type 0} (g : X → Y) (xs : List X) (k : ℕ) (x : X) → slice_get xs k ≡ Some x → slice_get (map g xs) k ≡ Some (g x)
seen_at g [] k x at = absurd (none-some x at)
seen_at g (y ∷ ys) zero x at = ap Some (ap g (same_Some y x at))
seen_at g (y ∷ ys) (suc k) x at = seen_at g ys k x at

-- the forms of a file are among those of all
among_forms : (start : ℕ) (files : List File) (k n : ℕ) (f : File) (form : Form) → n ≡ start + k → slice_get files k ≡ Some f → Contains (file_forms n f) form → Contains (forms_from start files) form
among_forms start [] k n f form is at h = absurd (none-some f at)
among_forms start (g ∷ gs) zero n f form is at h =
    let number : n ≡ start = omega (arith, is) in
    Contains-append_left (file_forms start g) (forms_from (suc start) gs) form (subst (λ (x : File). Contains (file_forms start x) form) (sym (same_Some g f at)) (subst (λ (m : ℕ). Contains (file_forms m f) form) number h))
among_forms start (g ∷ gs) (suc k) n f form is at h =
    Contains-append_right (file_forms start g) (forms_from (suc start) gs) form (among_forms (suc start) gs k n f form (omega (arith, is)) at h)

module _ (path : List Step) (strict : Bool) (name : Span) (r : Response) where
  abbrev own : List Step
  own = within path (step.Name name)

  abbrev site : Site
  site = result_site (within own step.Result) strict r

  -- a result is a site of its response
  in_answer : has_result strict r.error ≡ true → Contains (answer_sites own strict (Some r)) site
  in_answer has =
      let one = part_sites (within own step.Response) any_type r.payload in
      let two = part_sites (within own step.Error) present_type r.error in
      let three = result_sites own strict r (has_result strict r.error) in
      Contains-append_right (one ++ two) three site (subst (λ (b : Bool). Contains (result_sites own strict r b) site) (sym has) (among_first site (empty_sites own r.payload)))

  -- and of its method
  in_method : (attributes : List Attribute) (request : Option TypeUse) → has_result strict r.error ≡ true → Contains (protocol_sites path (method_member attributes strict name request (Some r))) site
  in_method attributes request has =
      let parts = part_sites (within own step.Request) any_type request in
      let answers = answer_sites own strict (Some r) in
      among_rest (attributes_site attributes) site (parts ++ answers) (Contains-append_right parts answers site (in_answer has))

-- what stands in a member of a protocol stands in its file
in_file : (files : List Tree) (number : ℕ) (protocol : Span) (m : ProtocolMember) (h : IsMemberOf files number protocol m) (s : Site) → Contains (protocol_sites (step.Name protocol ∷ []) m) s → Contains (file_sites (file_view h.file)) s
in_file files number protocol m h s there =
    let f = file_view h.file in
    let d = h.declaration in
    let members : Contains (flat_map (protocol_sites (step.Name protocol ∷ [])) h.members) s = among_flat (protocol_sites (step.Name protocol ∷ [])) h.members m s h.among there in
    let in_body : Contains (body_sites (step.Name protocol ∷ []) d.body) s = subst (λ (b : Body). Contains (body_sites (step.Name protocol ∷ []) b) s) (sym h.body_is) members in
    let named : Contains (body_sites (step.Name d.name ∷ []) d.body) s = subst (λ (n : Span). Contains (body_sites (step.Name n ∷ []) d.body) s) (sym h.name_is) in_body in
    let declared : Contains (declaration_sites d) s = among_rest (attributes_site d.attributes) s (body_sites (step.Name d.name ∷ []) d.body) named in
    let all = flat_map declaration_sites f.declarations in
    among_rest (attributes_site f.attributes) s (map import_site f.imports ++ all) (Contains-append_right (map import_site f.imports) all s (among_flat declaration_sites f.declarations d s h.declared declared))

-- a method that has a result has its form
pub result_stands : (files : List Tree) (number : ℕ) (protocol : Span) (attributes : List Attribute) (strict : Bool) (name : Span) (request : Option TypeUse) (r : Response) → IsMemberOf files number protocol (method_member attributes strict name request (Some r)) → has_result strict r.error ≡ true
    → ResultStands files number (result_path protocol name)
result_stands files number protocol attributes strict name request r h has =
    let f = file_view h.file in
    let path = step.Name protocol ∷ [] in
    let s = site path strict name r in
    let form = form_at number f (result_path protocol name) (result_form strict r) in
    let sites = in_file files number protocol (method_member attributes strict name request (Some r)) h s (in_method path strict name r attributes request has) in
    let own : Contains (site_forms number f s) form = among_first form [] in
    let forms : Contains (file_forms number f) form = among_flat (site_forms number f) (file_sites f) s form sites own in
    record {
      form = form;
      among = among_forms 0 (map file_view files) number number f form (omega arith) (seen_at file_view files number h.file h.at) forms;
      is = record { kind_is = tt; file_is = refl; path_is = refl };
    }

-- each member of a protocol of the code is one of a protocol of its file
pub member_stands : (files : List Tree) (number : ℕ) (f : Tree) (d : CodeDeclaration) (p : ProtocolDeclaration) (m : CodeMember) → slice_get files number ≡ Some f → Contains f.declarations.items d → d.body ≡ body.Protocol p → Contains p.members.items m → IsMemberOf files number p.name (protocol_member_view m)
member_stands files number f d p m at declared is among = record {
  file = f;
  at = at;
  declaration = declaration_view d;
  declared = among_map declaration_view f.declarations.items d declared;
  name_is = ap declared_name is;
  openness = openness_view p.openness;
  members = map protocol_member_view p.members.items;
  body_is = ap declared_view is;
  among = among_map protocol_member_view p.members.items m among;
}
