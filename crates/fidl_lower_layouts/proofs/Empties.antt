-- The empty responses of files stand at the paths of methods.
use Rattle.std.proofs.Common.{◌≡◌, ◌∙◌, ℕ, suc, true, false, Bool, List, [], ◌∷◌, ◌++◌, Option, Some, None, map, refl, ap, sym, subst}
use Rattle.std.specs.Prelude.{flat_map}
use Rattle.std.specs.List.{Contains, AllByRecursion}
use Rattle.std.proofs.lemmas.List.Elements.{All-contains, All-from_recursion}
use Rattle.fidl_span.specs.declared.words.Span.{Span}
use Rattle.fidl_tree.specs.Syntax.{Path, Attribute, ValueMember, TypeUse, named_type, layout_type, Arguments, no_arguments, next_argument, Argument, number_argument, type_argument}
use Rattle.fidl_tree.specs.Syntax.{Layout, values_layout, struct_layout, table_layout, union_layout, Underlying, no_underlying, underlying_type, Members, no_members, next_member, Member, named_member, ordinal_member, reserved_member}
use Rattle.fidl_tree.specs.Syntax.{Response, ProtocolMember, compose_member, method_member, event_member, Body, const_body, alias_body, type_body, protocol_body, service_body, resource_body, Declaration, Import, File}
use Rattle.fidl_tree.specs.Views.{file_view}
use Rattle.fidl_tree.specs.declared.file.File.{File as Tree}
use Rattle.fidl_declarations.specs.declared.step.Step.{Step}
use Rattle.fidl_declarations.specs.declared.step.Step.TheVariants as step
use Rattle.fidl_declarations.specs.Sites.{Role, any_type, present_type, aliased_type, bare_type, service_type, second_argument, Site, type_site, layout_site, result_site, empty_response_site, attributes_site, within, type_sites, arguments_sites, further_sites, argument_sites, layout_sites, underlying_sites, members_sites, member_sites, part_sites, has_result, empty_sites, result_sites, response_sites, answer_sites, protocol_sites, body_sites, declaration_sites, import_site, file_sites}
use Rattle.fidl_declarations.specs.Forms.{Form, FormKind, layout_form, result_form, empty_response_form, layout_kinds, form_at, site_forms, file_forms, forms_from}
use Rattle.fidl_lower_types.specs.Numbers.{all_forms, method_path, IsAnswerKind, IsAnswerAt}
use Rattle.fidl_lower_layouts.specs.Results.{IsEmptyOf}
use Rattle.fidl_lower_layouts.proofs.Paths.{one_before}

-- a path of a method's response
abbrev pub IsResponsePath : List Step → Type 0
IsResponsePath path = (protocol : Span) × ((method : Span) × (path ≡ method_path protocol method step.Response))

-- a site stands at such a path if it is an empty response, and a form too
abbrev Stands : Site → Type 0
Stands (type_site role t) = Unit {0}
Stands (layout_site path l) = Unit {0}
Stands (result_site path strict r) = Unit {0}
Stands (empty_response_site path) = IsResponsePath path
Stands (attributes_site attributes) = Unit {0}

abbrev HasPath : FormKind → List Step → Type 0
HasPath (layout_form optional l) path = Unit {0}
HasPath (result_form strict r) path = Unit {0}
HasPath empty_response_form path = IsResponsePath path

abbrev FormStands : Form → Type 0
FormStands form = HasPath form.kind form.path

abbrev All : List Site → Type 0
All = AllByRecursion Stands

module _ {X : Type 0} (P : X → Type 0) where
  both : (xs ys : List X) → AllByRecursion P xs → AllByRecursion P ys → AllByRecursion P (xs ++ ys)
  both [] ys h k = k
  both (x ∷ xs) ys h k = (h.0, both xs ys h.1 k)

  flat : {Y : Type 0} (g : Y → List X) → ((y : Y) → AllByRecursion P (g y)) → (ys : List Y) → AllByRecursion P (flat_map g ys)
  flat g each [] = tt
  flat g each (y ∷ ys) = both (g y) (flat_map g ys) (each y) (flat g each ys)

  mapped : {Y : Type 0} (g : Y → X) → ((y : Y) → P (g y)) → (ys : List Y) → AllByRecursion P (map g ys)
  mapped g each [] = tt
  mapped g each (y ∷ ys) = (each y, mapped g each ys)

  flat_some : {Y : Type 0} (Q : Y → Type 0) (g : Y → List X) → ((y : Y) → Q y → AllByRecursion P (g y)) → (ys : List Y) → AllByRecursion Q ys → AllByRecursion P (flat_map g ys)
  flat_some Q g each [] h = tt
  flat_some Q g each (y ∷ ys) h = both (g y) (flat_map g ys) (each y h.0) (flat_some Q g each ys h.1)

mutual
  in_type : (path : List Step) (role : Role) (t : TypeUse) → All (type_sites path role t)
  in_type path role (named_type name arguments constraints) = (tt, in_arguments path name arguments)
  in_type path role (layout_type attributes l constraints) = (tt, (tt, in_layout path l))

  in_arguments : (path : List Step) (head : Path) (list : Arguments) → All (arguments_sites path head list)
  in_arguments path head no_arguments = tt
  in_arguments path head (next_argument a rest) = both Stands (argument_sites path any_type a) (further_sites path (second_argument head) rest) (in_argument path any_type a) (in_further path (second_argument head) rest)

  in_further : (path : List Step) (role : Role) (list : Arguments) → All (further_sites path role list)
  in_further path role no_arguments = tt
  in_further path role (next_argument a rest) = both Stands (argument_sites path role a) (further_sites path any_type rest) (in_argument path role a) (in_further path any_type rest)

  in_argument : (path : List Step) (role : Role) (a : Argument) → All (argument_sites path role a)
  in_argument path role (number_argument n) = tt
  in_argument path role (type_argument t) = in_type path role t

  in_layout : (path : List Step) (l : Layout) → All (layout_sites path l)
  in_layout path (values_layout kind strict keyword u members) =
      (tt, both Stands (underlying_sites path u) (map (λ (m : ValueMember). attributes_site m.attributes) members) (in_underlying path u) (mapped Stands (λ (m : ValueMember). attributes_site m.attributes) (λ m. tt) members))
  in_layout path (struct_layout is_resource keyword ms) = (tt, in_members path any_type ms)
  in_layout path (table_layout is_resource keyword ms) = (tt, in_members path present_type ms)
  in_layout path (union_layout strict is_resource keyword ms) = (tt, in_members path present_type ms)

  in_underlying : (path : List Step) (u : Underlying) → All (underlying_sites path u)
  in_underlying path no_underlying = tt
  in_underlying path (underlying_type t) = in_type path bare_type t

  in_members : (path : List Step) (role : Role) (ms : Members) → All (members_sites path role ms)
  in_members path role no_members = tt
  in_members path role (next_member m ms) = both Stands (member_sites path role m) (members_sites path role ms) (in_member path role m) (in_members path role ms)

  in_member : (path : List Step) (role : Role) (m : Member) → All (member_sites path role m)
  in_member path role (named_member attributes name t) = (tt, in_type (within path (step.Name name)) role t)
  in_member path role (ordinal_member attributes ordinal name t) = (tt, in_type (within path (step.Name name)) role t)
  in_member path role (reserved_member attributes ordinal) = (tt, tt)

in_part : (path : List Step) (role : Role) (o : Option TypeUse) → All (part_sites path role o)
in_part path role None = tt
in_part path role (Some t) = in_type path role t

module _ (protocol method : Span) where
  abbrev own : List Step
  own = within (step.Name protocol ∷ []) (step.Name method)

  in_empty : (o : Option TypeUse) → All (empty_sites own o)
  in_empty None = ((protocol, (method, refl)), tt)
  in_empty (Some t) = tt

  in_result : (strict : Bool) (r : Response) (has : Bool) → All (result_sites own strict r has)
  in_result strict r false = tt
  in_result strict r true = (tt, in_empty r.payload)

  in_answer : (strict : Bool) (o : Option Response) → All (answer_sites own strict o)
  in_answer strict None = tt
  in_answer strict (Some r) =
      let response = part_sites (within own step.Response) any_type r.payload in
      let error = part_sites (within own step.Error) present_type r.error in
      let result = result_sites own strict r (has_result strict r.error) in
      both Stands (response ++ error) result (both Stands response error (in_part (within own step.Response) any_type r.payload) (in_part (within own step.Error) present_type r.error)) (in_result strict r (has_result strict r.error))

in_protocol : (protocol : Span) (m : ProtocolMember) → All (protocol_sites (step.Name protocol ∷ []) m)
in_protocol protocol (compose_member attributes name) = (tt, tt)
in_protocol protocol (method_member attributes strict name request response) =
    let path = within (within (step.Name protocol ∷ []) (step.Name name)) step.Request in
    (tt, both Stands (part_sites path any_type request) (answer_sites (own protocol name) strict response) (in_part path any_type request) (in_answer protocol name strict response))
in_protocol protocol (event_member attributes strict name payload) = (tt, in_part (within (within (step.Name protocol ∷ []) (step.Name name)) step.Response) any_type payload)

in_body : (name : Span) (b : Body) → All (body_sites (step.Name name ∷ []) b)
in_body name (const_body t v) = in_type (step.Name name ∷ []) any_type t
in_body name (alias_body t) = in_type (step.Name name ∷ []) aliased_type t
in_body name (type_body attributes l) = (tt, in_layout (step.Name name ∷ []) l)
in_body name (protocol_body openness members) = flat Stands (protocol_sites (step.Name name ∷ [])) (in_protocol name) members
in_body name (service_body ms) = in_members (step.Name name ∷ []) service_type ms
in_body name (resource_body t properties) =
    both Stands (type_sites (step.Name name ∷ []) bare_type t) (members_sites (step.Name name ∷ []) bare_type properties) (in_type (step.Name name ∷ []) bare_type t) (in_members (step.Name name ∷ []) bare_type properties)

in_declaration : (d : Declaration) → All (declaration_sites d)
in_declaration d = (tt, in_body d.name d.body)

in_file : (f : File) → All (file_sites f)
in_file f = (tt, both Stands (map import_site f.imports) (flat_map declaration_sites f.declarations) (mapped Stands import_site (λ i. tt) f.imports) (flat Stands declaration_sites in_declaration f.declarations))

-- the forms of a layout are no empty responses
of_layout : (number : ℕ) (f : File) (path : List Step) (l : Layout) → AllByRecursion FormStands (map (form_at number f path) (layout_kinds l))
of_layout number f path (values_layout kind strict keyword u members) = (tt, tt)
of_layout number f path (struct_layout is_resource keyword ms) = (tt, tt)
of_layout number f path (table_layout is_resource keyword ms) = (tt, tt)
of_layout number f path (union_layout strict is_resource keyword ms) = (tt, (tt, tt))

of_site : (number : ℕ) (f : File) (s : Site) → Stands s → AllByRecursion FormStands (site_forms number f s)
of_site number f (type_site role t) h = tt
of_site number f (layout_site path l) h = of_layout number f path l
of_site number f (result_site path strict r) h = (tt, tt)
of_site number f (empty_response_site path) h = (h, tt)
of_site number f (attributes_site attributes) h = tt

of_files : (number : ℕ) (files : List File) → AllByRecursion FormStands (forms_from number files)
of_files number [] = tt
of_files number (f ∷ files) =
    both FormStands (file_forms number f) (forms_from (suc number) files) (flat_some FormStands Stands (site_forms number f) (of_site number f) (file_sites f) (in_file f)) (of_files (suc number) files)

-- each empty response of files stands at the path of a method's response
pub empty_stands : (files : List Tree) (form : Form) → Contains (all_forms files) form → form.kind ≡ empty_response_form → IsResponsePath form.path
empty_stands files form among is =
    subst (λ k. HasPath k form.path) is (All-contains FormStands (all_forms files) form (All-from_recursion FormStands (all_forms files) (of_files 0 (map file_view files))) among)

only_empty : (k : FormKind) → IsAnswerKind true k → k ≡ empty_response_form
only_empty (layout_form optional l) h = absurd h
only_empty (result_form strict r) h = absurd (cc)
only_empty empty_response_form h = refl

-- The empty response of a method is the one in the result at its method's path.
module _ (number : ℕ) (protocol method : Span) (form : Form) where
  pub answer_is_empty : IsAnswerAt number true protocol method form → IsEmptyOf number (method_path protocol method step.Result) form
  answer_is_empty h = record {
    kind_is = only_empty form.kind h.kind_is;
    file_is = h.file_is;
    of_method = record { method = step.Name protocol ∷ step.Name method ∷ []; of_result = refl; of_response = h.path_is };
  }

  pub empty_is_answer : IsEmptyOf number (method_path protocol method step.Result) form → IsAnswerAt number true protocol method form
  empty_is_answer h = record {
    kind_is = subst (IsAnswerKind true) (sym h.kind_is) refl;
    file_is = h.file_is;
    path_is = h.of_method.of_response ∙ ap (λ m. within m step.Response) (sym (one_before (step.Name protocol ∷ step.Name method ∷ []) h.of_method.method step.Result step.Result h.of_method.of_result).0);
  }

-- the path of a result in which an empty response of files stands is that of a method's result
pub path_before : (files : List Tree) (number : ℕ) (path : List Step) (form : Form) → Contains (all_forms files) form → IsEmptyOf number path form → (protocol : Span) × ((method : Span) × (path ≡ method_path protocol method step.Result))
path_before files number path form among h =
    let at = empty_stands files form among h.kind_is in
    let same = (one_before h.of_method.method (step.Name at.0 ∷ step.Name at.1.0 ∷ []) step.Response step.Response (sym h.of_method.of_response ∙ at.1.1)).0 in
    (at.0, (at.1.0, h.of_method.of_result ∙ ap (λ m. within m step.Result) same))
