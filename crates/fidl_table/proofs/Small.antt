-- Names in a small file, a struct that is shown, and protocols of tables that have none or that no file has, for worked
-- facts.
use Rattle.std.proofs.Common.{◌≡◌, ◌∙◌, ◌<◌, ℕ, zero, suc, List, [], ◌∷◌, ◌++◌, None, map, slice_get, codes, refl, ap, subst, arith}
use Rattle.std.specs.List.{Contains}
use Rattle.std.proofs.lemmas.Option.{none-some, same_Some}
use Rattle.fidl_tree.specs.Syntax.{Path}
use Rattle.fidl_tree.specs.Views.{file_view}
use Rattle.fidl_tree.specs.declared.file.File.{File}
use Rattle.fidl_named.specs.declared.place.DeclarationId.{DeclarationId}
use Rattle.fidl_declarations.specs.declared.step.Step.{Step}
use Rattle.fidl_declarations.specs.declared.step.Step.TheVariants as step
use Rattle.fidl_declarations.specs.Forms.{steps_text, name_by_path}
use Rattle.fidl_wire.specs.Term.{uint8}
use Rattle.fidl_wire.specs.Term as ty
use Rattle.fidl_wire.specs.Figure.{Declarations}
use Rattle.fidl_equivalence.specs.Alike.{Alike, AreNumbered, IsNumbered}
use Rattle.fidl_equivalence.specs.Alike as like
use Rattle.fidl_equivalence.proofs.Levels.{alike_types, numbered_types}
use Rattle.fidl_table_format.specs.Terms.{declarations_of}
use Rattle.fidl_composition.specs.Protocols.{IsProtocol}
use Rattle.fidl_composition.proofs.Lists.{here, nothing_there}
use Rattle.fidl_protocol.specs.declared.method.Protocol.{Protocol}
use Rattle.fidl_table_build.specs.Samples.{header_bytes}
use Rattle.fidl_table.specs.Definitions.{definition_names, ShowsDefinition}
use Rattle.fidl_table.specs.Protocols.{ShowsProtocols}
use Rattle.fidl_table.specs.Samples.{piece, IsSmall, three_types, three_names, two_roots, one_protocol}

abbrev by_parts : (source : List ℕ) → Path → List Step → List ℕ
by_parts source library path = steps_text source (map step.Name library) ++ codes "/" ++ steps_text source path

pub small_name : (f : File) → IsSmall f → (path : List Step) → name_by_path (file_view f) path ≡ by_parts (codes "lpm") (piece 0 ∷ []) path
small_name f small path =
    ap (λ source. by_parts source (file_view f).library path) small.source ∙ ap (λ library. by_parts (codes "lpm") library path) small.library

-- some protocol stands in a list in which an id stands
id_of_one : (ps : List Protocol) (id : DeclarationId) → Contains (map (λ (p : Protocol). p.id) ps) id → ((p : Protocol) → Contains ps p → ⊥) → ⊥
id_of_one [] id c none = nothing_there id c
id_of_one (p ∷ ps) id c none = none p (here p ps)

pub left_out : (files : List File) (ds : Declarations) (id : DeclarationId) → IsProtocol files id → ShowsProtocols files ds (header_bytes 0 0 0 0) → ⊥
left_out files ds id is h = id_of_one h.protocols id (h.are.protocols.all id is) (λ p c. let s = h.complete p c in let lt : s.0 < 0 = s.1 in omega (arith, lt))

-- no files have no protocols
none_listed : (ps : List Protocol) (p : Protocol) → Contains ps p → ((id : DeclarationId) → Contains (map (λ (p : Protocol). p.id) ps) id → IsProtocol [] id) → ⊥
none_listed [] p c are = nothing_there p c
none_listed (q ∷ ps) p c are = let is = are q.id (here q.id (map (λ (p : Protocol). p.id) ps)) in none-some is.1.file is.1.is.at.file_at

pub surplus : (ds : Declarations) → ShowsProtocols [] ds one_protocol → ⊥
surplus ds h = let s = h.sound 0 (omega arith) in none_listed h.protocols s.0 s.1 h.are.protocols.entries

levels : AreNumbered three_types (declarations_of (two_roots 16 0 1)) (ty.number uint8 ∷ ty.named 2 ∷ ty.named 0 ∷ [])
levels zero t at = subst (λ t. Alike (IsNumbered (ty.number uint8 ∷ ty.named 2 ∷ ty.named 0 ∷ [])) (ty.resolve three_types.terms t) (ty.number uint8)) (same_Some (ty.number uint8) t at) (like.number refl)
levels (suc zero) t at = subst (λ t. Alike (IsNumbered (ty.number uint8 ∷ ty.named 2 ∷ ty.named 0 ∷ [])) (ty.resolve three_types.terms t) (ty.struct ty.no_fields)) (same_Some (ty.named 2) t at) (like.struct like.no_fields)
levels (suc (suc zero)) t at = subst (λ t. Alike (IsNumbered (ty.number uint8 ∷ ty.named 2 ∷ ty.named 0 ∷ [])) (ty.resolve three_types.terms t) (ty.enum uint8 None)) (same_Some (ty.named 0) t at) (like.enum refl like.flexible)
levels (suc (suc (suc n))) t at = absurd (none-some t at)

pub a_struct : (files : List File) → definition_names files ≡ three_names → ShowsDefinition files three_types (two_roots 16 0 1) 2 1
a_struct files names = record {
  name = ap (λ ns. slice_get ns 2) names;
  same = λ v.
      let es = declarations_of (two_roots 16 0 1) in
      alike_types three_types es refl refl (ty.named 2) (ty.named 1)
      (numbered_types three_types es (ty.number uint8 ∷ ty.named 2 ∷ ty.named 0 ∷ []) levels 1 (ty.named 2) refl) v;
}
