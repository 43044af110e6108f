-- The numbers of declared types and of payloads.
use Rattle.std.proofs.Common.{◌≡◌, ◌<◌, ◌+◌, take, length, get_or, ℕ, List, [], ◌∷◌, ◌++◌, inl, inr, sym, ap, subst}
use Rattle.std.specs.Prelude.{flat_map}
use Rattle.std.specs.List.{Contains}
use Rattle.std.proofs.lemmas.List.Elements.{Contains-push, Contains-append_left, Contains-append_right, Contains-append_cases}
use Rattle.fidl_tree.specs.declared.file.File.{File}
use Rattle.fidl_cycles.proofs.Lists.{take_item}
use Rattle.fidl_composition.proofs.Lists.{here, nothing_there, just_one}
use Rattle.fidl_layout.specs.Roots.{AreRoots}
use Rattle.fidl_payloads.specs.declared.payload.Payload.{Payload}
use Rattle.fidl_payloads.specs.declared.payload.Payload.TheVariants.{Missing, Empty}
use Rattle.fidl_payloads.specs.declared.payload.Payload.TheVariants as payload
use Rattle.fidl_protocol.specs.declared.method.Method.{Method}
use Rattle.fidl_protocol.specs.declared.method.Protocol.{Protocol}
use Rattle.fidl_protocol.specs.Methods.{IsDeclared}
use Rattle.fidl_protocol.specs.Starts.{Carries, IsCarried, AreStarts}
use Rattle.fidl_protocol.specs.Checked.{AreProtocolsWith}
use Rattle.fidl_protocol.specs.Gathered.{payload_numbers, method_payloads, protocol_payloads}
use Rattle.fidl_protocol.proofs.Lists.{flat_back, flat_there, front_there}
use Rattle.fidl_protocol.proofs.Listing.{listed, is_declared}

number_of : (p : Payload) (i : ℕ) → Contains (payload_numbers p) i → p ≡ payload.«Type» i
number_of Missing i c = absurd (nothing_there i c)
number_of Empty i c = absurd (nothing_there i c)
number_of (payload.«Type» j) i c = ap payload.«Type» (just_one j i c)

number_there : (p : Payload) (i : ℕ) → p ≡ payload.«Type» i → Contains (payload_numbers p) i
number_there p i is = subst (λ q. Contains (payload_numbers q) i) (sym is) (here i [])

carries : (m : Method) (i : ℕ) → Contains (method_payloads m) i → Carries m i
carries m i c = elim (Contains-append_cases (payload_numbers m.payloads.request) (payload_numbers m.payloads.response) i c) [
  | inl k ↦ inl (number_of m.payloads.request i k)
  | inr k ↦ inr (number_of m.payloads.response i k)
]

carried_there : (m : Method) (i : ℕ) → Carries m i → Contains (method_payloads m) i
carried_there m i (inl is) = Contains-append_left (payload_numbers m.payloads.request) (payload_numbers m.payloads.response) i (number_there m.payloads.request i is)
carried_there m i (inr is) = Contains-append_right (payload_numbers m.payloads.request) (payload_numbers m.payloads.response) i (number_there m.payloads.response i is)

module _ (files : List File) (ps : List Protocol) (are : AreProtocolsWith files ps) (roots : List ℕ) (known : AreRoots files roots) where
  abbrev all : List ℕ
  all = roots ++ flat_map protocol_payloads ps

  is_carried : (i : ℕ) → Contains (flat_map protocol_payloads ps) i → IsCarried files i
  is_carried i c =
      let p = flat_back protocol_payloads ps i c in
      let m = flat_back method_payloads p.0.methods.items i p.2 in
      record { method = m.0; declared = is_declared files ps are p.0 m.0 p.1 m.1; carries = carries m.0 i m.2 }

  pub are_starts : AreStarts files all
  are_starts = record {
    sound = λ i c. elim (Contains-append_cases roots (flat_map protocol_payloads ps) i c) [
      | inl k ↦ inl (known.sound i k)
      | inr k ↦ inr (is_carried i k)
    ];
    roots = λ i r. Contains-append_left roots (flat_map protocol_payloads ps) i (known.complete i r);
    payloads = λ i h.
        let p = listed files ps are h.method h.declared in
        Contains-append_right roots (flat_map protocol_payloads ps) i (flat_there protocol_payloads ps p.0 i p.1 (flat_there method_payloads p.0.methods.items h.method i p.2 (carried_there h.method i h.carries)));
  }

-- a method stands in one of these protocols
pub record StandsIn (ps : List Protocol) (m : Method) : Type 0 where
  pub protocol : Protocol
  pub among : Contains ps protocol
  pub there : Contains protocol.methods.items m

pub stands_declared : (files : List File) (ps : List Protocol) → AreProtocolsWith files ps → (i : ℕ) (m : Method) → StandsIn (take i ps) m → IsDeclared files m
stands_declared files ps are i m h = is_declared files ps are h.protocol m (front_there ps i h.protocol h.among) h.there

module _ (ps : List Protocol) (i : ℕ) (p : Protocol) (lt : i < length ps) (is : p ≡ get_or ps i p) where
  pub stands_here : (m : Method) → Contains p.methods.items m → StandsIn (take (i + 1) ps) m
  stands_here m there = record { protocol = p; among = subst (λ l. Contains l p) (sym (take_item ps i p lt is)) (Contains-push (take i ps) p); there = there }

  pub stands_more : (m : Method) → StandsIn (take i ps) m → StandsIn (take (i + 1) ps) m
  stands_more m h = record { protocol = h.protocol; among = subst (λ l. Contains l h.protocol) (sym (take_item ps i p lt is)) (Contains-append_left (take i ps) (p ∷ []) h.protocol h.among); there = h.there }
