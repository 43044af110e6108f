-- All protocols, each with its methods.
use Rattle.std.proofs.Common.{◌≡◌, ◌∙◌, ◌+◌, ◌<◌, ℕ, List, [], ◌∷◌, ◌++◌, map, take, length, get_or, refl, ap, sym, subst, inl, inr}
use Rattle.std.specs.List.{Contains, AllByRecursion}
use Rattle.std.proofs.lemmas.List.{map-append}
use Rattle.std.proofs.lemmas.List.Elements.{All-contains, All-from_recursion}
use Rattle.fidl_tree.specs.declared.file.File.{File}
use Rattle.fidl_named.specs.declared.place.DeclarationId.{DeclarationId}
use Rattle.fidl_cycles.proofs.Lists.{take_item}
use Rattle.fidl_composition.specs.Protocols.{IsProtocol, AreProtocols}
use Rattle.fidl_composition.specs.Compositions.{Reaches}
use Rattle.fidl_composition.proofs.Lists.{map_back, nothing_there}
use Rattle.fidl_composition.proofs.Ways.{leading}
use Rattle.fidl_protocol.specs.declared.method.Method.{Method}
use Rattle.fidl_protocol.specs.declared.method.Protocol.{Protocol}
use Rattle.fidl_protocol.specs.Methods.{IsDeclared, HasMethod, MethodsDiffer}
use Rattle.fidl_protocol.specs.Checked.{MembersHold, AreMethodsOf, AreProtocolsWith}
use Rattle.fidl_protocol.proofs.Members.{each_more}
use Rattle.fidl_protocol.proofs.Nodes.{declares, it_is}

module _ (files : List File) where
  -- what has methods is a protocol
  reaching : (p q : DeclarationId) → Reaches files p q → IsProtocol files q → IsProtocol files p
  reaching p q (inl same) h = subst (IsProtocol files) (sym same) h
  reaching p q (inr leads) h = leading files p q leads

  pub has_methods : (p : DeclarationId) (m : Method) → HasMethod files p m → IsProtocol files p
  has_methods p m h = reaching p m.protocol h.reaches (declares files m h.declared)

  -- what holds of all protocols of a list holds of all
  module _ (ids : List DeclarationId) (are : AreProtocols files ids) where
    pub all_differ : ((p : DeclarationId) → Contains ids p → MethodsDiffer files p) → (p : DeclarationId) → MethodsDiffer files p
    all_differ each p = record {
      names = λ one other h k same. (each p (are.all p (has_methods p one h))).names one other h k same;
      ordinals = λ one other h k same. (each p (are.all p (has_methods p one h))).ordinals one other h k same;
    }

    pub all_hold : ((p : DeclarationId) → Contains ids p → MembersHold files p) → (p : DeclarationId) → MembersHold files p
    all_hold each p = record {
      methods = λ f o n ms at. (each p (are.all p (it_is files p f o n ms at))).methods f o n ms at;
      payloads = λ f o n ms at. (each p (are.all p (it_is files p f o n ms at))).payloads f o n ms at;
    }

  abbrev pub HasItsMethods : Protocol → Type 0
  HasItsMethods p = AreMethodsOf files p.id p.methods.items

  all_push : (ps : List Protocol) (p : Protocol) → AllByRecursion HasItsMethods ps → HasItsMethods p → AllByRecursion HasItsMethods (ps ++ p ∷ [])
  all_push [] p h one = (one, tt)
  all_push (q ∷ ps) p h one = (h.0, all_push ps p h.1 one)

  -- protocols so far, and one more
  pub record AreSoFar (ids : List DeclarationId) (count : ℕ) (ps : List Protocol) : Type 0 where
    pub protocols : map (λ (p : Protocol). p.id) ps ≡ take count ids
    pub methods : AllByRecursion HasItsMethods ps
    pub differ : (id : DeclarationId) → Contains (take count ids) id → MethodsDiffer files id

  pub none_so_far : (ids : List DeclarationId) → AreSoFar ids 0 []
  none_so_far ids = record { protocols = refl; methods = tt; differ = λ id c. absurd (nothing_there id c) }

  module _ (ids : List DeclarationId) (i : ℕ) (id : DeclarationId) (lt : i < length ids) (is : id ≡ get_or ids i id) (ps : List Protocol) (p : Protocol) (h : AreSoFar ids i ps) where
    pub one_so_far : p.id ≡ id → AreMethodsOf files id p.methods.items → MethodsDiffer files id → (new : List Protocol) → new ≡ ps ++ p ∷ [] → AreSoFar ids (i + 1) new
    one_so_far its methods differ new more = record {
      protocols =
          ap (map (λ (q : Protocol). q.id)) more
          ∙ map-append (λ (q : Protocol). q.id) ps (p ∷ [])
          ∙ ap (λ l. l ++ p.id ∷ []) h.protocols
          ∙ ap (λ q. take i ids ++ q ∷ []) its
          ∙ sym (take_item ids i id lt is);
      methods = subst (AllByRecursion HasItsMethods) (sym more) (all_push ps p h.methods (subst (λ (q : DeclarationId). AreMethodsOf files q p.methods.items) (sym its) methods));
      differ = each_more (MethodsDiffer files) ids i id lt is h.differ differ;
    }

  pub all_protocols : (ids : List DeclarationId) (count : ℕ) (ps : List Protocol) → take count ids ≡ ids → AreProtocols files ids → AreSoFar ids count ps → AreProtocolsWith files ps
  all_protocols ids count ps whole are h = record { protocols = subst (AreProtocols files) (sym (h.protocols ∙ whole)) are; methods = h.methods }

  -- a declared method is among those of a protocol of the list
  module _ (ps : List Protocol) (are : AreProtocolsWith files ps) where
    pub methods_of : (p : Protocol) → Contains ps p → AreMethodsOf files p.id p.methods.items
    methods_of p c = All-contains HasItsMethods ps p (All-from_recursion HasItsMethods ps are.methods) c

    pub listed : (m : Method) → IsDeclared files m → (p : Protocol) × Contains ps p × Contains p.methods.items m
    listed m d =
        let back = map_back (λ (p : Protocol). p.id) ps m.protocol (are.protocols.all m.protocol (declares files m d)) in
        (back.0, back.1, (methods_of back.0 back.1).complete m (record { reaches = inl back.2; declared = d }))

    pub is_declared : (p : Protocol) (m : Method) → Contains ps p → Contains p.methods.items m → IsDeclared files m
    is_declared p m c d = ((methods_of p c).sound m d).declared
