-- The replies that are read so far.
use Rattle.std.specs.Prelude.{◌≡◌, ℕ, suc, ◌<◌, not, List, [], ◌∷◌, length, map, slice_index_or}
use Rattle.std.specs.Prelude.{if◌then◌else◌}
use Rattle.std.specs.List.{AllByRecursion, AllPairs, AllZip, Contains}
use Rattle.std.specs.Global.{Vec}
use Rattle.fidl_encode.specs.declared.message.Message.{Message}
use Rattle.fidl_table_format.specs.Method.{is_strict}
use Rattle.fidl_verify.specs.Lookups.{TableProtocol, protocol_record}
use Rattle.fidl_script.specs.Lines.{Line}
use Rattle.fidl_script.specs.Script.{Body, Replies, bodies_of, method_of, has_both, IsTwoWay, AreRepliesOf}
use Rattle.fidl_script.specs.Text.{Reply, IsReply, replies_with}
use Rattle.fidl_script.specs.Held.{bodies_view, replies_of}

-- the bodies of each place, in order
abbrev pub places_view : List (Vec Message) → List (List Body)
places_view places = map (λ (ms : Vec Message). bodies_view ms.items) places

-- the lines give replies, and each place has the bodies of its method's replies
pub record AreCollected (p : TableProtocol) (lines : List Line) (places : List (List Body)) : Type 0
  where
    pub replies : List Reply
    pub are : AllZip (IsReply p) lines replies
    pub long : length places ≡ (protocol_record p).methods
    pub bodies : (place : ℕ) → place < (protocol_record p).methods
        → slice_index_or places place [] ≡ replies_with (method_of p place).ordinal replies

-- of the methods from this place on, those that are two-way, each with the bodies of its place
abbrev pub held_from : TableProtocol → (place : ℕ) → (places : List (List Body)) → List Replies
held_from p place [] = []
held_from p place (bodies ∷ places) =
    let m = method_of p place in
    if has_both m
    then replies_of m.ordinal (not (is_strict m)) bodies ∷ held_from p (suc place) places
    else held_from p (suc place) places

-- each two-way method has a body
abbrev pub HaveBodies : TableProtocol → (places : List (List Body)) → Type 0
HaveBodies p places = (place : ℕ) → place < length places → IsTwoWay p place
    → 0 < length (slice_index_or places place [])

-- a two-way method has no body
abbrev pub LacksBody : TableProtocol → (places : List (List Body)) → Type 0
LacksBody p places = (place : ℕ) × IsTwoWay p place × (slice_index_or places place [] ≡ [])

-- the replies of all two-way methods, each with the bodies of its place, of which there is one at
-- least
pub record IsHeld (p : TableProtocol) (places : List (List Body)) (held : List Replies) : Type 0
  where
    pub is : held ≡ held_from p 0 places
    pub some : HaveBodies p places

-- the lines give these replies of the two-way methods
pub record AreGiven (p : TableProtocol) (lines : List Line) (methods : List Replies) : Type 0 where
  pub replies : List Reply
  pub are : AllZip (IsReply p) lines replies
  pub held : AllByRecursion (λ (m : Replies). bodies_of m ≡ replies_with m.ordinal replies) methods
  pub sound : (r : Replies) → Contains methods r → (place : ℕ) × AreRepliesOf p place r
  pub complete : (place : ℕ) → IsTwoWay p place
      → (r : Replies) × Contains methods r × AreRepliesOf p place r
  pub rise : AllPairs (λ (r q : Replies). r.ordinal < q.ordinal) methods
