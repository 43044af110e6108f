-- The members of a table, as they are noted (docs/decoding.md, "Tables of a vector").
use Rattle.std.specs.Prelude.{◌≡◌, ℕ, suc, ◌<◌, ◌≤◌, List, Some, slice_index_or}
use Rattle.fidl_wire.specs.Term as ty
use Rattle.fidl_wire.specs.Term.{find}
use Rattle.fidl_table_format.specs.declared.kind.EntryKind.TheVariants as kinds
use Rattle.fidl_table_format.specs.Kind.{kind_of}
use Rattle.fidl_table_format.specs.Section.{header_of, entry_at}
use Rattle.fidl_table_format.specs.Terms.{members_of}
use Rattle.fidl_decode_model.specs.declared.frame.Frame.{Frame}
use Rattle.fidl_decode_model.specs.State.{Message}
use Rattle.fidl_decode_values.specs.Body.{IsFreeOf, envelopes_behind}
use Rattle.fidl_decode_values.specs.Structs.{IsFreeStruct}
use Rattle.fidl_decode_members.specs.declared.envelopes.Envelopes.{Envelopes}
use Rattle.fidl_decode_members.specs.declared.envelopes.Opened.{Opened}
use Rattle.fidl_decode_members.specs.declared.member.Member.{Member}
use Rattle.fidl_decode_members.specs.declared.member.Passage.{Passage}
use Rattle.fidl_decode_members.specs.declared.member.Passage.TheVariants.{Inside, Bool, Below, Text, Struct, Other}
use Rattle.fidl_decode_members.specs.declared.members.Members.{Members}

-- the envelope of a member of the entry is passed over so: what its value is, is known
abbrev pub IsPassage : List ℕ → Message → (entry : ℕ) → Passage → Type 0
IsPassage t m e (Inside size) = IsFreeOf t e size × (size ≤ 4)
IsPassage t m e Bool = kind_of (entry_at t e).kind ≡ Some kinds.Bool
IsPassage t m e Below = IsFreeOf t e 8
IsPassage t m e Text = kind_of (entry_at t e).kind ≡ Some kinds.String
IsPassage t m e (Struct known) = IsFreeStruct t m known × (known.entry ≡ e)
IsPassage t m e Other = Unit {0}

-- the member of the table entry with the ordinal behind i is noted so
pub record IsMember (t : List ℕ) (m : Message) (holder i : ℕ) (k : Member) : Type 0 where
  pub entry : k.entry < (header_of t).entries
  pub found : find (members_of t holder) (suc i) ≡ Some (ty.named k.entry)
  pub passage : IsPassage t m k.entry k.passage

-- what stands for a member that is not noted
abbrev pub unnoted : Member
unnoted = record { entry = 0; passage = Inside 0 }

-- the first members of a table entry are noted so
pub record AreMembers (t : List ℕ) (m : Message) (x : Members) : Type 0 where
  pub entry : x.entry < (header_of t).entries
  pub is : kind_of (entry_at t x.entry).kind ≡ Some kinds.Table
  pub each : (i : ℕ) → i < x.count → IsMember t m x.entry i (slice_index_or x.members i unnoted)
  pub few : x.count ≤ 32

-- they are those of this entry
abbrev pub AreMembersOf : List ℕ → Message → (entry : ℕ) → Members → Type 0
AreMembersOf t m entry x = AreMembers t m x × (x.entry ≡ entry)

-- the frame of the envelopes of a table, of which these are read
abbrev pub rest_of : Members → Envelopes → (read : ℕ) → Frame
rest_of x e read = envelopes_behind x.entry e.base e.count e.depth read

-- the frame of the envelopes of a table that is opened, behind those that are read
abbrev pub left_of : (entry depth : ℕ) → Opened → Frame
left_of entry depth o = envelopes_behind entry o.base o.count depth o.read
