-- The rules of a protocol, which methods are its own, and finding one by its name (docs/table.md,
-- "Verification").
use Rattle.std.specs.Prelude.{◌≡◌, ◌≢◌, ℕ, zero, suc, ◌+◌, ◌<◌, ◌≤◌, List}
use Rattle.fidl_table_format.specs.declared.record.Header.{Header}
use Rattle.fidl_table_format.specs.declared.record.ProtocolRecord.{ProtocolRecord}
use Rattle.fidl_table_format.specs.Section.{protocol_at, name_at}
use Rattle.fidl_table_format.specs.Name.{IsFullName}
use Rattle.fidl_table_format.specs.Root.{IsBefore}

-- the name of the protocol of this number
abbrev pub protocol_name : List ℕ → Header → (index : ℕ) → List ℕ
protocol_name bytes h index = let p = protocol_at bytes h index in
    name_at bytes h p.name_place p.name_length

-- closed, ajar or open
abbrev pub IsOpenness : ProtocolRecord → Type 0
IsOpenness p = p.openness ≤ 2

-- the protocol has a name that isn't empty
abbrev pub HasProtocolName : List ℕ → Header → (index : ℕ) → Type 0
HasProtocolName bytes h index = let p = protocol_at bytes h index in
    IsFullName bytes h p.name_place p.name_length

-- the name stands behind that of the protocol before
abbrev pub ProtocolRises : List ℕ → Header → (index : ℕ) → Type 0
ProtocolRises bytes h index = (before : ℕ) → suc before ≡ index
    → IsBefore (protocol_name bytes h before) (protocol_name bytes h index)

-- how many methods the protocols before this one have together
abbrev pub methods_before : List ℕ → Header → (index : ℕ) → ℕ
methods_before bytes h zero = 0
methods_before bytes h (suc index) =
    methods_before bytes h index + (protocol_at bytes h index).methods

-- its methods, which follow those of the protocols before it, are in the table
abbrev pub HasMethods : List ℕ → Header → (index : ℕ) → Type 0
HasMethods bytes h index = methods_before bytes h (suc index) ≤ h.methods

-- all the rules of the protocol of this number
pub record IsProtocol (bytes : List ℕ) (h : Header) (index : ℕ) : Type 0 where
  pub openness : IsOpenness (protocol_at bytes h index)
  pub name : HasProtocolName bytes h index
  pub rises : ProtocolRises bytes h index
  pub methods : HasMethods bytes h index

-- the method of a number is one of the protocol of this number
pub record IsMethodOf (bytes : List ℕ) (h : Header) (protocol method : ℕ) : Type 0 where
  pub from : methods_before bytes h protocol ≤ method
  pub to : method < methods_before bytes h (suc protocol)

-- the first protocol of this name
pub record IsFirstProtocol (bytes : List ℕ) (h : Header) (name : List ℕ) (index : ℕ) : Type 0 where
  pub within : index < h.protocols
  pub named : protocol_name bytes h index ≡ name
  pub first : (k : ℕ) → k < index → protocol_name bytes h k ≢ name

-- no protocol has this name
abbrev pub HasNoProtocol : List ℕ → Header → (name : List ℕ) → Type 0
HasNoProtocol bytes h name = (index : ℕ) → index < h.protocols → protocol_name bytes h index ≢ name
