-- What each refusal says of sources (docs/language.md, "Compiling"). That memory ran out says
-- nothing of them.
use Rattle.std.specs.Prelude.{ℕ, ◌≡◌, ◌≢◌, ◌⊎◌, ⊤, List, ◌++◌, ◌∷◌, Some, length, take, slice_get}
use Rattle.fidl_span.specs.declared.words.Word.{Word}
use Rattle.fidl_span.specs.declared.faults.LexFault.{LexFault}
use Rattle.fidl_span.specs.declared.faults.LexFault.TheVariants as lex
use Rattle.fidl_span.specs.Words.{Words}
use Rattle.fidl_span.specs.Faults.{Refutes, HasNoWords}
use Rattle.fidl_tree.specs.declared.file.File.{File}
use Rattle.fidl_parse.specs.declared.fault.ParseFault.{ParseFault}
use Rattle.fidl_parse.specs.declared.fault.ParseFault.TheVariants as parse
use Rattle.fidl_parse.specs.Faults.{IsTrueOf}
use Rattle.fidl_parse.specs.Trees.{HasTree}
use Rattle.fidl_named.specs.declared.fault.NameFault.{NameFault}
use Rattle.fidl_named.specs.declared.fault.NameFault.TheVariants as names
use Rattle.fidl_named.specs.Names.{all_declared, AreDistinct}
use Rattle.fidl_names.specs.Refusals.{IsTrueOfAdding}
use Rattle.fidl_names.specs.Resolved.{Resolves, IsTrueOfResolving}
use Rattle.fidl_consts.specs.declared.fault.ConstFault.{ConstFault}
use Rattle.fidl_consts.specs.declared.fault.ConstFault.TheVariants as const
use Rattle.fidl_consts.specs.Evaluated.{Evaluates}
use Rattle.fidl_const.specs.Evaluating.{IsTrueOfEvaluating}
use Rattle.fidl_types.specs.declared.fault.TypeFault.{TypeFault}
use Rattle.fidl_types.specs.declared.fault.TypeFault.TheVariants as types
use Rattle.fidl_types.specs.Faults.{IsTrueOfTypes}
use Rattle.fidl_types.specs.Types.{TypesAre}
use Rattle.fidl_layout.specs.declared.fault.LayoutFault.{LayoutFault}
use Rattle.fidl_layout.specs.declared.fault.LayoutFault.TheVariants as layout
use Rattle.fidl_layout.specs.Faults.{IsTrueOfLayout}
use Rattle.fidl_layout.specs.Laid.{AreLaidOut}
use Rattle.fidl_protocol.specs.declared.fault.ProtocolFault.{ProtocolFault}
use Rattle.fidl_protocol.specs.declared.fault.ProtocolFault.TheVariants as protocol
use Rattle.fidl_protocol.specs.Faults.{IsTrueOfProtocols}
use Rattle.fidl_compile.specs.declared.fault.CompileFault.{CompileFault}
use Rattle.fidl_compile.specs.declared.fault.CompileFault.TheVariants.{Lex, Parse, Names, Const}
use Rattle.fidl_compile.specs.declared.fault.CompileFault.TheVariants.{Types, Layout, Protocol}
use Rattle.fidl_compile.specs.declared.fault.CompileFault.TheVariants.{Memory}
use Rattle.fidl_wire.specs.Term.{Term}
use Rattle.fidl_wire.specs.Figure.{Declarations}
use Rattle.fidl_compile.specs.Sources.{ReadAs}

-- the fault of compiling that a stage's fault is
abbrev pub of_lex : ℕ → LexFault → CompileFault
of_lex file lex.Memory = Memory
of_lex file fault = Lex file fault

abbrev pub of_parse : ℕ → ParseFault → CompileFault
of_parse file parse.Memory = Memory
of_parse file fault = Parse file fault

abbrev pub of_names : NameFault → CompileFault
of_names names.Memory = Memory
of_names fault = Names fault

abbrev pub of_const : ConstFault → CompileFault
of_const const.Memory = Memory
of_const fault = Const fault

abbrev pub of_types : TypeFault → CompileFault
of_types types.Memory = Memory
of_types fault = Types fault

abbrev pub of_layout : LayoutFault → CompileFault
of_layout layout.Memory = Memory
of_layout fault = Layout fault

abbrev pub of_protocol : ProtocolFault → CompileFault
of_protocol protocol.Memory = Memory
of_protocol fault = Protocol fault

-- a source has no words: the fault is true of it
pub record HasBadWords (src : List ℕ) (fault : LexFault) : Type 0 where
  pub is_fault : fault ≢ lex.Memory
  pub refutes : Refutes src fault
  pub none : HasNoWords src fault

-- a source has words, and these have no tree: the fault is true of them
pub record HasNoTree (src : List ℕ) (fault : ParseFault) : Type 0 where
  pub is_fault : fault ≢ parse.Memory
  pub words : List Word
  pub are_words : Words src words
  pub refutes : IsTrueOf words src fault
  pub none : ¬ HasTree words src

-- the source of this number is refused by itself
abbrev pub SourceRefused : (src : List ℕ) → (file : ℕ) → CompileFault → Type 0
SourceRefused src file (Lex number fault) = (number ≡ file) × HasBadWords src fault
SourceRefused src file (Parse number fault) = (number ≡ file) × HasNoTree src fault
SourceRefused src file Memory = ⊤
SourceRefused src file _ = ⊥

-- of sources, that of this number is refused by itself
abbrev pub NextRefused : (sources : List (List ℕ)) → (file : ℕ) → CompileFault → Type 0
NextRefused sources file fault =
    (src : List ℕ) × (slice_get sources file ≡ Some src) × SourceRefused src file fault

-- a file is refused behind those before it: it declares a name a second time
pub record IsRefusedBehind (files : List File) (fault : NameFault) : Type 0 where
  pub is_fault : fault ≢ names.Memory
  pub before : List File
  pub file : File
  pub rest : List File
  pub are : files ≡ before ++ file ∷ rest
  pub distinct : AreDistinct (all_declared before)
  pub says : IsTrueOfAdding (all_declared before) file (length before) fault

-- files that follow one another in a set are refused
abbrev pub AddingRefused : List File → CompileFault → Type 0
AddingRefused files (Names fault) = IsRefusedBehind files fault
AddingRefused files Memory = ⊤
AddingRefused files _ = ⊥

-- files keep the rules of names and of constants
pub record HaveValues (files : List File) : Type 0 where
  pub resolved : Resolves files
  pub evaluated : Evaluates files

-- and those of types
pub record HaveTypes (files : List File) : Type 0 where
  pub before : HaveValues files
  pub definitions : List Term
  pub checked : TypesAre files definitions

-- and the limits
pub record HaveLayouts (files : List File) : Type 0 where
  pub before : HaveTypes files
  pub declarations : Declarations
  pub laid_out : AreLaidOut files declarations

-- files of which no name is declared twice are refused by a stage, and keep the rules of all stages
-- before it
abbrev pub FilesRefused : List File → CompileFault → Type 0
FilesRefused files (Names fault) = (fault ≢ names.Memory) × IsTrueOfResolving files fault
FilesRefused files (Const fault) =
    (fault ≢ const.Memory) × Resolves files × IsTrueOfEvaluating files fault
FilesRefused files (Types fault) =
    (fault ≢ types.Memory) × HaveValues files × IsTrueOfTypes files fault
FilesRefused files (Layout fault) =
    (fault ≢ layout.Memory) × HaveTypes files × IsTrueOfLayout files fault
FilesRefused files (Protocol fault) =
    (fault ≢ protocol.Memory) × HaveLayouts files × IsTrueOfProtocols files fault
FilesRefused files Memory = ⊤
FilesRefused files _ = ⊥

-- sources are refused by themselves: one has no tree, where those before it read as files of which
-- no name is declared twice
pub record SourcesRefused (sources : List (List ℕ)) (fault : CompileFault) : Type 0 where
  pub files : List File
  pub read : ReadAs (take (length files) sources) files
  pub distinct : AreDistinct (all_declared files)
  pub next : NextRefused sources (length files) fault

-- the first of them read as files of which one declares a name a second time
pub record NamesRefused (sources : List (List ℕ)) (fault : CompileFault) : Type 0 where
  pub files : List File
  pub read : ReadAs (take (length files) sources) files
  pub refused : AddingRefused files fault

-- they read as files that break a rule of the language
pub record RulesRefused (sources : List (List ℕ)) (fault : CompileFault) : Type 0 where
  pub files : List File
  pub read : ReadAs sources files
  pub distinct : AreDistinct (all_declared files)
  pub refused : FilesRefused files fault

-- what a refusal says of sources
abbrev pub AreRefused : (sources : List (List ℕ)) → CompileFault → Type 0
AreRefused sources Memory = ⊤
AreRefused sources fault =
    SourcesRefused sources fault ⊎ NamesRefused sources fault ⊎ RulesRefused sources fault
