-- What is reported of a refusal (docs/language.md, "Compiling").
use Rattle.std.specs.Prelude.{ℕ, List, Option, None, codes}
use Rattle.std.specs.Option.{option_map}
use Rattle.fidl_span.specs.declared.words.Span.{Span}
use Rattle.fidl_span.specs.FaultNames as lex
use Rattle.fidl_parse.specs.FaultNames as parse
use Rattle.fidl_named.specs.declared.place.Place.{Place}
use Rattle.fidl_named.specs.Faults as names
use Rattle.fidl_consts.specs.Faults as const
use Rattle.fidl_types.specs.FaultNames as types
use Rattle.fidl_layout.specs.FaultNames as layout
use Rattle.fidl_protocol.specs.FaultNames as protocol
use Rattle.fidl_compile.specs.declared.fault.CompileFault.{CompileFault}
use Rattle.fidl_compile.specs.declared.fault.CompileFault.TheVariants.{Lex, Parse, Names, Const}
use Rattle.fidl_compile.specs.declared.fault.CompileFault.TheVariants.{Types, Layout, Protocol}
use Rattle.fidl_compile.specs.declared.fault.CompileFault.TheVariants.{Memory}
use Rattle.fidl_compile.specs.declared.refusal.Refusal.{Refusal}

-- a stage, the number and the name of its fault, and the fault's place
pub record Report : Type 0 where
  pub stage : List ℕ
  pub number : ℕ
  pub name : List ℕ
  pub place : Place

-- what a refusal reports
abbrev pub reported : Refusal → Report
reported r = record { stage = r.stage.now; number = r.number; name = r.name.now; place = r.place }

-- the report of a stage's fault, where it has a place
abbrev pub report : (stage : List ℕ) (number : ℕ) (name : List ℕ) → Option Place → Option Report
report stage number name found = option_map
    (λ place. record { stage = stage; number = number; name = name; place = place }) found

-- the place of a span in the source of this number
abbrev pub placed : ℕ → Option Span → Option Place
placed file found = option_map (λ span. record { file = file; span = span }) found

-- what is reported of a fault; nothing where memory ran out
abbrev pub report_of : CompileFault → Option Report
report_of (Lex file fault) = report (codes "lex") (lex.number_of fault) (lex.name_of fault)
    (placed file (lex.span_of fault))
report_of (Parse file fault) = report (codes "parse") (parse.number_of fault) (parse.name_of fault)
    (placed file (parse.span_of fault))
report_of (Names fault) = report (codes "names") (names.number_of fault) (names.name_of fault)
    (names.place_of fault)
report_of (Const fault) = report (codes "const") (const.number_of fault) (const.name_of fault)
    (const.place_of fault)
report_of (Types fault) = report (codes "types") (types.number_of fault) (types.name_of fault)
    (types.place_of fault)
report_of (Layout fault) = report (codes "layout") (layout.number_of fault) (layout.name_of fault)
    (layout.place_of fault)
report_of (Protocol fault) = report (codes "protocol") (protocol.number_of fault)
    (protocol.name_of fault) (protocol.place_of fault)
report_of Memory = None
