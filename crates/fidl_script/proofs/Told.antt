-- What the lines of a text say of the text.
use Rattle.std.proofs.Common.{◌≡◌, ◌<◌, ℕ, List, [], ◌∷◌, length, inr, sym, ap, subst, ◌∙◌, arith}
use Rattle.fidl_table_format.specs.Section.{header_of}
use Rattle.fidl_table_format.specs.Protocol.{IsFirstProtocol}
use Rattle.fidl_table_format.specs.WellFormed.{WellFormed}
use Rattle.fidl_verify.specs.Lookups.{TableProtocol, IsProtocolOfTable}
use Rattle.fidl_script.specs.declared.fault.ScriptFault.{ScriptFault}
use Rattle.fidl_script.specs.declared.fault.ScriptFault.TheVariants.{Syntax, UnknownProtocol, UnknownMethod, Missing, BadValue, Memory}
use Rattle.fidl_script.specs.declared.lines.SaidLine.{SaidLine}
use Rattle.fidl_script.specs.Lines.{Line}
use Rattle.fidl_script.specs.Script.{Replies}
use Rattle.fidl_script.specs.Text.{Begins, IsScript}
use Rattle.fidl_script.specs.Faults.{IsLinesFault, IsToldOfLines, IsTold}
use Rattle.fidl_script.specs.Held.{line_view, lines_view}
use Rattle.fidl_script.specs.Collected.{AreGiven}

-- the lines that were cut, and the first of them
module _ (said : List Line) (items now : List SaidLine) (are : lines_view items ≡ said) (value : now ≡ items) where
  pub says_nothing : length now ≡ 0 → said ≡ []
  says_nothing none = sym are ∙ ap lines_view (sym value ∙ empty now none)
    where
      empty : (xs : List SaidLine) → length xs ≡ 0 → xs ≡ []
      empty [] e = λ i. []
      empty (x ∷ xs) e = absurd (omega (arith, e))

  pub says : (first : SaidLine) (rest : List SaidLine) → now ≡ first ∷ rest → said ≡ line_view first ∷ lines_view rest
  says first rest e = sym are ∙ ap lines_view (sym value ∙ e)

pub of_table : (p : TableProtocol) (table : List ℕ) → p.table ≡ table → WellFormed table → p.number < (header_of table).protocols → IsProtocolOfTable p
of_table p table e w within = record {
  well_formed = subst WellFormed (sym e) w;
  within = subst (λ (b : List ℕ). p.number < (header_of b).protocols) (sym e) within;
}

module _ (table text : List ℕ) (p : TableProtocol) (e : p.table ≡ table) (name : List ℕ) (rest : List Line) (begins : Begins text name rest) (named : IsFirstProtocol table (header_of table) name p.number) where
  of_lines : (f : ScriptFault) → IsLinesFault p rest f → IsToldOfLines table text f
  of_lines f h = record { protocol = p; of_table = e; name = name; rest = rest; begins = begins; named = named; is = h }

  pub told : (f : ScriptFault) → IsLinesFault p rest f → IsTold table text f
  told (Syntax n) h = inr (of_lines (Syntax n) h)
  told UnknownProtocol h = absurd h
  told (UnknownMethod n) h = of_lines (UnknownMethod n) h
  told Missing h = of_lines Missing h
  told (BadValue n) h = of_lines (BadValue n) h
  told Memory h = tt

  pub script_made : (methods : List Replies) → AreGiven p rest methods → IsScript p text (record { protocol = name; methods = methods })
  script_made methods h = record {
    rest = rest;
    begins = begins;
    replies = h.replies;
    are = h.are;
    held = h.held;
    of_table = record {
      named = subst (λ (b : List ℕ). IsFirstProtocol b (header_of b) name p.number) (sym e) named;
      sound = h.sound;
      complete = h.complete;
      rise = h.rise;
    };
  }
