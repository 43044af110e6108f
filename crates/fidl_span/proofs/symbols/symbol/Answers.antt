use Rattle.std.proofs.Common.{◌≡◌, [], ◌∷◌, nat_eq, drop, refl, sym, ap, ◌∙◌, arith}
use Rattle.std.specs.List.{starts_with}
use Rattle.std.proofs.lemmas.List.{take_rest}
use Rattle.fidl_span.proofs.KindLaws.{symbol_stands}
use Rattle.fidl_span.proofs.FaultLaws.{nothing_begins_at}
use Rattle.fidl_span.proofs.symbols.symbol.Goals as goal
use Rattle.fidl_span.proofs.symbols.symbol.Goals.{After-starts_with}

arrow : (c : After-starts_with) → c.starts_with.result ≡ starts_with nat_eq (drop c.args.at c.args.src.now) (45 ∷ 62 ∷ [])
arrow c = c.starts_with.ensures.value ∙ ap (λ l. starts_with nat_eq l (45 ∷ 62 ∷ [])) (take_rest c.args.src.now c.args.at)

pub returns-in-Some-clause-ok : goal.returns-in-Some-clause-ok
returns-in-Some-clause-ok c =
    let no_arrow = sym (arrow (goal.at.returns-in-Some-clause-ok c).After-starts_with) ∙ c.if-starts_with.false in (
      refl,
      record {
        span = record { ordered = omega arith; within = omega arith };
        reads = symbol_stands c.args.src.now c.args.at c.in-Some.kind c.requires.within no_arrow (sym c.symbol_of.ensures ∙ c.in-Some.is);
      },
    )

pub returns-in-None-clause-fault_is_true : goal.returns-in-None-clause-fault_is_true
returns-in-None-clause-fault_is_true c = (
  refl,
  record { ordered = omega arith; within = omega arith },
  record {
    one_byte = refl;
    begins_nothing = nothing_begins_at c.args.src.now c.args.at c.requires.within c.requires.no_gap c.requires.no_word_byte c.requires.no_quote (sym c.symbol_of.ensures ∙ c.in-None.is);
  },
)
