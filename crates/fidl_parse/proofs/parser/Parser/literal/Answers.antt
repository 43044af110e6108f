use Rattle.std.proofs.Common.{refl}
use Rattle.std.proofs.lemmas.Bool.{false≢true}
use Rattle.fidl_parse.proofs.Values.{literal_ahead, string_ahead, number_ahead, number_reads}
use Rattle.fidl_parse.proofs.Stops.{stops}
use Rattle.fidl_parse.proofs.parser.Parser.literal.Goals as goal

pub returns-in_err-symbol-clause-complete : goal.returns-in_err-symbol-clause-complete
returns-in_err-symbol-clause-complete c i j x rest m a =
    let l = literal_ahead _ _ x rest i j a in
    let y = string_ahead _ _ rest (c.is_next.ensures.next.0 c.if-is_next.true) l in
    let h = c.in_err-symbol.ensures.complete y.0 _ tt y.1 in
    stops _ _ _ _ c.from_residual.ensures (λ x g. g) h

pub returns-then-is_next-clause-complete : goal.returns-then-is_next-clause-complete
returns-then-is_next-clause-complete c i j x rest m a =
    let l = literal_ahead _ _ x rest i j a in
    let y = string_ahead _ _ rest (c.is_next.ensures.next.0 c.if-is_next.true) l in
    c.in_ok-symbol.ensures.complete y.0 _ tt y.1

pub returns-in_err-minus-clause-complete : goal.returns-in_err-minus-clause-complete
returns-in_err-minus-clause-complete c i j x rest m a =
    let l = literal_ahead _ _ x rest i j a in
    let y = number_ahead _ _ rest (λ e. false≢true (c.if-is_next.ensures.next.1 e)) l in
    let h = c.in_err-minus.ensures.complete y.0 _ refl y.2 in
    stops _ _ _ _ c.from_residual-in_err-minus.ensures (λ x g. g) h

pub returns-in_err-number-clause-complete : goal.returns-in_err-number-clause-complete
returns-in_err-number-clause-complete c i j x rest m a =
    let l = literal_ahead _ _ x rest i j a in
    let y = number_ahead _ _ rest (λ e. false≢true (c.if-is_next.ensures.next.1 e)) l in
    let b = c.in_ok-minus.ensures.complete y.0 _ refl y.2 in
    let h = c.in_err-number.ensures.complete y.1 _ tt b in
    stops _ _ _ _ c.from_residual-in_err-number.ensures (λ x g. g) h

pub returns-clause-complete : goal.returns-clause-complete
returns-clause-complete c i j x rest m a =
    let l = literal_ahead _ _ x rest i j a in
    let y = number_ahead _ _ rest (λ e. false≢true (c.if-is_next.ensures.next.1 e)) l in
    let b = c.in_ok-minus.ensures.complete y.0 _ refl y.2 in
    c.in_ok-number.ensures.complete y.1 _ tt b

pub returns-clause-reads : goal.returns-clause-reads
returns-clause-reads c =
    number_reads _ _ _ _ c.in_ok-minus.minus c.in_ok-number.number c.in_ok-minus.ensures.reads c.in_ok-number.ensures.reads
