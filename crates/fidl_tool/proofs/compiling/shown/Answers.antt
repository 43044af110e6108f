use Rattle.std.proofs.Common.{◌≡◌, ℕ, List, Bool, true, false, sym, ap, subst, ◌∙◌}
use Rattle.std.specs.Prelude.{Result, Ok, Err, IfOk, None}
use Rattle.fidl_compile.specs.Reports.{reported}
use Rattle.fidl_hints.specs.Snippets.{snippet_text}
use Rattle.fidl_tool.specs.Compiling.{named_of, text_at, shown_text, IsShown, IsWanted}
use Rattle.fidl_tool.proofs.compiling.shown.Goals as goal

if_ok : {T E : Type 0} (P Q : T → Type 0) (r : Result T E) → ((x : T) → P x → Q x) → IfOk r P → IfOk r Q
if_ok P Q (Ok x) f h = f x h
if_ok P Q (Err e) f h = tt

pub returns-then-not-snippet : goal.returns-then-not-snippet
returns-then-not-snippet c =
    let files = named_of c.args.files.now in
    let report = reported c.args.refusal.now in
    (None, tt, c.new.ensures.items ∙ ap (λ (b : Bool). shown_text b files None report) (sym c.if-not-snippet.true))

pub returns : goal.returns
returns c =
    let files = named_of c.args.files.now in
    let report = reported c.args.refusal.now in
    let from = report.place.span.from in
    let wanted = c.in_ok-wanted.wanted in
    let known = subst (λ (src : List ℕ). IsWanted src report wanted) c.file_at.ensures.bytes c.in_ok-wanted.ensures in
    let note = c.as_str.ensures.value ∙ c.in_ok-note.ensures in
    let same = ap (λ (src : List ℕ). snippet_text src from c.as_str.result.now) c.file_at.ensures.bytes
    ∙ ap (λ (n : List ℕ). snippet_text (text_at files report.place.file) from n) note
    ∙ ap (λ (b : Bool). shown_text b files wanted report) (sym c.if-not-snippet.false) in
    if_ok _ _ c.snippet.result (λ text is. (wanted, known, is ∙ same)) c.snippet.ensures
