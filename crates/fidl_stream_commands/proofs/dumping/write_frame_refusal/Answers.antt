use Rattle.std.proofs.Common.{◌≡◌, ℕ, List, ap, sym, ◌∙◌, ◌++◌}
use Rattle.std.specs.Prelude.{Option, Some, codes, decimal, OnOk}
use Rattle.fidl_text.proofs.Written.{appends_then}
use Rattle.fidl_dump.specs.Faults.{stage_of, number_of, name_of, place_of}
use Rattle.fidl_commands.specs.Decoding.{refusal_line}
use Rattle.fidl_stream_commands.specs.Dumping.{fault_line_at}
use Rattle.fidl_stream_commands.proofs.Dumps.{line_behind}
use Rattle.fidl_stream_commands.proofs.dumping.write_frame_refusal.Goals as goal

pub returns-in-Some-clause-line : goal.returns-in-Some-clause-line
returns-in-Some-clause-line g c =
    let f = c.args.fault in
    let at = c.in-Some.at in
    let place : place_of f ≡ Some at = sym c.at.ensures ∙ c.in-Some.is in
    let same = ap (λ (s : List ℕ). refusal_line s c.number.result c.name.result.now at) c.stage.ensures
    ∙ ap (λ n. refusal_line (stage_of f) n c.name.result.now at) c.number.ensures
    ∙ ap (λ (l : List ℕ). refusal_line (stage_of f) (number_of f) l at) c.name.ensures
    ∙ ap (λ (p : Option ℕ). fault_line_at f p) (sym place) in
    line_behind _ _ _ (codes "frame " ++ decimal c.args.number ++ codes ": ") _ (fault_line_at f (place_of f)) c.write_refusal.result same c.in_ok-write.ensures.bytes c.write_refusal.ensures.line
