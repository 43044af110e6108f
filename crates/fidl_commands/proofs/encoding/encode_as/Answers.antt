use Rattle.std.proofs.Common.{refl, ap, subst, inl, inr}
use Rattle.std.specs.Prelude.{Err, string_bytes}
use Rattle.fidl_commands.specs.declared.outcome.Outcome.{Outcome}
use Rattle.fidl_commands.specs.declared.outcome.Outcome.TheVariants as outcome
use Rattle.fidl_commands.specs.Decoding.{CanEndDecodeAs}
use Rattle.fidl_commands.specs.Encoding.{CanEndEncoding, by_root, by_text}
use Rattle.fidl_text.proofs.Written.{appends_as, front_as}
use Rattle.fidl_commands.proofs.Told.{errors_alone}
use Rattle.fidl_commands.proofs.encoding.encode_as.Goals as goal

-- what ends where a text gives no message can end the encoding
encoding_ends : (r : Outcome) → CanEndEncoding r → CanEndDecodeAs r
encoding_ends outcome.Done e = absurd e
encoding_ends outcome.Asked e = absurd e
encoding_ends outcome.Refused e = tt
encoding_ends outcome.WrongLine e = absurd e
encoding_ends outcome.NoRoot e = absurd e
encoding_ends outcome.NoProtocol e = absurd e
encoding_ends outcome.NoFault e = absurd e
encoding_ends outcome.WrongText e = absurd e
encoding_ends outcome.NoFile e = absurd e
encoding_ends outcome.Unread e = absurd e
encoding_ends outcome.Unwritten e = tt
encoding_ends outcome.NoMemory e = tt

pub returns-in-Err-clause-ends : goal.returns-in-Err-clause-ends
returns-in-Err-clause-ends g c = encoding_ends c.in-Err.ended c.in-Err.ensures.ends

pub returns-in-Err-clause-done : goal.returns-in-Err-clause-done
returns-in-Err-clause-done g c q = absurd (subst CanEndEncoding q c.in-Err.ensures.ends)

pub returns-in-Err-clause-refused : goal.returns-in-Err-clause-refused
returns-in-Err-clause-refused g c q =
    let told = c.in-Err.ensures.refused (ap (λ o. Err o) q) in
    (told.0, by_text c.args.entry told.0 c.requires.root told.1, told.2)

pub returns-in-Err-clause-memory_line : goal.returns-in-Err-clause-memory_line
returns-in-Err-clause-memory_line g c q = c.in-Err.ensures.memory_line (ap (λ o. Err o) q)

pub returns-in-Err-clause-unwritten : goal.returns-in-Err-clause-unwritten
returns-in-Err-clause-unwritten g c o e = errors_alone c.in-Err.ended _ _ o (c.in-Err.ensures.unwritten e)

pub returns-in-Err-clause-front : goal.returns-in-Err-clause-front
returns-in-Err-clause-front g c q = inl refl

pub returns-in-Err-clause-out : goal.returns-in-Err-clause-out
returns-in-Err-clause-out g c a b = refl

pub returns-in-Err-clause-errors : goal.returns-in-Err-clause-errors
returns-in-Err-clause-errors g c q = absurd (subst CanEndEncoding q c.in-Err.ensures.ends)

pub returns-in-Ok-write_text-clause-done : goal.returns-in-Ok-write_text-clause-done
returns-in-Ok-write_text-clause-done g c q =
    let line = string_bytes c.in-Ok.printed in
    (line, by_root c.args.entry line c.requires.root c.in-Ok.ensures.ok, appends_as (g.W.Write.contents c.args.out.now.writer) (g.W.Write.contents c.write_text.new.out.writer) _ line c.as_str.ensures.value c.in-Ok-write_text.ensures.text)

pub returns-clause-front : goal.returns-clause-front
returns-clause-front g c q =
    let line = string_bytes c.in-Ok.printed in
    inr (line, by_root c.args.entry line c.requires.root c.in-Ok.ensures.ok, front_as (g.W.Write.contents c.args.out.now.writer) (g.W.Write.contents c.write_text.new.out.writer) _ line c.as_str.ensures.value c.in-Err-write_text.ensures.text)
