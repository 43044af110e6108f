use Rattle.std.proofs.Common.{ℕ, List, refl, ap, subst, ◌∙◌, inl}
use Rattle.std.specs.Prelude.{Err, Option}
use Rattle.std.specs.Io.KnownBytes.{Appends}
use Rattle.fidl_commands.specs.declared.outcome.Outcome.TheVariants as outcome
use Rattle.fidl_commands.specs.Decoding.{IsTextOf, IsRefusalOf, CanEndDecode, CanEndDecodeAs, no_memory_line}
use Rattle.fidl_commands.specs.Listing.{CanEndVerified}
use Rattle.fidl_commands.specs.Outputs.{AppendsOne, AppendsFrontOfOne}
use Rattle.fidl_commands.proofs.Told.{verified_ends, decoded_ends, root_of, no_root_of, table_refused, told_failed, told_never, told_either, errors_alone}
use Rattle.fidl_commands.proofs.decoding.decode.Goals as goal

pub returns-in-Err-clause-ends : goal.returns-in-Err-clause-ends
returns-in-Err-clause-ends g c = verified_ends c.in-Err.ended c.in-Err.ensures.ends

pub returns-in-Err-clause-done : goal.returns-in-Err-clause-done
returns-in-Err-clause-done g c q = absurd (subst CanEndVerified q c.in-Err.ensures.ends)

pub returns-in-Err-clause-no_root : goal.returns-in-Err-clause-no_root
returns-in-Err-clause-no_root g c q = absurd (subst CanEndVerified q c.in-Err.ensures.ends)

pub returns-in-Err-clause-no_root_line : goal.returns-in-Err-clause-no_root_line
returns-in-Err-clause-no_root_line g c q = absurd (subst CanEndVerified q c.in-Err.ensures.ends)

pub returns-in-Err-clause-memory : goal.returns-in-Err-clause-memory
returns-in-Err-clause-memory g c q = absurd (subst CanEndVerified q c.in-Err.ensures.ends)

pub returns-in-Err-clause-memory_line : goal.returns-in-Err-clause-memory_line
returns-in-Err-clause-memory_line g c q = absurd (subst CanEndVerified q c.in-Err.ensures.ends)

pub returns-in-Err-clause-errors : goal.returns-in-Err-clause-errors
returns-in-Err-clause-errors g c q = absurd (subst CanEndVerified q c.in-Err.ensures.ends)

pub returns-in-Err-clause-unwritten : goal.returns-in-Err-clause-unwritten
returns-in-Err-clause-unwritten g c o e = errors_alone c.in-Err.ended _ _ o (c.in-Err.ensures.unwritten e)

pub returns-in-Err-clause-front : goal.returns-in-Err-clause-front
returns-in-Err-clause-front g c q = inl refl

pub returns-in-Err-clause-out : goal.returns-in-Err-clause-out
returns-in-Err-clause-out g c a b = refl

pub returns-in-Err-clause-refused : goal.returns-in-Err-clause-refused
returns-in-Err-clause-refused g c q =
    let message = c.args.message in
    let told = c.in-Err.ensures.refused (ap (λ o. Err o) q) in
    (told.0, table_refused c.args.file.now.bytes.now message.root.now message.bytes.now message.handles.now told.0 told.1, told.2)

pub returns-in-Some-clause-memory : goal.returns-in-Some-clause-memory
returns-in-Some-clause-memory g c q =
    (c.in-Some.entry, root_of c.args.file.now.bytes.now c.in-Ok.table c.args.message.root.now c.as_bytes.result.now c.in-Some.entry c.in-Ok.ensures.value c.as_bytes.ensures.value c.in-Ok.ensures.well_formed c.in-Some.ensures.found)

pub returns-in-Some-clause-unwritten : goal.returns-in-Some-clause-unwritten
returns-in-Some-clause-unwritten g c o e = c.decode_as.ensures.unwritten o (ap (λ x. x.failure) c.in-Ok.ensures.kept ∙ e)

pub returns-in-Some-clause-front : goal.returns-in-Some-clause-front
returns-in-Some-clause-front g c q =
    subst (λ (b : List ℕ). AppendsFrontOfOne (IsTextOf b c.args.message) (g.W.Write.contents c.args.out.now.writer) (g.W.Write.contents c.decode_as.new.out.writer)) c.in-Ok.ensures.value (c.decode_as.ensures.front q)

pub returns-in-Some-clause-ends : goal.returns-in-Some-clause-ends
returns-in-Some-clause-ends g c = decoded_ends c.decode_as.result c.decode_as.ensures.ends

pub returns-in-Some-clause-done : goal.returns-in-Some-clause-done
returns-in-Some-clause-done g c q =
    subst (λ (b : List ℕ). AppendsOne (IsTextOf b c.args.message) (g.W.Write.contents c.args.out.now.writer) (g.W.Write.contents c.decode_as.new.out.writer)) c.in-Ok.ensures.value (c.decode_as.ensures.done q)

pub returns-in-Some-clause-refused : goal.returns-in-Some-clause-refused
returns-in-Some-clause-refused g c q =
    let quiet = ap (λ x. g.E.Write.contents x.writer) c.in-Ok.ensures.kept in
    let after = g.E.Write.contents c.decode_as.new.errors.writer in
    let told = subst (λ (b : List ℕ). AppendsOne (IsRefusalOf b c.args.message) (g.E.Write.contents c.verified.new.errors.writer) after) c.in-Ok.ensures.value (c.decode_as.ensures.refused q) in
    subst (λ (old : Option (List ℕ)). AppendsOne (IsRefusalOf c.args.file.now.bytes.now c.args.message) old after) quiet told

pub returns-in-Some-clause-no_root : goal.returns-in-Some-clause-no_root
returns-in-Some-clause-no_root g c q = absurd (subst CanEndDecodeAs q c.decode_as.ensures.ends)

pub returns-in-Some-clause-no_root_line : goal.returns-in-Some-clause-no_root_line
returns-in-Some-clause-no_root_line g c q = absurd (subst CanEndDecodeAs q c.decode_as.ensures.ends)

pub returns-in-Some-clause-memory_line : goal.returns-in-Some-clause-memory_line
returns-in-Some-clause-memory_line g c q =
    let quiet = ap (λ x. g.E.Write.contents x.writer) c.in-Ok.ensures.kept in
    subst (λ (old : Option (List ℕ)). Appends old (g.E.Write.contents c.decode_as.new.errors.writer) no_memory_line) quiet (c.decode_as.ensures.memory_line q)

pub returns-in-Some-clause-out : goal.returns-in-Some-clause-out
returns-in-Some-clause-out g c a b = c.decode_as.ensures.out a b

pub returns-in-Some-clause-errors : goal.returns-in-Some-clause-errors
returns-in-Some-clause-errors g c q = c.decode_as.ensures.errors q ∙ ap (λ x. g.E.Write.contents x.writer) c.in-Ok.ensures.kept

pub returns-in-None-clause-ends : goal.returns-in-None-clause-ends
returns-in-None-clause-ends g c = told_either c.write_unnamed-written.result outcome.NoRoot c.where_written.result CanEndDecode c.where_written.ensures tt tt

pub returns-in-None-clause-done : goal.returns-in-None-clause-done
returns-in-None-clause-done g c q = told_never c.write_unnamed-written.result outcome.NoRoot outcome.Done c.where_written.result c.where_written.ensures q (λ n. cc) (λ n. cc)

pub returns-in-None-clause-refused : goal.returns-in-None-clause-refused
returns-in-None-clause-refused g c q = told_never c.write_unnamed-written.result outcome.NoRoot outcome.Refused c.where_written.result c.where_written.ensures q (λ n. cc) (λ n. cc)

pub returns-in-None-clause-memory : goal.returns-in-None-clause-memory
returns-in-None-clause-memory g c q = told_never c.write_unnamed-written.result outcome.NoRoot outcome.NoMemory c.where_written.result c.where_written.ensures q (λ n. cc) (λ n. cc)

pub returns-in-None-clause-memory_line : goal.returns-in-None-clause-memory_line
returns-in-None-clause-memory_line g c q = told_never c.write_unnamed-written.result outcome.NoRoot outcome.NoMemory c.where_written.result c.where_written.ensures q (λ n. cc) (λ n. cc)

pub returns-in-None-clause-errors : goal.returns-in-None-clause-errors
returns-in-None-clause-errors g c q = told_never c.write_unnamed-written.result outcome.NoRoot outcome.Done c.where_written.result c.where_written.ensures q (λ n. cc) (λ n. cc)

pub returns-in-None-clause-front : goal.returns-in-None-clause-front
returns-in-None-clause-front g c q = inl refl

pub returns-in-None-clause-out : goal.returns-in-None-clause-out
returns-in-None-clause-out g c a b = refl

pub returns-in-None-clause-no_root : goal.returns-in-None-clause-no_root
returns-in-None-clause-no_root g c q =
    no_root_of c.args.file.now.bytes.now c.in-Ok.table c.args.message.root.now c.as_bytes.result.now c.in-Ok.ensures.value c.as_bytes.ensures.value c.in-Ok.ensures.well_formed c.in-None.ensures.none

pub returns-in-None-clause-unwritten : goal.returns-in-None-clause-unwritten
returns-in-None-clause-unwritten g c o e =
    let written = c.write_unnamed-written.ensures in
    told_failed c.write_unnamed-written.result outcome.NoRoot c.where_written.result _ _ _ c.where_written.ensures (λ n. cc) written.kept written.failed o (ap (λ x. x.failure) c.in-Ok.ensures.kept ∙ e)
