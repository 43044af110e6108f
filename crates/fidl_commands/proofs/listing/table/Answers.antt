use Rattle.std.proofs.Common.{ap, refl, subst, sym, inl, inr}
use Rattle.std.specs.Prelude.{Err}
use Rattle.fidl_text.proofs.Written.{appends_as, front_as}
use Rattle.fidl_commands.specs.declared.outcome.Outcome.{Outcome}
use Rattle.fidl_commands.specs.declared.outcome.Outcome.TheVariants as outcome
use Rattle.fidl_commands.specs.Listing.{listing, listed, CanEndVerified, CanEndTable}
use Rattle.fidl_commands.proofs.Told.{told_never, only_unwritten, errors_alone}
use Rattle.fidl_commands.proofs.listing.table.Goals as goal

-- what ends the reading of a table can end `table`
table_ends : (r : Outcome) → CanEndVerified r → CanEndTable r
table_ends outcome.Done e = absurd e
table_ends outcome.Asked e = absurd e
table_ends outcome.Refused e = tt
table_ends outcome.WrongLine e = absurd e
table_ends outcome.NoRoot e = absurd e
table_ends outcome.NoProtocol e = absurd e
table_ends outcome.NoFault e = absurd e
table_ends outcome.WrongText e = absurd e
table_ends outcome.NoFile e = absurd e
table_ends outcome.Unread e = absurd e
table_ends outcome.Unwritten e = tt
table_ends outcome.NoMemory e = absurd e

pub returns-in-Err-clause-ends : goal.returns-in-Err-clause-ends
returns-in-Err-clause-ends g c = table_ends c.in-Err.ended c.in-Err.ensures.ends

pub returns-in-Err-clause-done : goal.returns-in-Err-clause-done
returns-in-Err-clause-done g c q = absurd (subst CanEndVerified q c.in-Err.ensures.ends)

pub returns-in-Err-clause-errors : goal.returns-in-Err-clause-errors
returns-in-Err-clause-errors g c q = absurd (subst CanEndVerified q c.in-Err.ensures.ends)

pub returns-in-Err-clause-unwritten : goal.returns-in-Err-clause-unwritten
returns-in-Err-clause-unwritten g c o e = errors_alone c.in-Err.ended _ _ o (c.in-Err.ensures.unwritten e)

pub returns-in-Err-clause-front : goal.returns-in-Err-clause-front
returns-in-Err-clause-front g c q = inl refl

pub returns-in-Err-clause-out : goal.returns-in-Err-clause-out
returns-in-Err-clause-out g c a b = refl

pub returns-in-Ok-write_listing-clause-ends : goal.returns-in-Ok-write_listing-clause-ends
returns-in-Ok-write_listing-clause-ends g c = tt

pub returns-in-Ok-write_listing-clause-refused : goal.returns-in-Ok-write_listing-clause-refused
returns-in-Ok-write_listing-clause-refused g c q = cc

pub returns-in-Ok-write_listing-clause-front : goal.returns-in-Ok-write_listing-clause-front
returns-in-Ok-write_listing-clause-front g c q = cc

pub returns-in-Ok-write_listing-clause-out : goal.returns-in-Ok-write_listing-clause-out
returns-in-Ok-write_listing-clause-out g c a b = absurd (a refl)

pub returns-in-Ok-write_listing-clause-errors : goal.returns-in-Ok-write_listing-clause-errors
returns-in-Ok-write_listing-clause-errors g c q = ap (λ x. g.E.Write.contents x.writer) c.in-Ok.ensures.kept

pub returns-in-Err-write_listing-clause-ends : goal.returns-in-Err-write_listing-clause-ends
returns-in-Err-write_listing-clause-ends g c = subst CanEndTable (sym (only_unwritten c.write_no_output.result c.where_written.result c.where_written.ensures)) tt

pub returns-in-Err-write_listing-clause-done : goal.returns-in-Err-write_listing-clause-done
returns-in-Err-write_listing-clause-done g c q = told_never c.write_no_output.result outcome.Unwritten outcome.Done c.where_written.result c.where_written.ensures q (λ e. cc) (λ e. cc)

pub returns-in-Err-write_listing-clause-refused : goal.returns-in-Err-write_listing-clause-refused
returns-in-Err-write_listing-clause-refused g c q = told_never c.write_no_output.result outcome.Unwritten outcome.Refused c.where_written.result c.where_written.ensures q (λ e. cc) (λ e. cc)

pub returns-in-Err-write_listing-clause-unwritten : goal.returns-in-Err-write_listing-clause-unwritten
returns-in-Err-write_listing-clause-unwritten g c o e = (λ q. inl c.in-Err-write_listing.ensures.failed, λ f. only_unwritten c.write_no_output.result c.where_written.result c.where_written.ensures)

pub returns-in-Err-clause-refused : goal.returns-in-Err-clause-refused
returns-in-Err-clause-refused g c q = c.in-Err.ensures.refused (ap (λ o. Err o) q)

pub returns-in-Ok-write_listing-clause-done : goal.returns-in-Ok-write_listing-clause-done
returns-in-Ok-write_listing-clause-done g c q =
    let file = c.args.file.now.bytes.now in
    (listed c.args.listing file, listing c.in-Ok.ensures.well_formed, appends_as _ _ _ (listed c.args.listing file) (ap (listed c.args.listing) c.in-Ok.ensures.value) c.in-Ok-write_listing.ensures.text)

pub returns-in-Err-write_listing-clause-front : goal.returns-in-Err-write_listing-clause-front
returns-in-Err-write_listing-clause-front g c q =
    let file = c.args.file.now.bytes.now in
    inr (listed c.args.listing file, listing c.in-Ok.ensures.well_formed, front_as _ _ _ (listed c.args.listing file) (ap (listed c.args.listing) c.in-Ok.ensures.value) c.in-Err-write_listing.ensures.text)

pub returns-in-Err-write_listing-clause-out : goal.returns-in-Err-write_listing-clause-out
returns-in-Err-write_listing-clause-out g c a b = absurd (b (only_unwritten c.write_no_output.result c.where_written.result c.where_written.ensures))

pub returns-in-Err-write_listing-clause-errors : goal.returns-in-Err-write_listing-clause-errors
returns-in-Err-write_listing-clause-errors g c q = told_never c.write_no_output.result outcome.Unwritten outcome.Done c.where_written.result c.where_written.ensures q (λ e. cc) (λ e. cc)
