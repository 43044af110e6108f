-- What the verifier answers stands in fidl_table_format (WellFormed). Here are what each refusal says of
-- a table (Faults), what look-ups of protocols and methods give (Lookups), and what the code's own
-- measures represent (Measured).
pub mod Faults
pub mod Measured
pub mod Lookups
pub mod Runs
