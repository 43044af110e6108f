-- What is noted of the members of a table:
--   Members  how their envelopes are passed over
pub mod Members
