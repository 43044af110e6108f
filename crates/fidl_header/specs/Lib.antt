-- The definitions of headers, in the order in which to read them:
--   Header   which bytes begin with a header, what it says, and how it is written
--   Faults   what each refusal says of the bytes
pub mod Header
pub mod Faults
