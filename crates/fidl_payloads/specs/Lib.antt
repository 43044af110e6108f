-- The definitions of payloads, in the order in which to read them:
--   Kinds     which types may be payloads
--   Results   the numbers of the unions in which methods answer
--   Payloads  what the messages of a member of a protocol carry
--   Members   when the types written as payloads may be payloads, and what a refusal says
pub mod Kinds
pub mod Results
pub mod Payloads
pub mod Members
