-- The definitions of forms, in the order in which to read them:
--   Members      the members of structs, tables and unions
--   Values       the numbers of bits and enums
--   Results      the unions in which methods answer
--   Definitions  the definitions of forms
pub mod Members
pub mod Values
pub mod Results
pub mod Definitions
