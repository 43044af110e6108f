-- The values of constants, and when files evaluate, are defined in fidl_consts. Here is, in the
-- order in which to read it:
--   Evaluating   what a refusal says of files
-- The others are of the code alone: Columns of the numbers of declarations and members, and of how
-- columns by these numbers are filled; PlaceScopes of the files whose places are checked.
pub mod Evaluating
pub mod Columns
pub mod PlaceScopes
