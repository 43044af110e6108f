-- The definitions of types where they are used, in the order in which to read them:
--   Words    the predeclared names by which types are given, with their arguments
--   Made     what a type is made of
--   Places   what the place of a type asks of it
--   Uses     when written types are proper, and what each refusal says
-- The others are of the code alone (Standing, Known).
pub mod Words
pub mod Made
pub mod Places
pub mod Uses
pub mod Standing
pub mod Known
