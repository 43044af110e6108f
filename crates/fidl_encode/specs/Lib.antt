-- The definitions of the encoder, in the order in which to read them:
--   Faults         the numbers and names of the refusals
--   Writing        what is written so far, and which encoding is added
--   Broken         where a value breaks a rule of its type that a refusal names
--   Parts          what is to be written, and how its writing ends
--   Told           what each refusal says of a value
pub mod Faults
pub mod Writing
pub mod Broken
pub mod Parts
pub mod Told
