-- The definitions of scripts, in the order in which to read them:
--   Lines      the lines of a text that say something
--   Phrases    what the words of a line are
--   Script     what a service holds of a script
--   Text       which texts are scripts, and what they hold
--   Faults     numbers, names and lines of faults, and what each says of a text
--   Held       what the structs of the code stand for
--   Named      methods that are found by their names
--   Collected  the replies that are read so far
--   Samples    the method records of the worked facts
pub mod Lines
pub mod Phrases
pub mod Script
pub mod Text
pub mod Faults
pub mod Held
pub mod Named
pub mod Collected
pub mod Samples
