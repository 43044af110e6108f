-- The definitions of dumps, in the order in which to read them:
--   Methods    which method an ordinal names, and what its messages carry
--   Lines      the lines of frames
--   Faults     why a frame has no line
--   Printed    what a dump has written
--   Samples    the tables and frames of the worked facts
pub mod Methods
pub mod Lines
pub mod Faults
pub mod Printed
pub mod Samples
