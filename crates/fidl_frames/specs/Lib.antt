-- The definitions of frames, in the order in which to read them:
--   Frames     how an input is cut into frames
--   Incoming   what a read of a frame has given
--   Filling    how a filling of a buffer stops
pub mod Filling
pub mod Frames
pub mod Incoming
