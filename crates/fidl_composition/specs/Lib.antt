-- The definitions of compositions, in the order in which to read them:
--   Protocols     protocols, and their order in the sources
--   Compositions  what protocols are composed of, what files owe, and what each refusal says
--   Numbers       protocols by their numbers, and what they compose as a graph
-- The others are of the code alone: its tables (Tables), the points that it has reached (Points),
-- and how it holds what it found (Stored).
pub mod Protocols
pub mod Compositions
pub mod Numbers
pub mod Tables
pub mod Points
pub mod Stored
