-- The definitions of what parsing answers, in the order in which to read them:
--   Trees          which words have a tree, and when a file is their tree
--   Faults         what each refusal says of the words
--   Nesting        where too many brackets are open
--   FaultNames     the numbers, names and spans of refusals
-- The others are of the parser's own functions: what each reads (Reading), that it misses no part
-- that stands ahead (Completeness), what may follow a part (FollowSets), what is left of a part
-- whose front is read already (Suffixes), and the words that a choice excludes (Choices).
pub mod Completeness
pub mod Suffixes
pub mod Choices
pub mod FaultNames
pub mod Faults
pub mod FollowSets
pub mod Nesting
pub mod Reading
pub mod Trees
