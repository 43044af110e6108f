-- The definitions of text, in the order in which to read them:
--   Outputs        what a write does to the bytes of a writer
--   Words          lines of words
--   Listing        the records of a table as text
--   Samples        a table of the worked facts
pub mod Outputs
pub mod Words
pub mod Listing
pub mod Samples
