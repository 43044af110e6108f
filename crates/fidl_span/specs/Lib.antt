-- The definitions of the words of a source, in the order in which to read them:
--   Bytes          the classes of bytes
--   Gaps           blanks and comments, which stand between words
--   Names          identifiers and number words
--   Strings        string literals
--   Symbols        words of one byte
--   Words          which words a source has
--   Faults         what each refusal says of the source
--   FaultNames     the numbers, names and spans of refusals
--   Lines          lines and columns
pub mod Bytes
pub mod FaultNames
pub mod Faults
pub mod Gaps
pub mod Lines
pub mod Names
pub mod Strings
pub mod Symbols
pub mod Words
