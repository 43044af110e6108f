-- A message in whose bytes links stand, in the order in which to read the definitions:
--   Bits, Words   bits of bytes, and the words of a message
--   Coding        what a word says of the word that came, and of the link in it
--   Marks         which words hold links
--   Links         a message as it came, and its links
--   Samples       the messages of the worked facts
pub mod Bits
pub mod Words
pub mod Coding
pub mod Marks
pub mod Links
pub mod Samples
