-- The definitions of the reader, in the order in which to read them:
--   Pieces         what pieces of a text between quotes stand for
--   Faults         numbers, names and places of faults
--   Cuts           words that are cut off the front of a text
--   Signs          numbers by their signs and magnitudes
--   Keys           what comes before a member of a table or union
--   Found          rows that are found by their names
--   Written        the written texts of values
--   Reads          what is read at the front of some words
pub mod Pieces
pub mod Faults
pub mod Cuts
pub mod Signs
pub mod Reads
pub mod Keys
pub mod Found
pub mod Written
