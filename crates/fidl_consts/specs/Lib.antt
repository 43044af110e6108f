-- The definitions of constants' values, in the order in which to read them:
--   Literals     the values of the words of literals
--   PlainValues  values, and which of them fit a type
--   Types        the types of constants, and of the members of bits and enums
--   Values       the values of expressions, and of what names mean
--   Dependencies what depends on what, and so what a cycle is
--   Refusals     what is refused as a value, and where
--   Strings      how long the strings of a type may be
--   Constraints  the values that the constraints of types owe
--   Places       the places of a source that owe values
--   Evaluated    when files evaluate
--   Faults       the numbers, names and places of refusals
-- The others are of the code alone: Tables of values by the numbers of declarations and members;
-- Scopes of the files in which values are read; InSet of what such a file needs.
pub mod Literals
pub mod PlainValues
pub mod Types
pub mod Values
pub mod Dependencies
pub mod Refusals
pub mod Strings
pub mod Constraints
pub mod Places
pub mod Evaluated
pub mod Faults
pub mod Tables
pub mod Scopes
pub mod InSet
