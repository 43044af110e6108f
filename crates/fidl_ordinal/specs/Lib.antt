-- The definition of ordinals.
pub mod Ordinal
