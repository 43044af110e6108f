-- The definitions of cycles: Cycles has ways along edges, first edges of cycles, and orders.
pub mod Cycles
