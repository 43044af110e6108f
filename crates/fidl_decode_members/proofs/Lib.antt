-- What the proofs of more than one function use.
pub mod Front
