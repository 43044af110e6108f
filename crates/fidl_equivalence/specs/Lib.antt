-- Types of two declarations that are alike (Alike), and declarations for worked facts (Samples).
pub mod Alike
pub mod Samples
