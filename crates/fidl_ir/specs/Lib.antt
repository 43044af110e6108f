-- What the code's types and definitions stand for: terms of fidl_wire.
pub mod Terms
pub mod Members
pub mod Examples
