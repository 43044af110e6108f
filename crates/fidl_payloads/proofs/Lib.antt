pub mod Defined
pub mod Excluded
pub mod Finding
pub mod Payable
pub mod Owed
pub mod One
pub mod Small
pub mod Stands
