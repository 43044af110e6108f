pub mod DeclaredNames
pub mod Items
