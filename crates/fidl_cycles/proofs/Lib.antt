pub mod Lists
pub mod Trails
pub mod Edges
pub mod Firsts
pub mod Orders
