pub mod Orders
pub mod Trails
