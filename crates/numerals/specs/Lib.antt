pub mod Numeral
pub mod Laws
pub mod Overwrite
