pub mod Powers
pub mod Listed
pub mod Modulo
pub mod Parts
pub mod Firsts
