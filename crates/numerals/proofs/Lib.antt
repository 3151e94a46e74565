pub mod Digits
pub mod Overwriting
pub mod Inverse
