pub mod Lists
pub mod Views
pub mod Table
pub mod Told
pub mod History
pub mod Comes
pub mod Theorems
pub mod Shown
