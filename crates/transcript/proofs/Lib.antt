pub mod Ticks
pub mod Courses
pub mod Engines
pub mod Replies
pub mod Progress
pub mod Choosing
