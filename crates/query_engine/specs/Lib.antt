pub mod Question
pub mod About
pub mod Logged
pub mod Blank
