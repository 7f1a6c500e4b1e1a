pub mod Answers
pub mod Deciding
pub mod Reducing
pub mod Solving
