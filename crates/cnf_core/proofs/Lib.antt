pub mod Literals
pub mod Soundness
