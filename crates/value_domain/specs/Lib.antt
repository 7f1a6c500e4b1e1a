pub mod Cells
pub mod Extends
pub mod Meaning
