pub mod Determined
pub mod Literal
pub mod Truth
pub mod Propagation
