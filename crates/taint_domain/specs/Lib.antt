pub mod Flag
pub mod Masks
pub mod Meaning
pub mod Results
pub mod Tainted
