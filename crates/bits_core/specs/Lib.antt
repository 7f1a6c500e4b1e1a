pub mod BitList
pub mod Checksum
pub mod Circuit
pub mod Number
pub mod Operator
pub mod Place
