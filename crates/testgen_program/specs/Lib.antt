pub mod Answer
pub mod History
pub mod Made
pub mod Streams
pub mod Taken
