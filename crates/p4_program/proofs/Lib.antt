mod EntryLemmas
mod NameLemmas
pub mod Pairs
pub mod Rows
pub mod Bodies
pub mod Numbers
pub mod Smallest
pub mod Zips
