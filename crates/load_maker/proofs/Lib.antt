pub mod WordsLemmas
pub mod SourceLemmas
