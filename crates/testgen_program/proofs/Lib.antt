pub mod HistoryLemmas
pub mod TakenLemmas
