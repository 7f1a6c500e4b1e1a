pub mod AboutLemmas
pub mod AnswerLemmas
pub mod BitLemmas
pub mod BlankLemmas
pub mod ListLemmas
pub mod PointLemmas
pub mod TextLemmas
