pub mod MomentLaws
pub mod ReadingLemmas
pub mod RefusalLaws
