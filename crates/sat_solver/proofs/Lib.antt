pub mod ListLemmas
pub mod DecidingLemmas
pub mod TrialLemmas
pub mod ReducingLemmas
pub mod HintsLemmas
pub mod ModelLemmas
pub mod SolvingLemmas
pub mod DeterminedLemmas
