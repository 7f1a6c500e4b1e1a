pub mod CheckedLaws
pub mod ExampleFaults
pub mod LeastLaws
pub mod DecidingLaws
pub mod RefusedLaws
pub mod ExampleProgramLaws
