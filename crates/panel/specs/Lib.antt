pub mod File
pub mod Reader
pub mod Heads
pub mod HeadLaws
pub mod ReadLaws
pub mod OneOutcome
pub mod Examples
