pub mod PieceLaws
pub mod OneOutcome
pub mod Demand3
pub mod Alone
pub mod EndLaws
