pub mod Replayed
pub mod ReplayLaws
pub mod SameReplay
