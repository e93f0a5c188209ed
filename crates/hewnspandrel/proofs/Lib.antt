-- What the crate's proofs cite.
pub mod PlaceLaws
