-- The laws that other crates' proofs cite, of the definitions in specs/.
pub mod DepthLaws
pub mod CuttingTheorem
pub mod GridLaws
