-- The laws that other crates' proofs cite, of the definitions in specs/.
pub mod BasedLaws
