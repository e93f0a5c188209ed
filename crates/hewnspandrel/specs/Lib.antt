pub mod Answers
pub mod SameAnswers
pub mod Real32
pub mod Real64
pub mod Complex32
pub mod Complex64
pub mod Complex32Laws
pub mod Complex64Laws
