pub mod File
pub mod FileLaws
