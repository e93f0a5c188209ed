pub mod Floats
pub mod SameDifference
pub mod NanLaws
