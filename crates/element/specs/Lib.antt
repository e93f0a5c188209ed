pub mod Kinds
pub mod Examples
pub mod KindLaws
pub mod Numbers
pub mod Fates
pub mod FloatLaws
pub mod NumberLaws
