pub mod ReadableLaws
