mod Accepting
pub mod Utf8
