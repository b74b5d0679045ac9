pub mod Between
pub mod Sent
pub mod Silent
