pub mod Looking
pub mod Refusals
pub mod Replicas
pub mod Showing
