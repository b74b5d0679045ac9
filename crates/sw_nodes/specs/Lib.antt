pub mod Exchanging
pub mod Nodes
pub mod Restarts
pub mod Server
