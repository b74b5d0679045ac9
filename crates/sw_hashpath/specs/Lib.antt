pub mod BadFiles
pub mod BadNames
pub mod HashParts
pub mod Paths
pub mod Places
