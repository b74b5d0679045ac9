pub mod FileNames
pub mod Laws
pub mod Picking
pub mod StateFiles
