pub mod Books
pub mod Doors
pub mod Laws
pub mod Turning
