pub mod Sides
pub mod Messages
pub mod Machine
pub mod Laws
pub mod Entering
pub mod Doors
pub mod Honest
