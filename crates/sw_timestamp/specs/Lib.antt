pub mod Laws
pub mod TimeText
