pub mod Expiry
pub mod Fields
pub mod Items
pub mod Laws
pub mod Metadata
