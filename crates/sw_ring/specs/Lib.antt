pub mod BadRings
pub mod Faults
pub mod RingData
pub mod Rows
pub mod Shapes
pub mod Tables
pub mod Texts
