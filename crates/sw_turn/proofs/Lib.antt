pub mod Totals
pub mod Views
pub mod Growing
pub mod Stepping
pub mod Parting
pub mod Ends
