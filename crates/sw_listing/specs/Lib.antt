pub mod Asking
pub mod Entries
pub mod Listing
pub mod Queries
pub mod Showing
pub mod Walking
