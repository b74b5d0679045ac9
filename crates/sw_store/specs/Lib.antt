pub mod Connections
pub mod Folders
pub mod LayoutOf
pub mod Layouts
