pub mod Calling
pub mod ContDirs
pub mod LoadedList
pub mod Loading
pub mod Stepping
