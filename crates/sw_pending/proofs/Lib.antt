pub mod DeviceOrder
pub mod DeviceTexts
pub mod Exact
pub mod Marks
pub mod Naming
pub mod Pieces
pub mod RecordLines
pub mod SameRecords
