pub mod TenDigits
pub mod Queue
pub mod Dues
pub mod Laws
