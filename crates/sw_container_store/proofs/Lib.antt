mod Running
mod Paging
mod Naming
mod Syncing
mod Ranging
mod Pointing
mod Columns
