mod Growing
pub mod OneControl
mod OnePush
mod OneSharding
mod Refusals
mod ToldDevices
pub mod ToldOutcomes
mod ToldShards
