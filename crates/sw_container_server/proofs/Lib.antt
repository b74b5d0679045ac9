pub mod AtKeepers
mod Decided
pub mod Few
mod Left
pub mod Looks
mod Names
mod OneAnswer
pub mod OneAsking
mod OneListing
mod OneReply
mod OneStep
mod Plain
mod ReadsLeave
mod Replicas
mod RowTypes
mod Told
