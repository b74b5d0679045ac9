mod Asking
mod Decided
mod Left
mod OneOutcome
mod Reached
