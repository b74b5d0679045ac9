mod PathText
mod Shifts
