mod Acknowledging
mod Silences
