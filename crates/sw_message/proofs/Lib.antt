pub mod Digits
pub mod HeadLemmas
pub mod ListLemmas
pub mod ReplyLemmas
pub mod TextLemmas
pub mod Tokens
