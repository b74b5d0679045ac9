pub mod Laws
pub mod SuffixLines
pub mod SuffixTexts
