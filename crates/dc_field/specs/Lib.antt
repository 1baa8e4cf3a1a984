pub mod WordInBytes
pub mod WordInText
pub mod NumberInText
pub mod Answers
pub mod GroupAnswers
pub mod IsGroup
pub mod SymbolInText
