pub mod WithoutWords
