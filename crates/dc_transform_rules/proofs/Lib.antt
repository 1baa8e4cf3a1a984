pub mod CoefficientLemmas
pub mod ColumnLemmas
pub mod ListLemmas
pub mod ProductLemmas
pub mod ResidueLemmas
pub mod RootLemmas
pub mod TransformLemmas
