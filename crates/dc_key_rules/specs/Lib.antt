pub mod PairKeys
pub mod Laws
