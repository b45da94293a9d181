pub mod ChangeLemmas
pub mod RowLemmas
