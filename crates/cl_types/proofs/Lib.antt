pub mod CompatibleLemmas
pub mod CompositeLemmas
pub mod Induction
pub mod NormalLemmas
pub mod OwnLemmas
pub mod PromotedLemmas
