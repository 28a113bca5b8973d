pub mod LossyLemmas
