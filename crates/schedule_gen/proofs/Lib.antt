pub mod OwnerLemmas
pub mod LimitLemmas
pub mod LinkLemmas
pub mod RestLemmas
pub mod MachineLemmas
