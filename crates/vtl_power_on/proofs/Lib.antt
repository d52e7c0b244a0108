mod BuiltInLemmas
mod DistinctLemmas
pub mod IdleLemmas
mod NotStartedLemmas
mod SidesLemmas
mod StartingLemmas
mod UsingLemmas
mod WaitingLemmas
