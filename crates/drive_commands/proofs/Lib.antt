mod FaultLemmas
mod TakesLemmas
pub mod QuietLemmas
mod DataLemmas
mod OrderLemmas
mod CleanLemmas
pub mod SettledLemmas
mod AloneLemmas
mod AppendLemmas
pub mod ReadLemmas
mod PassLemmas
mod LoadLemmas
mod LoadingLemmas
