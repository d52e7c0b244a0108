mod ConfigCheckLemmas
mod ConfigLemmas
mod CreatingLemmas
mod ReclaimLemmas
pub mod TakenLemmas
