mod BitLemmas
mod EstablishedLemmas
