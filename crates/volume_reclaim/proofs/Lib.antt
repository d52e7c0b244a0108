mod GivenLemmas
mod SidesLemmas
