mod StepLemmas
mod TableLemmas
mod FedLemmas
mod KnownLemmas
mod FarLemmas
mod PairLemmas
mod RemainderLemmas
