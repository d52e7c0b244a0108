mod QueueLemmas
mod WriterLemmas
