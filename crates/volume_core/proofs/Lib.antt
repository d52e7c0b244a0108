mod VolumeLemmas
mod RefusalLemmas
mod MarkLemmas
