mod BeginLemmas
mod DoubtLemmas
mod RestedLemmas
mod RunLemmas
mod TransferLemmas
