mod CountLemmas
mod EndLemmas
mod HalfLemmas
mod LoopLemmas
mod OutcomeLemmas
mod RowLemmas
mod SaveLemmas
mod SeatLemmas
mod SeenLemmas
mod ServedLemmas
pub mod SessionLemmas
mod SumLemmas
