pub mod HalvingLemmas
pub mod JoinedLemmas
pub mod LookLemmas
pub mod NearLemmas
pub mod RingLemmas
pub mod SpanLemmas
pub mod TakenLemmas
pub mod UntoldLemmas
