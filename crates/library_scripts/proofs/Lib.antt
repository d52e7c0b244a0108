mod CrewLemmas
mod DoneLemmas
mod HostLemmas
mod JobLemmas
mod RanLemmas
mod ThreadLemmas
