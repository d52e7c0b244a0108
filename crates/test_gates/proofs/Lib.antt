mod FreshLemmas
mod HostLemmas
