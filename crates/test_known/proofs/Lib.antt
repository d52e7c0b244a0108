mod VolumeLemmas
