mod StagedLemmas
