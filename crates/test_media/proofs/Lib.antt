mod MediumLemmas
