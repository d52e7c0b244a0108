mod HandLemmas
