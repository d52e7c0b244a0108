mod DamageLemmas
