-- What carries out the lines that were dealt to hosts.
use denote.Ref.{MutBor}
use denote.Param.Members.{Shared}

module _ {S F : Type 0} (is_dealt : S → Type 0) (is_served : S → S → Type 0)
    (g : Shared F (MutBor S × Unit {0}) ((Unit {0}) × (MutBor S × Unit {0}))) (f : F) where
  -- a function may be called with hosts to which lines were dealt; afterwards they have carried out their lines
  pub record ServesHosts : Type 0 where
    pub may : (hosts : MutBor S) → is_dealt hosts.now → g.pre f (hosts, tt)
    pub does : (hosts after : MutBor S) → g.post f (hosts, tt) (tt, (after, tt)) → is_served hosts.now after.now
