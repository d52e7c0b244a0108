-- What a contract sees below a medium or a keeper.
use Rattle.std.specs.Prelude.{◌≡◌, ◌<◌, ◌↔◌, ◌++◌, ℕ, Bool, true, false, List, [], refl}
use Rattle.std.proofs.Common.{subst}

-- What a contract sees below an M that accepts Cs, as a medium accepts changes: how often the device has failed;
-- whether it keeps the promises of a disk; whether it is at hand, so that it may be called (always, unless it is behind
-- a lock of its own); which Cs, in order, were accepted from one value to another; and that, as M defines it, a stop
-- since the one value leaves only what one might have left then, and so what an opening leaves (own).
pub record Below (M C : Type 0) : Type 1 where
  pub failures : M → ℕ
  pub honest : M → Type 0
  pub at_hand : M → Type 0
  pub moves : M → List C → M → Type 0
  pub left_alone : M → M → Type 0

-- the count of failures rose where the device failed in a call; else it stayed (own)
abbrev pub Counts : Bool → ℕ → ℕ → Type 0
Counts true before now = before < now
Counts false before now = now ≡ before

-- What holds after every result of a call: exactly these were accepted, in order; the count of failures rose where the
-- device failed in it, and else stayed; honesty stays, and it is at hand if it was (own).
pub record Advances {M C : Type 0} (below : Below M C) (old : M) (made : List C) (fault : Bool) (new : M) : Type 0 where
  pub moved : below.moves old made new
  pub counted : Counts fault (below.failures old) (below.failures new)
  pub honesty : below.honest old ↔ below.honest new
  pub hand : below.at_hand old ↔ below.at_hand new

module _ {M C : Type 0} (below : Below M C) where
  -- where nothing is done, nothing is accepted and no fault is met
  pub advances_nowhere :
      ((value : M) → below.moves value [] value) → (value : M) → Advances below value [] false value
  advances_nowhere nowhere value =
      record {
        moved = nowhere value;
        counted = refl;
        honesty = (λ honest. honest, λ honest. honest);
        hand = (λ hand. hand, λ hand. hand);
      }

  -- two calls, one after another, the first without a fault, accept the items of both
  pub advances_on :
      ((a b c : M) (first second : List C) → below.moves a first b → below.moves b second c
      → below.moves a (first ++ second) c)
      → (a b c : M) (first second : List C) (fault : Bool)
      → Advances below a first false b → Advances below b second fault c
      → Advances below a (first ++ second) fault c
  advances_on on a b c first second fault one two =
      record {
        moved = on a b c first second one.moved two.moved;
        counted =
            subst (λ (before : ℕ). Counts fault before (below.failures c)) one.counted two.counted;
        honesty = (
          λ honest. two.honesty.0 (one.honesty.0 honest),
          λ honest. one.honesty.1 (two.honesty.1 honest),
        );
        hand = (
          λ hand. two.hand.0 (one.hand.0 hand),
          λ hand. one.hand.1 (two.hand.1 hand),
        );
      }
