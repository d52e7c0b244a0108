use Rattle.std.proofs.Common.{◌≡◌, ◌≤◌, ◌+◌, ℕ, Option, length, take, get_or, vec_len, vec_capacity}
use Rattle.bay_moves.specs.Elements.{BayState}
use Rattle.split_bay.specs.Rings.{Sender}
use Rattle.library.specs.Counts.{places_filled, which_are_there}
use Rattle.library.proofs.opening.share_all.Given as goal

-- the drives so far are behind their locks, each with a share, and the others are still in the list
abbrev pub invariant-loop-place : goal.invariant-loop-place
invariant-loop-place g l = record {
  counted : vec_len l.shared ≡ l.place;
  room : 16 ≤ vec_capacity l.shared;
  long : length l.fn.row ≡ 16;
  rest : (k : ℕ) (d : Option (BayState g.row.D.Denot)) → l.place ≤ k → get_or l.row k d ≡ get_or l.fn.row k d;
  left : (k : ℕ) (d : Option Sender) → l.place ≤ k → get_or l.rings k d ≡ get_or l.fn.rings k d;
  shares : l.tally.bays_left + places_filled (take l.place l.fn.row) ≡ places_filled l.fn.row;
  drives : which_are_there l.shared.items ≡ which_are_there (take l.place l.fn.row);
  hosts : l.tally.hosts_left ≡ l.fn.tally.hosts_left;
}
