use Rattle.std.proofs.Common.{◌≡◌, ◌≤◌, ◌+◌, ◌-◌, ◌*◌, ◌++◌, take, length}
use Rattle.std.specs.List.{All}
use Rattle.aptpl_store.specs.Spelling.{IsKey, spell_state}
use Rattle.aptpl_store.specs.Inner.Decoded.{nexuses_from, registrations_of}
use Rattle.aptpl_store.proofs.spelling.fill_body.Given as goal

abbrev pub invariant-loop-number : goal.invariant-loop-number
invariant-loop-number l = record {
  few : l.number ≤ 65;
  room : l.initial.frame.room ≤ l.frame.room;
  short : length l.frame.body + 5 ≤ 9 * l.number;
  keys : All IsKey (take (l.number - 1) l.state.keys);
  spelled : l.frame.body ++ registrations_of l.state (nexuses_from l.number) ≡ spell_state l.state;
}
