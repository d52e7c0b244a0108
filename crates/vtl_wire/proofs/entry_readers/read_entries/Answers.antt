use Rattle.std.proofs.Common.{◌*◌, arith, subst, sym}
use Rattle.vtl_wire.proofs.EntryReadLemmas.{AreEntriesTo, entries_more, no_entries_at}
use Rattle.vtl_wire.proofs.TestLemmas.{if_none}
use Rattle.vtl_wire.proofs.entry_readers.read_entries.Goals as goal

pub returns-in_err-entry-clause-none : goal.returns-in_err-entry-clause-none
returns-in_err-entry-clause-none c =
    let so = c.loop-place.invariant.so in
    if_none c.from_residual.result _ (λ entries all same.
    no_entries_at c.args.bytes.now c.loop-place.entries.items entries (20 * c.loop-place.place) so.valid so.spelled
    (omega (arith, c.loop-place-test.true)) c.in_err-entry.ensures.none all same)

pub loop-place-preserved : goal.loop-place-preserved
loop-place-preserved c = record {
  so =
      subst (AreEntriesTo _ _) (sym c.in-Ok.ensures.items) (entries_more c.args.bytes.now c.loop-place.place
      c.loop-place.entries.items c.in_ok-entry.entry c.loop-place.invariant.so c.in_ok-entry.ensures.found.0
      c.in_ok-entry.ensures.found.1);
  count = omega (arith, c.in-Ok.ensures.len, c.loop-place.invariant.count);
  room = omega (arith, c.in-Ok.ensures.capacity, c.loop-place.invariant.room);
}
