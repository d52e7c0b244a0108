use Rattle.std.proofs.Common.{◌∙◌, ap, length, refl, sym}
use Rattle.library.specs.Counts.{which_are_there}
use Rattle.test_library.proofs.scripts.runs.Goals as goal

pub run_library-ran-requires-clause-places : goal.run_library-ran-requires-clause-places
run_library-ran-requires-clause-places g c κs within =
    rw c.as_slice.ensures.value at c.in_ok-drives.ensures.places

pub run_library-ran-requires-clause-fresh : goal.run_library-ran-requires-clause-fresh
run_library-ran-requires-clause-fresh g c κs within =
    rw c.as_slice.ensures.value at c.in_ok-drives.ensures.fresh

pub of_drives-requires : goal.of_drives-requires
of_drives-requires g c =
    ap length (c.as_slice-2.ensures.value ∙ sym c.as_slice.ensures.value) ∙ c.in_ok-drives.ensures.places

pub run_library-ran-requires-clause-rings : goal.run_library-ran-requires-clause-rings
run_library-ran-requires-clause-rings g c κs within =
    (c.in_ok-rings.ensures ∙ ap which_are_there c.as_slice-2.ensures.value, refl)

pub run_library-ran-requires-clause-bay_ledger : goal.run_library-ran-requires-clause-bay_ledger
run_library-ran-requires-clause-bay_ledger g c κs within = (
  record {
    named = refl;
    cut = refl;
    one_each = refl;
  },
  c.new.ensures ∙ rw c.as_slice.ensures.value at c.in_ok-drives.ensures.count,
)
