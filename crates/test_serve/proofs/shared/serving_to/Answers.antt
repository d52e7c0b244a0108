use Rattle.std.proofs.Common.{◌∙◌, ap, length, refl, sym}
use Rattle.library.specs.Counts.{which_are_there}
use Rattle.test_serve.proofs.shared.serving_to.Goals as goal

pub serve_library-served-requires-clause-places : goal.serve_library-served-requires-clause-places
serve_library-served-requires-clause-places g c κs within =
    rw c.as_slice.ensures.value at c.in_ok-drives.ensures.places

pub serve_library-served-requires-clause-fresh : goal.serve_library-served-requires-clause-fresh
serve_library-served-requires-clause-fresh g c κs within =
    rw c.as_slice.ensures.value at c.in_ok-drives.ensures.fresh

pub of_drives-requires : goal.of_drives-requires
of_drives-requires g c =
    ap length (c.as_slice-2.ensures.value ∙ sym c.as_slice.ensures.value) ∙ c.in_ok-drives.ensures.places

pub serve_library-served-requires-clause-rings : goal.serve_library-served-requires-clause-rings
serve_library-served-requires-clause-rings g c κs within =
    (ap which_are_there c.rings.view_is ∙ c.in_ok-rings.ensures ∙ ap which_are_there c.as_slice-2.ensures.value, refl)

pub serve_library-served-requires-clause-bay_ledger : goal.serve_library-served-requires-clause-bay_ledger
serve_library-served-requires-clause-bay_ledger g c κs within = (
  record {
    named = refl;
    cut = refl;
    one_each = refl;
  },
  c.new-2.ensures ∙ rw c.as_slice.ensures.value at c.in_ok-drives.ensures.count,
)
