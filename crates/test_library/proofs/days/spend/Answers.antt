use Rattle.std.proofs.Common.{◌∙◌, ℕ, List, ap, length, subst, sym, refl, nat_eq}
use Rattle.std.specs.List.{IsDistinct}
use Rattle.library.specs.Counts.{which_are_there}
use Rattle.test_library.proofs.HostLemmas.{numbers_differ}
use Rattle.test_library.proofs.days.spend.Goals as goal

pub spend_over-requires-clause-places : goal.spend_over-requires-clause-places
spend_over-requires-clause-places g c κs within =
    rw c.as_slice.ensures.value at c.in_ok-drives.ensures.places

pub spend_over-requires-clause-fresh : goal.spend_over-requires-clause-fresh
spend_over-requires-clause-fresh g c κs within =
    rw c.as_slice.ensures.value at c.in_ok-drives.ensures.fresh

pub of_drives-requires : goal.of_drives-requires
of_drives-requires g c =
    ap length (c.as_slice-2.ensures.value ∙ sym c.as_slice.ensures.value) ∙ c.in_ok-drives.ensures.places

pub spend_over-requires-clause-rings : goal.spend_over-requires-clause-rings
spend_over-requires-clause-rings g c κs within =
    (c.in_ok-rings.ensures ∙ ap which_are_there c.as_slice-2.ensures.value, refl)

pub spend_over-requires-clause-hosts : goal.spend_over-requires-clause-hosts
spend_over-requires-clause-hosts g c κs within =
    subst (λ (hosts : List ℕ). IsDistinct nat_eq hosts)
    (sym (c.as_slice-3.ensures.value ∙ c.in_ok-hosts.ensures.0))
    (numbers_differ 1 _)

pub spend_over-requires-clause-bay_ledger : goal.spend_over-requires-clause-bay_ledger
spend_over-requires-clause-bay_ledger g c κs within = (
  record {
    named = refl;
    cut = refl;
    one_each = refl;
  },
  c.new-2.ensures ∙ rw c.as_slice.ensures.value at c.in_ok-drives.ensures.count,
)
