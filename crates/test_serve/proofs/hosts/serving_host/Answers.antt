use Rattle.std.proofs.Common.{◌∙◌, ℕ, List, ap, length, subst, sym, refl, nat_eq}
use Rattle.std.specs.List.{IsDistinct}
use Rattle.library.specs.Counts.{which_are_there}
use Rattle.test_serve.proofs.HostLemmas.{numbers_differ}
use Rattle.test_serve.proofs.hosts.serving_host.Goals as goal

pub serve_over-requires-clause-places : goal.serve_over-requires-clause-places
serve_over-requires-clause-places g c =
    rw c.as_slice.ensures.value at c.in_ok-drives.ensures.places

pub serve_over-requires-clause-fresh : goal.serve_over-requires-clause-fresh
serve_over-requires-clause-fresh g c =
    rw c.as_slice.ensures.value at c.in_ok-drives.ensures.fresh

pub of_drives-requires : goal.of_drives-requires
of_drives-requires g c =
    ap length (c.as_slice-2.ensures.value ∙ sym c.as_slice.ensures.value) ∙ c.in_ok-drives.ensures.places

pub serve_over-requires-clause-rings : goal.serve_over-requires-clause-rings
serve_over-requires-clause-rings g c =
    (ap which_are_there c.rings.view_is ∙ c.in_ok-rings.ensures ∙ ap which_are_there c.as_slice-2.ensures.value, refl)

pub serve_over-requires-clause-hosts : goal.serve_over-requires-clause-hosts
serve_over-requires-clause-hosts g c =
    subst (λ (hosts : List ℕ). IsDistinct nat_eq hosts)
    (sym (c.as_slice-3.ensures.value ∙ c.in_ok-hosts.ensures.0))
    (numbers_differ 1 1)

pub serve_over-requires-clause-bay_ledger : goal.serve_over-requires-clause-bay_ledger
serve_over-requires-clause-bay_ledger g c = (
  record {
    named = refl;
    cut = refl;
    one_each = refl;
  },
  c.new-2.ensures ∙ rw c.as_slice.ensures.value at c.in_ok-drives.ensures.count,
)
