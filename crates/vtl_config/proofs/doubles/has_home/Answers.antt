use Rattle.std.proofs.Common.{◌==◌, eq-eqb}
use Rattle.std.proofs.lemmas.Bool.{eqb-true}
use Rattle.vtl_config.specs.Entries.{address_of}
use Rattle.vtl_config.proofs.ListLemmas.{any_contains, contains_any}
use Rattle.vtl_config.proofs.doubles.has_home.Goals as goal

pub returns : goal.returns
returns c = (
  (λ found.
      any_contains (λ entry. address_of entry.home) (λ it. it == (address_of c.args.home)) (address_of c.args.home)
      (λ it same. eqb-true it (address_of c.args.home) same)
      c.args.cartridges.now (rw (← c.any_has_home.ensures) found)),
  (λ has.
      rw c.any_has_home.ensures
      (contains_any (λ entry. address_of entry.home) (λ it. it == (address_of c.args.home)) (address_of c.args.home)
      (λ it same. eq-eqb it (address_of c.args.home) same)
      c.args.cartridges.now has.0 has.1 has.2)),
)
