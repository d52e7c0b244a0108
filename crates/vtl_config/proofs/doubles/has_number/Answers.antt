use Rattle.std.proofs.Common.{◌==◌, eq-eqb}
use Rattle.std.proofs.lemmas.Bool.{eqb-true}
use Rattle.vtl_config.proofs.ListLemmas.{any_contains, contains_any}
use Rattle.vtl_config.proofs.doubles.has_number.Goals as goal

pub returns : goal.returns
returns c = (
  (λ found.
      any_contains (λ entry. entry.number) (λ it. it == c.args.number) c.args.number
      (λ it same. eqb-true it c.args.number same)
      c.args.drives.now (rw (← c.any_has_number.ensures) found)),
  (λ has.
      rw c.any_has_number.ensures
      (contains_any (λ entry. entry.number) (λ it. it == c.args.number) c.args.number
      (λ it same. eq-eqb it c.args.number same)
      c.args.drives.now has.0 has.1 has.2)),
)
