use Rattle.std.proofs.Common.{◌<◌, ℕ, length, get_or, set, sym, subst, arith}
use Rattle.std.proofs.lemmas.List.{get_or-set_same, get_or_default}
use Rattle.std.specs.Fork.{ChangesAt}
use Rattle.library_scripts.proofs.threads.at_first.Goals as goal

pub returns : goal.returns
returns g c =
    let xs = c.args.first.now in
    let y = c.at_one.new.item in
    let R : g.row.T.Denot → g.row.T.Denot → Type 0 = ChangesAt g.F.Fn c.args.f.now 0 in
    let some : 0 < length xs = omega (arith, c.requires.one) in
    record {
      each = λ i d less.
          subst (λ (k : ℕ). R (get_or xs k d) (get_or (set xs 0 y) k d)) (omega (arith, less, c.requires.one))
          (subst (R (get_or xs 0 d)) (sym (get_or-set_same xs 0 y d some))
          (subst (λ x. R x y) (get_or_default xs 0 _ d some) c.at_one.ensures));
    }
