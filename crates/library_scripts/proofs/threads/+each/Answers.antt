use Rattle.std.proofs.Common.{rules, List, ◌++◌, sym, subst}
use Rattle.library_scripts.specs.Inner.Threads.{ChangesAll}
use Rattle.library_scripts.proofs.ThreadLemmas.{changes_join}
use Rattle.library_scripts.proofs.threads.+each.Goals as goal

pub each_beside-returns-then-are_idle : goal.each_beside-returns-then-are_idle
each_beside-returns-then-are_idle g t c =
    subst
    (λ (l : List g.row.T.Denot).
    ChangesAll g.F.Fn c.args.f.now l (c.at_first.new.first ++ c.each_beside.new.items))
    (sym c.split_at_mut-first.ensures.value)
    (changes_join g.F.Fn c.args.f.now _ _ _ _ (search rules) c.at_first.ensures c.each_beside.ensures)

pub each_beside-returns-else-are_idle : goal.each_beside-returns-else-are_idle
each_beside-returns-else-are_idle g t c =
    subst
    (λ (l : List g.row.T.Denot).
    ChangesAll g.F.Fn c.args.f.now l (c.first_beside.new.first ++ c.first_beside.new.rest))
    (sym c.split_at_mut-first.ensures.value)
    (changes_join g.F.Fn c.args.f.now _ _ _ _ (search rules) c.first_beside.ensures.first c.first_beside.ensures.rest)
