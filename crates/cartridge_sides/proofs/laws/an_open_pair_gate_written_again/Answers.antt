use Rattle.cartridge_sides.proofs.HoleLemmas.{older_counts, nothing_counts}
use Rattle.cartridge_sides.proofs.laws.an_open_pair_gate_written_again.Goals as goal

pub returns : goal.returns
returns c = record { older = older_counts; nothing = nothing_counts }
