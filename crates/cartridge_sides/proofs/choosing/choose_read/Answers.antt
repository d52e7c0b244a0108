use Rattle.std.proofs.Common.{List, ℕ, refl, sym, ◌∙◌, subst}
use Rattle.std.proofs.lemmas.Bool.{false≢true}
use Rattle.gate_journal.specs.Reads.{reads_none}
use Rattle.cartridge_sides.specs.Choosing.{Chooses}
use Rattle.cartridge_sides.proofs.ChooseLemmas.{chooses_whole}
use Rattle.cartridge_sides.proofs.CutLemmas.{front}
use Rattle.cartridge_sides.proofs.choosing.choose_read.Goals as goal

pub choose_alone-requires : goal.choose_alone-requires
choose_alone-requires g c = λ w. false≢true (sym c.if-not-has_open_pair.true ∙ c.has_open_pair.ensures.1 w)

pub returns-then-not-has_open_pair-clause-answer : goal.returns-then-not-has_open_pair-clause-answer
returns-then-not-has_open_pair-clause-answer g c = (
  c.in_ok-len.ensures.passes.none_failed,
  refl,
  λ h k.
      let first = (g.D.Disk.state c.args.first.now).seen in
      let second = (g.D.Disk.state c.args.second.now).seen in
      chooses_whole first second c.choose_alone.result
      (subst (λ (l : List ℕ). Chooses l (front second) c.choose_alone.result) (c.in_ok-len.ensures.front h)
      (c.choose_alone.ensures (front second))),
)

pub choose_of_two-requires : goal.choose_of_two-requires
choose_of_two-requires g c = c.has_open_pair.ensures.0 c.if-not-has_open_pair.false

pub returns-clause-answer : goal.returns-clause-answer
returns-clause-answer g c = (
  c.in_ok-len.ensures.passes.none_failed,
  c.in_ok-len-2.ensures.passes.none_failed,
  λ h k.
      let first = (g.D.Disk.state c.args.first.now).seen in
      let second = (g.D.Disk.state c.args.second.now).seen in
      let one = c.in_ok-len.ensures.front h in
      let two = c.in_ok-len-2.ensures.front k in
      chooses_whole first second c.choose_of_two.result
      (subst (λ (l : List ℕ × List ℕ). Chooses l.0 l.1 c.choose_of_two.result) (λ i. (one i, two i))
      c.choose_of_two.ensures),
)

pub returns-in_err-len-clause-reads : goal.returns-in_err-len-clause-reads
returns-in_err-len-clause-reads g c = (c.read_front.ensures.reads, reads_none g.D.Disk.effect _)

pub returns-then-not-has_open_pair-clause-reads : goal.returns-then-not-has_open_pair-clause-reads
returns-then-not-has_open_pair-clause-reads g c = (c.read_front.ensures.reads, reads_none g.D.Disk.effect _)
