use Rattle.std.proofs.Common.{◌≡◌, List, ◌∷◌, length, drop, ◌+◌, ◌*◌, ◌≤◌, ℕ, ◌∙◌, ap, arith, rules}
use Rattle.gate_journal.specs.Side.{heading_of, plain, spell_front}
use Rattle.std.proofs.Common.{sym, ◌++◌, []}
use Rattle.std.proofs.lemmas.List.{append-nil}
use Rattle.gate_journal.proofs.Bodies.{fresh}
use Rattle.gate_journal.specs.Inner.Fronts.{length_front, plain_front}
use Rattle.gate_journal.specs.Inner.Headings.{few_capacities}
use Rattle.gate_journal.proofs.Extents.{none_yet}
use Rattle.gate_journal.proofs.journal.Journal.create_reserved.Goals as goal

pub invariant_of-result : goal.invariant_of-result
invariant_of-result g c =
    let h = heading_of c.args.header in
    let none : c.reserve.new.self.items ≡ [] = c.in-Ok.ensures.items ∙ c.new-extents.ensures.items in
    let few : length c.args.header.capacities.items ≤ 4 = few_capacities h c.requires in
    let count : c.len.result ≡ length c.args.header.capacities.items = search rules in
    let long : length (spell_front (plain h)) ≡ 27 + 8 * length c.args.header.capacities.items + 0 =
    length_front (plain h) (plain_front h c.requires) in (
      plain_front h c.requires,
      omega (arith, few, count),
      none_yet (27 + 8 * c.len.result) c.reserve.new.self.items none,
      λ honest'.
          let honest = c.write_new.ensures.passes.was_honest honest' in
          let there = c.in-Ok-write_new.ensures.written honest in
          let bytes = c.deref.ensures.value ∙ c.in-Ok-spell_closed.ensures in
          fresh (g.D.Disk.state c.write_new.new.disk) h c.reserve.new.self.items (27 + 8 * c.len.result) c.requires
          (there.0 ∙ ap (λ (l : List ℕ). 165 ∷ drop 1 l) bytes) there.1 none
          (omega (arith, long, count)),
      omega (arith, c.in-Ok.ensures.ok),
      omega arith,
    )

pub returns-in-Ok-write_new-clause-bytes : goal.returns-in-Ok-write_new-clause-bytes
returns-in-Ok-write_new-clause-bytes g c = λ honest.
    let h = heading_of c.args.header in
    let there = c.in-Ok-write_new.ensures.written honest in
    there.0 ∙ ap (λ (l : List ℕ). 165 ∷ drop 1 l) (c.deref.ensures.value ∙ c.in-Ok-spell_closed.ensures)
    ∙ ap (λ (l : List ℕ). l ++ 0 ∷ []) (sym (append-nil (spell_front (plain h))))
