use Rattle.std.proofs.Common.{◌≡◌, arith, ℕ, List, ◌++◌, ◌∷◌, [], ◌+◌, ◌∙◌, ap, length}
use Rattle.std.specs.List.{flat_map}
use Rattle.std.specs.Int.{to_be_bytes, w32, w64}
use Rattle.cartridge_sides.proofs.SpellLemmas.{joined}
use Rattle.cartridge_sides.proofs.spelling.put_head.Goals as goal

pub returns-clause-items : goal.returns-clause-items
returns-clause-items c =
    let counted : c.len.result ≡ length c.args.header.now.capacities.items =
    omega (arith, c.len.ensures, c.deref.ensures.len, ap length c.deref.ensures.value) in
    let count = 128 + length c.args.header.now.capacities.items in
    let name = c.args.header.now.name in
    let capacities = flat_map (to_be_bytes w64) c.args.header.now.capacities.items in
    joined count name capacities (to_be_bytes w64 c.args.copied.epoch) (to_be_bytes w32 c.args.copied.base)
    c.put-2.new.buffer.items c.put_capacities.new.buffer.items c.put-3.new.buffer.items c.put-4.new.buffer.items
    (c.put-2.ensures.items ∙ ap (λ (l : List ℕ). l ++ name)
    (c.put.ensures.items ∙ (λ i. c.clear.ensures.items i ++ (128 + counted i) ∷ [])))
    (c.put_capacities.ensures.items
    ∙ ap (λ (l : List ℕ). c.put-2.new.buffer.items ++ flat_map (to_be_bytes w64) l) c.deref.ensures.value)
    (c.put-3.ensures.items ∙ ap (λ (l : List ℕ). c.put_capacities.new.buffer.items ++ l) c.write_u64.ensures)
    (c.put-4.ensures.items ∙ ap (λ (l : List ℕ). c.put-3.new.buffer.items ++ l) c.write_u32.ensures)
