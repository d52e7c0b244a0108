use Rattle.std.proofs.Common.{◌≡◌, ◌+◌, ◌-◌, ℕ, ◌++◌, [], ◌∷◌, slice_index_or, ap, arith, length, subst}
use Rattle.volume_core.specs.Volume.{part_of}
use Rattle.change_records.specs.Records.{spell_all}
use Rattle.cartridge.specs.Answers.{Lacks}
use Rattle.tape_buffer.proofs.AddingLemmas.{no_shorter, spelled_short}
use Rattle.tape_buffer.proofs.RoomLemmas.{reserved_more, spelled_more}
use Rattle.tape_buffer.proofs.storing.reserve_over.Goals as goal

pub overflow_add-body : goal.overflow_add-body
overflow_add-body g c =
    omega (
      arith,
      c.body_bytes.ensures.value,
      c.frame_size.ensures,
      spelled_more c.args.pending.now c.args.change.now,
      spelled_short (c.args.pending.now ++ c.args.change.now ∷ []) c.requires.few,
    )

pub overflow_add-len : goal.overflow_add-len
overflow_add-len g c =
    omega (
      arith,
      c.len.ensures,
      no_shorter c.args.pending.now,
      c.body_bytes.ensures.value,
      c.body_bytes.ensures.bound,
    )

pub returns-in-Ok-clause-ok : goal.returns-in-Ok-clause-ok
returns-in-Ok-clause-ok g c =
    reserved_more c.args.cartridge.now.reserved c.reserve.new.self.reserved c.args.pending.now c.args.change.now
    c.in-Ok.ensures.grows c.requires.enough
    (omega (
      arith,
      c.in-Ok.ensures.ok.0,
      c.body_bytes.ensures.value,
      c.frame_size.ensures,
      spelled_more c.args.pending.now c.args.change.now,
    ))
    c.in-Ok.ensures.ok.1
    (omega (
      arith,
      c.len.ensures,
      ap (λ (part : ℕ). slice_index_or c.reserve.new.self.reserved.entries part 0) c.part.ensures,
      c.in-Ok.ensures.ok.2 (omega (arith, c.part.ensures, c.requires.part)),
    ))

pub returns-in-Err-clause-lacks : goal.returns-in-Err-clause-lacks
returns-in-Err-clause-lacks g c =
    let changes = c.args.pending.now ++ c.args.change.now ∷ [] in
    let body : (c.body_bytes.result + c.frame_size.result) - 5 ≡ length (spell_all changes) = omega (
      arith,
      c.body_bytes.ensures.value,
      c.frame_size.ensures,
      spelled_more c.args.pending.now c.args.change.now,
    ) in
    let some : c.len.result + 1 ≡ length c.args.pending.now + 1 = omega (arith, c.len.ensures) in
    subst (λ (p : ℕ × ℕ × ℕ). Lacks c.args.cartridge.now.reserved p.0 p.1 p.2)
    (λ i. (c.part.ensures i, body i, some i)) c.in-Err.ensures.refused.1
