use Rattle.std.proofs.Common.{◌≡◌, ◌-◌, ◌∷◌, [], arith, sum_by}
use Rattle.volume_core.specs.Medium.{block_bytes, frame_size}
use Rattle.tape_buffer.proofs.LentLemmas.{advances_taken, fits_taken, pending_taken, stores_taken, unreported_taken}
use Rattle.tape_buffer.proofs.lending.take_over.Goals as goal

pub push-requires : goal.push-requires
push-requires g c =
    fits_taken c.args.cartridge.now c.args.pending.now c.args.left c.args.change c.requires.held c.requires.roomy
    c.requires.within

pub returns-clause-left : goal.returns-clause-left
returns-clause-left g c =
    let bytes : c.args.left.bytes - c.block_bytes.result
    ≡ c.args.left.bytes - sum_by block_bytes (c.args.change ∷ []) = omega (arith, c.block_bytes.ensures) in
    let room : c.args.left.room - c.frame_size.result
    ≡ c.args.left.room - sum_by frame_size (c.args.change ∷ []) = omega (arith, c.frame_size.ensures) in
    λ i. record { records = c.args.left.records - 1; bytes = bytes i; room = room i }

pub returns-clause-held : goal.returns-clause-held
returns-clause-held g c =
    pending_taken c.args.cartridge.now c.args.pending.now c.args.left c.args.change c.requires.held c.requires.roomy
    c.requires.within c.requires.applies c.push.new.self c.push.ensures

pub returns-clause-stores : goal.returns-clause-stores
returns-clause-stores g c =
    stores_taken c.args.cartridge.now c.args.pending.now c.push.new.self c.args.change c.push.ensures

pub returns-clause-advances : goal.returns-clause-advances
returns-clause-advances g c =
    advances_taken c.args.cartridge.now c.args.pending.now c.args.left c.args.change c.requires.held c.requires.roomy
    c.requires.within c.requires.applies g.D.Disk.state g.met.D.Disk.is_disk c.push.new.self c.push.ensures

pub returns-clause-moves : goal.returns-clause-moves
returns-clause-moves g c =
    unreported_taken c.args.cartridge.now c.args.pending.now c.args.left c.args.change c.requires.held c.requires.roomy
    c.requires.within c.requires.applies g.D.Disk.state g.met.D.Disk.is_disk c.push.new.self c.push.ensures
