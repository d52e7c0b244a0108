use Rattle.std.proofs.Common.{string_bytes}
use Rattle.script_reasons.proofs.DriveLemmas.{drives_more}
use Rattle.script_reasons.proofs.texts.numbers_of.Goals as goal

pub loop-place-preserved : goal.loop-place-preserved
loop-place-preserved c =
    drives_more c.args.drives.now c.loop-place.place (string_bytes c.loop-place.text)
    (string_bytes c.add_drive.new.text) c.loop-place.invariant c.in_ok-add_drive.ensures
