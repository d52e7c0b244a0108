use Rattle.std.proofs.Common.{◌≡◌, drop}
use Rattle.vtl_serve.specs.Labels.{barcode_at}
use Rattle.vtl_serve.proofs.labels.barcode_among.Given as goal

-- none of the labels so far is at the address
abbrev pub invariant-loop-label : goal.invariant-loop-label
invariant-loop-label l = barcode_at (drop l.label-index l.labels) l.address ≡ barcode_at l.labels l.address
