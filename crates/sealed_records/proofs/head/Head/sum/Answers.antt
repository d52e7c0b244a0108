use Rattle.std.proofs.Common.{◌∙◌, ap, sym, arith, drop, length-drop}
use Rattle.std.proofs.lemmas.List.{take_all}
use Rattle.byteorder.specs.Endian.{big_number}
use Rattle.sealed_records.specs.Sealed.{sum_in}
use Rattle.sealed_records.proofs.head.Head.sum.Goals as goal

pub returns : goal.returns
returns c =
    λ long. c.read_u32.ensures
    ∙ ap (big_number 4) (take_all 8 (drop 10 c.self.inside.bytes)
    (omega (arith, length-drop 10 c.self.inside.bytes, c.self.told)))
    ∙ ap sum_in
    (sym (take_all c.self.inside.filled c.self.inside.bytes
    (omega (arith, c.if-self-lt-SEALED_HEAD.false, c.self.told)))
    ∙ c.self.view_is)
