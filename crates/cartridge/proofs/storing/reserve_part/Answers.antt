use Rattle.std.proofs.Common.{List, sym, subst}
use Rattle.object_index.specs.Places.{PlacedPart, reserved_of}
use Rattle.cartridge.specs.Inner.Growing.{IsGrown}
use Rattle.cartridge.proofs.GrowingLemmas.{grown_same, reserve_grown}
use Rattle.cartridge.proofs.storing.reserve_part.Goals as goal

pub returns-then-part-parts-clause-grown : goal.returns-then-part-parts-clause-grown
returns-then-part-parts-clause-grown c = grown_same c.args.index.now

pub returns-clause-grown : goal.returns-clause-grown
returns-clause-grown c =
    subst (λ (x : List PlacedPart). IsGrown c.args.index.now x) (sym c.reserve.ensures.same)
    (reserve_grown c.args.index.now c.args.part (reserved_of c.reserve.new.self c.args.part) c.reserve.ensures.grows)
