use Rattle.std.proofs.Common.{◌∙◌, ap, sym, List, ℕ, take, drop}
use Rattle.std.specs.Cmp.Lexicographic.{bytes_decides}
use Rattle.cartridge_sides.proofs.ChooseLemmas.{start_there}
use Rattle.cartridge_sides.proofs.choosing.has_start.Goals as goal

pub returns-then-image-ge-BEGUN_BYTES : goal.returns-then-image-ge-BEGUN_BYTES
returns-then-image-ge-BEGUN_BYTES c = (
  λ is. start_there c.args.image.now c.if-image-ge-BEGUN_BYTES.true ((bytes_decides _ _).0 (sym c.eq.ensures ∙ is)),
  λ w. c.eq.ensures ∙ (bytes_decides _ _).1 (ap (λ (l : List ℕ). take 8 (drop 1 l)) w.3),
)
