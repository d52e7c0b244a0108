use Rattle.std.proofs.Common.{◌≡◌, ◌++◌, ◌∙◌, List, ℕ, [], ◌∷◌, codes, decimal, ap}
use Rattle.check_lines.proofs.SideTextLemmas.{cartridge_line_is}
use Rattle.check_lines.proofs.checking.add_cartridge.Goals as goal

pub returns : goal.returns
returns c =
    let old = c.args.text.now.items in
    let front : c.extend_from_slice-2.new.self.items ≡ (old ++ codes "cartridge ") ++ c.args.barcode.now =
    c.in_ok-extend_from_slice-2.ensures.items
    ∙ ap (λ (xs : List ℕ). xs ++ c.args.barcode.now) c.in_ok-extend_from_slice.ensures.items in
    let counts : c.as_bytes.result.now ≡ codes " partitions " ++ (decimal c.args.partitions
    ++ (codes " frames " ++ (decimal c.args.frames ++ 10 ∷ []))) =
    c.as_bytes.ensures.value ∙ c.in_ok-counts.ensures.ok in
    c.in_ok-extend_from_slice-3.ensures.items ∙ ap (λ (xs : List ℕ). xs ++ c.as_bytes.result.now) front
    ∙ cartridge_line_is old c.args.barcode.now c.as_bytes.result.now c.args.partitions c.args.frames counts
