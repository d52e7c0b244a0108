use Rattle.std.proofs.Common.{◌≡◌, ◌++◌, ◌∙◌, List, ℕ, [], ◌∷◌, codes, decimal, ap}
use Rattle.check_lines.proofs.SideTextLemmas.{store_line_is}
use Rattle.check_lines.proofs.checking.add_store.Goals as goal

pub returns : goal.returns
returns c =
    let old = c.args.text.now.items in
    let front : c.extend_from_slice-2.new.self.items ≡ (old ++ codes "reservations ") ++ c.args.name.now =
    c.in_ok-extend_from_slice-2.ensures.items
    ∙ ap (λ (xs : List ℕ). xs ++ c.args.name.now) c.in_ok-extend_from_slice.ensures.items in
    let counts : c.as_bytes.result.now ≡ codes " frames " ++ (decimal c.args.frames
    ++ (codes " registrations " ++ (decimal c.args.registrations ++ 10 ∷ []))) =
    c.as_bytes.ensures.value ∙ c.in_ok-counts.ensures.ok in
    c.in_ok-extend_from_slice-3.ensures.items ∙ ap (λ (xs : List ℕ). xs ++ c.as_bytes.result.now) front
    ∙ store_line_is old c.args.name.now c.as_bytes.result.now c.args.frames c.args.registrations counts
