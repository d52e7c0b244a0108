use Rattle.std.proofs.Common.{◌≡◌, ◌++◌, ◌∷◌, [], List, ℕ, ap, arith, map, take, ◌∙◌, rules}
use Rattle.explanations.specs.Lines.{shown}
use Rattle.explanations.proofs.LineLemmas.{take_lesser}
use Rattle.explanations.proofs.explanation.line_of.Goals as goal

pub returns : goal.returns
unfolding lib.Utf8.encode
returns c =
    let filled : take c.loop-place.place c.args.text.now ≡ take 120 c.args.text.now =
    take_lesser c.args.text.now c.loop-place.place 120
    (search (rules, arith, c.min-place-end.ensures, c.loop-place-test.false)) in
    c.in_ok-push-2.ensures.bytes
    ∙ ap (λ (front : List ℕ). front ++ 10 ∷ [])
    (c.loop-place.invariant ∙ ap (λ (front : List ℕ). map shown front) filled)
