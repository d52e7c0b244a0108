use Rattle.std.proofs.Common.{ap, sym, ◌∙◌, ◌++◌, List, ℕ}
use Rattle.change_records.specs.Records.{spell_change}
use Rattle.change_records.specs.Inner.Spelled.{one_front}
use Rattle.change_records.proofs.laws.no_spelling_begins_another.Goals as goal

pub returns : goal.returns
returns c a b x y change other one two same =
    let front = one_front change other x y one.0 two.0
    (ap (λ (l : List ℕ). l ++ x) (sym one.1) ∙ same ∙ ap (λ (l : List ℕ). l ++ y) two.1) in
    (front.0, one.1 ∙ ap spell_change front.0 ∙ sym two.1, front.1)
