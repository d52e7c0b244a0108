use Rattle.std.proofs.Common.{◌≡◌, ℕ, ◌-◌, List, length, take, drop, sym, ◌∙◌, arith, length-drop}
use Rattle.std.proofs.lemmas.List.{take_all}
use Rattle.std.proofs.lemmas.List.Elements.{All-same}
use Rattle.std.proofs.lemmas.Bool.{false≢true}
use Rattle.gate_journal.proofs.Names.{split_text, text_front, text_spaces}
use Rattle.gate_journal.proofs.header.is_barcode_name.Goals as goal

rest_is : (name : List ℕ) (count : ℕ) → length name ≡ 16 → take (16 - count) (drop count name) ≡ drop count name
rest_is name count sized = take_all (16 - count) (drop count name) (omega (arith, sized, length-drop count name))

pub returns-then-is_ok : goal.returns-then-is_ok
returns-then-is_ok c =
    let name = c.args.name.now in
    let count = c.text_length-count.result in
    let is = rest_is name count c.told-name in
    let told = c.text_length-count.ensures in (
      λ spaces. split_text name c.told-name count told.bound told.before told.space
          (c.parse.ensures.valid.0 (sym c.is_ok.ensures.value ∙ c.if-is_ok.true))
          (All-same (λ byte. byte ≡ 32) (drop count name) _ (sym is) (c.are_spaces.ensures.0 spaces)),
      λ text. c.are_spaces.ensures.1 (All-same (λ byte. byte ≡ 32) _ (drop count name) is
          (text_spaces name c.told-name count told.bound told.before told.space text)),
    )

pub returns-else-is_ok : goal.returns-else-is_ok
returns-else-is_ok c =
    let name = c.args.name.now in
    let count = c.text_length-count.result in
    let told = c.text_length-count.ensures in (
      λ yes'. absurd (false≢true (sym c.if-is_ok.false ∙ yes')),
      λ text. c.is_ok.ensures.value ∙ c.parse.ensures.valid.1
          (text_front name c.told-name count told.bound told.before told.space text),
    )
