use Rattle.std.proofs.Common.{ℕ, List, length, sym, ◌∙◌, ap, arith}
use Rattle.aptpl_store.proofs.SpellingLemmas.{spelling_frame, spelling_short}
use Rattle.aptpl_store.proofs.DecodingLemmas.{one_state}
use Rattle.aptpl_store.proofs.laws.bytes_spell_one_state.Goals as goal

pub returns : goal.returns
returns c = record {
  one_state = one_state;
  one_spelling = λ state one other first second. first.bytes ∙ sym second.bytes;
  short = λ state body spells.
      omega (arith, ap (λ (l : List ℕ). length l) spells.bytes, spelling_short state spells.savable.sound.all);
  frame = λ state body spells.
      omega (arith, ap (λ (l : List ℕ). length l) spells.bytes, spelling_frame state spells.savable.sound.all);
}
