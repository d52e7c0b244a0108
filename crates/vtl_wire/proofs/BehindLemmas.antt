-- Answers with the header before them.
use Rattle.std.proofs.Common.{◌≡◌, ℕ, List, ◌++◌, length, Option, ap, subst, arith, inl}
use Rattle.std.specs.Io.KnownBytes.{Consumes}
use Rattle.std.proofs.KnownBytes.{Consumes-trans}
use Rattle.vtl_wire.specs.declared.answer_heads.AnswerHead.{AnswerHead}
use Rattle.vtl_wire.specs.declared.answers.Answer.{Answer}
use Rattle.vtl_wire.specs.declared.faults.WireFault.{WireFault}
use Rattle.vtl_wire.specs.declared.faults.WireFault.TheVariants.{BadFrame, ReadFault, WriteFault, NoMemory}
use Rattle.vtl_wire.specs.declared.headers.Header.{Header}
use Rattle.vtl_wire.specs.declared.reading.Found.{Found}
use Rattle.vtl_wire.specs.declared.reading.Found.TheVariants as places
use Rattle.vtl_wire.specs.AnswerReads.{RefusesAnswer}
use Rattle.vtl_wire.specs.Frames.{IsHeader, spell_header}
use Rattle.vtl_wire.specs.Inner.Answered.{FindsAnswer, FindsBehind, FindsNoAnswer, HeadSays, MissesBehind}
use Rattle.vtl_wire.proofs.AnswerHeadLemmas.{no_answer_head}
use Rattle.vtl_wire.proofs.BeginLemmas.{some_header}
use Rattle.vtl_wire.proofs.FrameLemmas.{length-header}

-- what was found or missed behind a header
module _ (left mid left' : Option (List ℕ)) (header : Header) (fits : IsHeader header)
    (taken : Consumes left mid (spell_header header)) where
  pub found_behind : (found : Found Answer) → FindsBehind (spell_header header) mid left' found
      → FindsAnswer left left' found
  found_behind (places.Frame answer) finds = (
    finds.0,
    subst (Consumes left left') finds.1.2
        (Consumes-trans left mid left' (spell_header header) finds.1.0 taken finds.1.1),
  )
  found_behind places.Ended finds = absurd finds
  found_behind places.Refused finds = record {
    read = spell_header header ++ finds.0;
    taken = Consumes-trans left mid left' (spell_header header) finds.0 taken finds.1;
    some = some_header header finds.0;
    bad = finds.2;
  }

  pub missed_behind : (fault : WireFault) → MissesBehind (spell_header header) mid left' fault
      → FindsNoAnswer left left' fault
  missed_behind (BadFrame number) misses = absurd misses
  missed_behind ReadFault misses = (
    spell_header header ++ misses.0,
    Consumes-trans left mid left' (spell_header header) misses.0 taken misses.1,
    misses.2,
  )
  missed_behind WriteFault misses = absurd misses
  missed_behind NoMemory misses = record {
    read = spell_header header ++ misses.0;
    taken = Consumes-trans left mid left' (spell_header header) misses.0 taken misses.1;
    before = misses.2;
  }

-- a header that no answer has refuses its frame
pub answer_head_refused : (left left' : Option (List ℕ)) (header : Header) → IsHeader header
    → Consumes left left' (spell_header header) → ((head : AnswerHead) → HeadSays header head → ⊥)
    → RefusesAnswer left left'
answer_head_refused left left' header fits taken none = record {
  read = spell_header header;
  taken = taken;
  some = λ nothing. omega (arith, ap length nothing, length-header header);
  bad = inl (inl (length-header header), no_answer_head header fits none);
}
