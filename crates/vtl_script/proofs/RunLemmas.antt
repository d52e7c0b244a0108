-- Items that are run one after another, and where that stops.
use Rattle.std.proofs.Common.{◌≡◌, ℕ, List, [], ◌∷◌, ◌++◌, Option, Some, None, Result, Ok, Err, OnOk, OnErr, IfErr, refl, sym, ap, ◌∙◌, append_assoc}
use Rattle.std.proofs.KnownBytes.{Appends-nil, Appends-trans}
use Rattle.std.specs.Io.KnownBytes.{Appends}
use Rattle.scsi_sense.specs.declared.replies.Reply.{Reply}
use Rattle.vtl_script.specs.declared.items.Item.{Item}
use Rattle.vtl_script.specs.declared.faults.ScriptFault.{ScriptFault}
use Rattle.vtl_script.specs.declared.faults.ScriptFault.TheVariants.{BadLine, ReadFault, WriteFault, NoMemory}
use Rattle.vtl_script.specs.Text.{text_of, AppendsPart}
use Rattle.vtl_script.specs.Runs.{AnswersSome, WritesPart, RunsPart}
use Rattle.vtl_script.specs.Inner.ReadItem.{with_move}
use Rattle.vtl_script.specs.Inner.RunItem.{StopsIn, RunsItems}
use Rattle.vtl_script.proofs.BehindLemmas.{text_of-append, writes_part_behind, runs_part_behind}

-- more items behind those among which a run stops
part_sooner : {P : Type 0} (answers : P → List Item → List Reply → P → Type 0) (behind more : List Item)
    (text : List ℕ) (mid : P) (before : Option (List ℕ)) (new : P) (now : Option (List ℕ))
    → WritesPart answers behind text mid before new now → WritesPart answers (behind ++ more) text mid before new now
part_sooner answers behind more text mid before new now part = record {
  item = part.item;
  rest = part.rest ++ more;
  is = ap (λ (xs : List Item). xs ++ more) part.is;
  replies = part.replies;
  answered = part.answered;
  part = part.part;
  begins = part.begins;
  written = part.written;
}

runs_sooner : {P : Type 0} (answers : P → List Item → List Reply → P → Type 0) (behind more : List Item)
    (text : List ℕ) (mid : P) (before : Option (List ℕ)) (new : P) (now : Option (List ℕ))
    → RunsPart answers behind text mid before new now → RunsPart answers (behind ++ more) text mid before new now
runs_sooner answers behind more text mid before new now part = record {
  item = part.item;
  rest = part.rest ++ more;
  is = ap (λ (xs : List Item). xs ++ more) part.is;
  some = part.some;
  written = part.written;
}

pub stops_sooner : {P : Type 0} (answers : P → List Item → List Reply → P → Type 0) (behind more : List Item)
    (text : List ℕ) (mid : P) (before : Option (List ℕ)) (new : P) (now : Option (List ℕ)) (fault : ScriptFault)
    → StopsIn answers behind text mid before new now fault
    → StopsIn answers (behind ++ more) text mid before new now fault
stops_sooner answers behind more text mid before new now (BadLine reason) stops = absurd stops
stops_sooner answers behind more text mid before new now ReadFault stops = absurd stops
stops_sooner answers behind more text mid before new now WriteFault stops = part_sooner answers behind more text mid
    before new now stops
stops_sooner answers behind more text mid before new now NoMemory stops = runs_sooner answers behind more text mid
    before new now stops

-- what was written before it
stops_behind : {P : Type 0} (answers : P → List Item → List Reply → P → Type 0) (behind : List Item)
    (front text : List ℕ) (mid : P) (before during : Option (List ℕ)) (new : P) (now : Option (List ℕ))
    (fault : ScriptFault) → Appends before during front → StopsIn answers behind text mid during new now fault
    → StopsIn answers behind (front ++ text) mid before new now fault
stops_behind answers behind front text mid before during new now (BadLine reason) one stops = absurd stops
stops_behind answers behind front text mid before during new now ReadFault one stops = absurd stops
stops_behind answers behind front text mid before during new now WriteFault one stops = writes_part_behind answers
    behind front text mid before during new now one stops
stops_behind answers behind front text mid before during new now NoMemory one stops = runs_part_behind answers
    behind front text mid before during new now one stops

module _ {P : Type 0} (answers : P → List Item → List Reply → P → Type 0)
    (nothing : (runner : P) → answers runner [] [] runner)
    (on : (old mid new : P) (first rest : List Item) (replies others : List Reply) → answers old first replies mid
    → answers mid rest others new → answers old (first ++ rest) (replies ++ others) new) where
  -- an item was run in part
  pub item_not_run : (old : P) (item : Item) (before : Option (List ℕ)) (new : P) → AnswersSome answers old item new
      → RunsItems answers old (item ∷ []) before new before (Err NoMemory)
  item_not_run old item before new some = record {
    first = [];
    behind = item ∷ [];
    are = refl;
    replies = [];
    mid = old;
    answered = nothing old;
    stops = record { item = item; rest = []; is = refl; some = some; written = Appends-nil before };
  }

  -- it was run, and a write failed
  item_written_in_part : (old : P) (item : Item) (before : Option (List ℕ)) (new : P) (now : Option (List ℕ))
      (replies : List Reply) → answers old (item ∷ []) replies new → AppendsPart before now (text_of replies)
      → RunsItems answers old (item ∷ []) before new now (Err WriteFault)
  item_written_in_part old item before new now replies answered written = record {
    first = [];
    behind = item ∷ [];
    are = refl;
    replies = [];
    mid = old;
    answered = nothing old;
    stops = record {
      item = item;
      rest = [];
      is = refl;
      replies = replies;
      answered = answered;
      part = written.0;
      begins = written.1;
      written = written.2;
    };
  }

  -- it was run, and its replies were written, or not all of them
  pub item_run : (old : P) (item : Item) (before : Option (List ℕ)) (new : P) (now : Option (List ℕ))
      (replies : List Reply) (result : Result (Unit {0}) ScriptFault) → answers old (item ∷ []) replies new
      → OnOk result (Appends before now (text_of replies)) → IfErr result (λ fault. fault ≡ WriteFault)
      → OnErr result (AppendsPart before now (text_of replies))
      → RunsItems answers old (item ∷ []) before new now result
  item_run old item before new now replies (Ok done) answered written cause part =
      record { replies = replies; answered = answered; written = written }
  item_run old item before new now replies (Err fault) answered written is part =
      rw is (item_written_in_part old item before new now replies answered part)

  -- some items were run, and then others
  pub runs_on : (old : P) (first rest : List Item) (before during now : Option (List ℕ)) (mid new : P)
      (result : Result (Unit {0}) ScriptFault) → RunsItems answers old first before mid during (Ok tt)
      → RunsItems answers mid rest during new now result → RunsItems answers old (first ++ rest) before new now result
  runs_on old first rest before during now mid new (Ok done) one two = record {
    replies = one.replies ++ two.replies;
    answered = on old mid new first rest one.replies two.replies one.answered two.answered;
    written = rw (text_of-append one.replies two.replies)
        (Appends-trans before during now (text_of one.replies) (text_of two.replies) one.written two.written);
  }
  runs_on old first rest before during now mid new (Err fault) one two = record {
    first = first ++ two.first;
    behind = two.behind;
    are = ap (λ (xs : List Item). first ++ xs) two.are ∙ sym (append_assoc first two.first two.behind);
    replies = one.replies ++ two.replies;
    mid = two.mid;
    answered = on old mid two.mid first two.first one.replies two.replies one.answered two.answered;
    stops = rw (text_of-append one.replies two.replies)
        (stops_behind answers two.behind (text_of one.replies) (text_of two.replies) two.mid before during new now fault
        one.written two.stops);
  }

  -- a phase was not all run or not all answered, and so not the move behind it
  pub phase_not_run : (old : P) (phase : Item) (moved : Option Item) (before : Option (List ℕ)) (new : P)
      (now : Option (List ℕ)) (fault : ScriptFault) → RunsItems answers old (phase ∷ []) before new now (Err fault)
      → RunsItems answers old (with_move phase moved) before new now (Err fault)
  phase_not_run old phase None before new now fault one = one
  phase_not_run old phase (Some moved) before new now fault one = record {
    first = one.first;
    behind = one.behind ++ moved ∷ [];
    are = ap (λ (xs : List Item). xs ++ moved ∷ []) one.are ∙ append_assoc one.first one.behind (moved ∷ []);
    replies = one.replies;
    mid = one.mid;
    answered = one.answered;
    stops = stops_sooner answers one.behind (moved ∷ []) (text_of one.replies) one.mid before new now fault one.stops;
  }
