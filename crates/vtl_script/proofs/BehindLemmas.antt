-- What a script runs and writes: its first items, and then the others.
use Rattle.std.proofs.Common.{◌≡◌, ℕ, Bool, true, false, List, [], ◌++◌, Option, Some, None, IfSome, refl, sym, ap, ◌∙◌, append_assoc}
use Rattle.std.proofs.lemmas.List.{append-nil}
use Rattle.std.proofs.lemmas.Grind.{flat_map-append}
use Rattle.std.proofs.KnownBytes.{Appends-trans}
use Rattle.std.specs.Io.KnownBytes.{Appends, Consumes}
use Rattle.scsi_sense.specs.declared.replies.Reply.{Reply}
use Rattle.vtl_script.specs.declared.items.Item.{Item}
use Rattle.vtl_script.specs.declared.lines.ParsedLine.{ParsedLine}
use Rattle.vtl_script.specs.Parsed.{parsed_lines}
use Rattle.vtl_script.specs.Items.{items_to_run}
use Rattle.vtl_script.specs.Text.{reply_text, text_of}
use Rattle.vtl_script.specs.Runs.{WritesPart, RunsPart}
use Rattle.vtl_script.specs.Inner.Reading.{LineReading}
use Rattle.vtl_script.specs.Inner.ReadItem.{rest_of, ParsesFirst, AreItems, ReadsLines}
use Rattle.vtl_script.proofs.LineLemmas.{at_end}

-- what is read, and then the rest that is known
pub known_on : (left left' : Option (List ℕ)) (read text : List ℕ) → Consumes left left' read
    → IfSome left' (λ all. text ≡ all) → IfSome left (λ all. read ++ text ≡ all)
known_on None left' read text taken known = tt
known_on (Some xs) None read text taken known = absurd taken
known_on (Some xs) (Some ys) read text taken known = ap (λ (rest : List ℕ). read ++ rest) known ∙ sym taken

pub known_rest : (left : Option (List ℕ)) → IfSome left (λ all. rest_of left ≡ all)
known_rest None = tt
known_rest (Some xs) = refl

pub text_of-append : (first rest : List Reply) → text_of (first ++ rest) ≡ text_of first ++ text_of rest
text_of-append first rest = flat_map-append reply_text first rest

-- the items behind some items
pub items_behind : (front parsed_list : List ParsedLine) (items more : List Item)
    → items_to_run (front ++ parsed_list) ≡ items ++ items_to_run parsed_list → more ≡ items_to_run parsed_list
    → items ++ more ≡ items_to_run (front ++ parsed_list)
items_behind front parsed_list items more to_run is = ap (λ (xs : List Item). items ++ xs) is ∙ sym to_run

pub first_behind : (front parsed_list : List ParsedLine) (items more behind : List Item)
    → items_to_run (front ++ parsed_list) ≡ items ++ items_to_run parsed_list
    → items_to_run parsed_list ≡ more ++ behind → items_to_run (front ++ parsed_list) ≡ (items ++ more) ++ behind
first_behind front parsed_list items more behind to_run is =
    to_run ∙ ap (λ (xs : List Item). items ++ xs) is ∙ sym (append_assoc items more behind)

-- what is written behind some replies
longer : (before during now : Option (List ℕ)) (front text part : List ℕ) → Appends before during front
    → Appends during now (text ++ part) → Appends before now ((front ++ text) ++ part)
longer before during now front text part one two =
    rw (append_assoc front text part) (Appends-trans before during now front (text ++ part) one two)

pub writes_part_behind : {P : Type 0} (answers : P → List Item → List Reply → P → Type 0) (behind : List Item)
    (front text : List ℕ) (mid : P) (before during : Option (List ℕ)) (new : P) (now : Option (List ℕ))
    → Appends before during front → WritesPart answers behind text mid during new now
    → WritesPart answers behind (front ++ text) mid before new now
writes_part_behind answers behind front text mid before during new now one two = record {
  item = two.item;
  rest = two.rest;
  is = two.is;
  replies = two.replies;
  answered = two.answered;
  part = two.part;
  begins = two.begins;
  written = longer before during now front text two.part one two.written;
}

pub runs_part_behind : {P : Type 0} (answers : P → List Item → List Reply → P → Type 0) (behind : List Item)
    (front text : List ℕ) (mid : P) (before during : Option (List ℕ)) (new : P) (now : Option (List ℕ))
    → Appends before during front → RunsPart answers behind text mid during new now
    → RunsPart answers behind (front ++ text) mid before new now
runs_part_behind answers behind front text mid before during new now one two = record {
  item = two.item;
  rest = two.rest;
  is = two.is;
  some = two.some;
  written = Appends-trans before during now front text one two.written;
}

-- some items that were read are the first of those that a script runs
first_of_items : (is_last : Bool) (parsed_list all behind : List ParsedLine) (items : List Item)
    → all ≡ parsed_list ++ behind → (is_last ≡ true → behind ≡ []) → AreItems is_last parsed_list items
    → (rest : List Item) × (items_to_run all ≡ items ++ rest)
first_of_items true parsed_list all behind items is last are =
    let whole : all ≡ parsed_list = is ∙ ap (λ (xs : List ParsedLine). parsed_list ++ xs) (last refl)
    ∙ append-nil parsed_list in
    (are.0, ap items_to_run whole ∙ are.1)
first_of_items false parsed_list all behind items is last are =
    (items_to_run behind, ap items_to_run is ∙ are behind)

lines_behind : (is_configured : ℕ → Bool) (is_last : Bool) (text read : List ℕ) (parsed_list : List ParsedLine)
    (unread : List ℕ) (left : Option (List ℕ))
    → ParsesFirst is_configured is_last (text ++ read) parsed_list unread left
    → (behind : List ParsedLine)
    × (parsed_lines is_configured (text ++ (read ++ rest_of left)) ≡ parsed_list ++ behind)
    × (is_last ≡ true → behind ≡ [])
lines_behind is_configured true text read parsed_list unread left says = (
  [],
  ap (parsed_lines is_configured)
      (sym (append_assoc text read (rest_of left)) ∙ ap (λ (xs : List ℕ). (text ++ read) ++ xs) (at_end left says.0)
      ∙ append-nil (text ++ read)) ∙ says.1 ∙ sym (append-nil parsed_list),
  λ is. refl,
)
lines_behind is_configured false text read parsed_list unread left says = (
  parsed_lines is_configured (unread ++ rest_of left),
  ap (parsed_lines is_configured)
      (sym (append_assoc text read (rest_of left))) ∙ says (rest_of left),
  λ is. absurd (cc),
)

pub in_script : (is_configured : ℕ → Bool) (left left' : Option (List ℕ)) (old new : LineReading) (is_last : Bool)
    (items : List Item) → (reads : ReadsLines is_configured left old left' new is_last items)
    → (rest : List Item)
    × (items_to_run (parsed_lines is_configured (old.unread ++ (reads.read ++ rest_of left'))) ≡ items ++ rest)
in_script is_configured left left' old new is_last items reads =
    let behind = lines_behind is_configured is_last old.unread reads.read reads.parsed_list new.unread left' reads.says
    in
    first_of_items is_last reads.parsed_list (parsed_lines is_configured (old.unread ++ (reads.read ++ rest_of left')))
    behind.0 items behind.1 behind.2 reads.are_items
