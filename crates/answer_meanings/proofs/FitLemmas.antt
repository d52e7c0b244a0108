-- How long the lines are.
use Rattle.std.proofs.Common.{ℕ, ◌<◌, ◌≤◌, ◌+◌, ◌^◌, List, [], ◌++◌, length, arith, length-append, true, false, cond}
use Rattle.std.specs.Prelude.{codes, Some, decimal, ◌==◌, ◌-◌, nat_lt}
use Rattle.std.proofs.lemmas.Fmt.{length-decimal-le}
use Rattle.answer_meanings.specs.Laws.{FitsALine}
use Rattle.answer_meanings.specs.SenseTexts.{left, rest, size, difference, sense_line}
use Rattle.scsi_sense.specs.declared.sense_data.Sense.{Sense}
use Rattle.answer_meanings.specs.declared.sense_texts.Counted.{Counted}
use Rattle.answer_meanings.specs.declared.sense_texts.Counted.TheVariants.{Bytes, Blocks, Filemarks}

number_fits : (n : ℕ) → n < 2 ^ 32 → length (decimal n) ≤ 10
number_fits n small = length-decimal-le 10 n (omega arith) (omega (arith, small)) (omega (arith, small))

line_fits : (text : List ℕ) → length text ≤ 103 → (line : ℕ) → line < 10 ^ 10
    → length (codes "line " ++ (decimal line ++ (codes ": " ++ text))) ≤ 120
line_fits text short line small = omega (
  arith,
  short,
  length-append (decimal line) (codes ": " ++ text),
  length-decimal-le 10 line (omega arith) small (omega (arith, small)),
)

-- sense data whose text has at most 103 columns fit a line
pub by_text : (sense : Sense) → ((counted : Counted) → length (sense_line sense counted) ≤ 103) → FitsALine sense
by_text sense short line counted small = line_fits (sense_line sense counted) (short counted) line small

left_fits : (n : ℕ) (counted : Counted) → n < 2 ^ 32 → length (left n counted) ≤ 43
left_fits n Bytes small = elim (n == 1) as
    (λ b. length (cond b (codes "1 byte of the length was left")
    (decimal n ++ codes " bytes of the length were left")) ≤ 43) [
      | true ↦ omega arith
      | false ↦ omega
          (arith, number_fits n small, length-append (decimal n) (codes " bytes of the length were left"))
    ]
left_fits n Blocks small = elim (n == 1) as
    (λ b. length (cond b (codes "1 block of the count was left")
    (decimal n ++ codes " blocks of the count were left")) ≤ 43) [
      | true ↦ omega arith
      | false ↦ omega
          (arith, number_fits n small, length-append (decimal n) (codes " blocks of the count were left"))
    ]
left_fits n Filemarks small = elim (n == 1) as
    (λ b. length (cond b (codes "1 filemark of the count was left")
    (decimal n ++ codes " filemarks of the count were left")) ≤ 43) [
      | true ↦ omega arith
      | false ↦ omega
          (arith, number_fits n small, length-append (decimal n) (codes " filemarks of the count were left"))
    ]

pub rest_fits : (n : ℕ) (counted : Counted) → n < 2 ^ 32 → length (rest (Some n) false counted) ≤ 45
rest_fits n counted small = elim (n == 0) as
    (λ b. length (cond b [] (codes ", " ++ left n counted)) ≤ 45)
    [ true ↦ omega arith | false ↦ omega (arith, left_fits n counted small) ]

size_fits : (n : ℕ) → n ≤ 2 ^ 32 → length (size n) ≤ 16
size_fits n small = elim (n == 1) as
    (λ b. length (cond b (codes "1 byte") (decimal n ++ codes " bytes")) ≤ 16) [
      | true ↦ omega arith
      | false ↦ omega (
        arith,
        length-decimal-le 10 n (omega arith) (omega (arith, small)) (omega (arith, small)),
        length-append (decimal n) (codes " bytes"),
      )
    ]

difference_fits : (n : ℕ) → n < 2 ^ 32 → length (difference n) ≤ 32
difference_fits n small = elim (nat_lt n (2 ^ 31)) as
    (λ b. length (cond b (codes ", it is " ++ size n ++ codes " shorter")
    (codes ", it is " ++ size (2 ^ 32 - n) ++ codes " longer")) ≤ 32) [
      | true ↦ omega (arith, size_fits n (omega (arith, small)), length-append (size n) (codes " shorter"))
      | false ↦ omega
          (arith, size_fits (2 ^ 32 - n) (omega arith), length-append (size (2 ^ 32 - n)) (codes " longer"))
    ]

pub length_rest_fits : (n : ℕ) (counted : Counted) → n < 2 ^ 32 → length (rest (Some n) true counted) ≤ 45
length_rest_fits n counted small = elim (n == 0) as
    (λ b. length (cond b [] (difference n)) ≤ 45)
    [ true ↦ omega arith | false ↦ omega (arith, difference_fits n small) ]

-- words, what was left, and the brackets
pub around : (before middle behind : List ℕ) → length middle ≤ 45 → length before + length behind ≤ 58
    → length (before ++ (middle ++ behind)) ≤ 103
around before middle behind short sum = omega
    (arith, short, sum, length-append before (middle ++ behind), length-append middle behind)
