use Rattle.std.proofs.Common.{◌≡◌, inl, inr, ℕ, List, ◌++◌, ◌+◌, ◌-◌, ◌≤◌, length, get_or, take, replicate, arith, sym, ◌∙◌, ap, length-append}
use Rattle.std.specs.Prelude.{slice_range}
use Rattle.std.proofs.lemmas.List.{get_or_append_left, get_or-take, length-take-le, take_at}
use Rattle.std.proofs.lemmas.Slice.{take-put_mid}
use borrow.Rule.Slice.PartMut.{mid_len, post_of, put_mid}
use Rattle.gate_journal.specs.Inner.Reading.{size_behind}
use Rattle.gate_journal.specs.Reads.{reads_one, reads_then}
use Rattle.gate_journal.proofs.Walks.{too_short, begins_with}
use Rattle.gate_journal.proofs.reading.read_bytes.Goals as goal

-- a read of the first bytes, followed by others
module _ (read more : List ℕ) (sized : length read ≡ 27) where
  abbrev parsed : ℕ
  parsed = get_or (read ++ more) 10 0

  count_read : (image : List ℕ) → read ≡ slice_range image 0 27 → parsed ≡ get_or image 10 0
  count_read image is =
      get_or_append_left read more 0 10 (omega (arith, sized)) ∙ ap (λ (l : List ℕ). get_or l 10 0) is
      ∙ get_or-take 27 image 10 0 (omega arith)

  -- and a second read of `count` bytes, after the first
  module _ (second : List ℕ) (count : ℕ) where
    abbrev filled : List ℕ
    filled = put_mid 27 (27 + count - 27) (read ++ more) second

    enough : 27 ≤ length (read ++ more)
    enough = omega (arith, sized, length-append read more)

    count_stays : parsed ≡ get_or filled 10 0
    count_stays =
        sym (get_or-take 27 (read ++ more) 10 0 (omega arith))
        ∙ sym (get_or_append_left (take 27 (read ++ more)) (second ++ post_of 27 (27 + count - 27) (read ++ more))
        0 10 (omega (arith, length-take-le 27 (read ++ more) enough)))

    front_is : length second ≡ count → take (27 + count) filled ≡ read ++ second
    front_is long =
        take-put_mid 27 (27 + count - 27) (read ++ more) second (27 + count) (omega (arith, long)) enough
        ∙ ap (λ (l : List ℕ). l ++ second) (take_at read more 27 sized)

pub returns-then-more-clause-answer : goal.returns-then-more-clause-answer
returns-then-more-clause-answer g c = (
  c.in_ok-read_at.ensures.passes.none_failed,
  λ honest.
      let seen = (g.D.Disk.state c.args.disk.now).seen in
      let read = c.read_at.new.buffer in
      too_short seen (parsed read (replicate 48 0) c.read_at.auto.buffer)
      (count_read read (replicate 48 0) c.read_at.auto.buffer seen (c.in_ok-read_at.ensures.bytes honest))
      (inr (omega (arith, c.size_behind-more.ensures, c.if-more.true))),
)

pub returns-then-size-more-clause-answer : goal.returns-then-size-more-clause-answer
returns-then-size-more-clause-answer g c = (
  c.in_ok-read_at.ensures.passes.none_failed,
  λ honest.
      let seen = (g.D.Disk.state c.args.disk.now).seen in
      let read = c.read_at.new.buffer in
      too_short seen (parsed read (replicate 48 0) c.read_at.auto.buffer)
      (count_read read (replicate 48 0) c.read_at.auto.buffer seen (c.in_ok-read_at.ensures.bytes honest))
      (inl (omega (arith, c.size_behind-more.ensures, c.if-size-more.true, c.len-size.ensures.length honest))),
)

pub returns-in_err-read_at-2-clause-reads : goal.returns-in_err-read_at-2-clause-reads
returns-in_err-read_at-2-clause-reads g c =
    let more : List ℕ = replicate 48 0 in
    let read = c.read_at.new.buffer in
    let count : ℕ = c.size_behind-more.result in
    let few : count ≤ 48 = c.if-more.false in
    let roomy : 27 + count ≤ length (read ++ more) =
    omega (arith, few, c.read_at.auto.buffer, length-append read more) in
    let part = mid_len 27 (27 + count) (read ++ more) roomy in
    reads_then g.D.Disk.effect _ _ _ (reads_one g.D.Disk.effect _ _ _ _ (omega arith) (_, c.read_at.ensures.effect))
    (reads_one g.D.Disk.effect _ _ _ _ (omega (arith, part, few)) (_, c.read_at-2.ensures.effect))

pub returns-clause-reads : goal.returns-clause-reads
returns-clause-reads g c =
    let more : List ℕ = replicate 48 0 in
    let read = c.read_at.new.buffer in
    let count : ℕ = c.size_behind-more.result in
    let few : count ≤ 48 = c.if-more.false in
    let roomy : 27 + count ≤ length (read ++ more) =
    omega (arith, few, c.read_at.auto.buffer, length-append read more) in
    let part = mid_len 27 (27 + count) (read ++ more) roomy in
    reads_then g.D.Disk.effect _ _ _ (reads_one g.D.Disk.effect _ _ _ _ (omega arith) (_, c.read_at.ensures.effect))
    (reads_one g.D.Disk.effect _ _ _ _ (omega (arith, part, few)) (_, c.read_at-2.ensures.effect))

pub returns-clause-answer : goal.returns-clause-answer
returns-clause-answer g c =
    let read = c.read_at.new.buffer in
    let second = c.read_at-2.new.buffer in
    let more : List ℕ = replicate 48 0 in
    let sized = c.read_at.auto.buffer in
    let count : ℕ = c.size_behind-more.result in
    let few : count ≤ 48 = c.if-more.false in
    let roomy : 27 + count ≤ length (read ++ more) = omega (arith, few, sized, length-append read more) in
    let span : 27 + count - 27 ≡ count = omega arith in
    let part = mid_len 27 (27 + count) (read ++ more) roomy ∙ span in
    let long : length second ≡ count = c.read_at-2.auto.buffer ∙ part in (
      c.in_ok-read_at-2.ensures.passes.none_failed ∙ c.in_ok-read_at.ensures.passes.none_failed,
      ap (λ (n : ℕ). 27 + n) (c.size_behind-more.ensures
          ∙ ap size_behind (count_stays read more sized second count)),
      omega (arith, few),
      λ honest.
          let seen = (g.D.Disk.state c.args.disk.now).seen in
          let later = (g.D.Disk.state c.read_at.new.self).seen in
          let honest1 = c.read_at.ensures.passes.stays_honest honest in
          let there : second ≡ slice_range later 27 (27 + count) =
          c.in_ok-read_at-2.ensures.bytes honest1 ∙ ap (λ (n : ℕ). slice_range later 27 (27 + n)) part in
          begins_with seen read second count (c.in_ok-read_at.ensures.bytes honest)
          (there ∙ ap (λ (l : List ℕ). slice_range l 27 (27 + count)) (c.read_at.ensures.same honest).seen)
          _ (front_is read more sized second count long),
    )
