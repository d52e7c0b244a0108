-- Reads and writes that are gone on with.
use Rattle.std.proofs.Common.{◌≡◌, ℕ, ◌+◌, ◌-◌, ◌<◌, ◌≤◌, List, [], ◌++◌, length, take, drop, refl, sym, ap, ◌∙◌, subst, inl, inr, arith, Ok, Err, append_assoc, length-append, take-append-drop}
use Rattle.std.specs.Prelude.{slice_range, Result, OnErr}
use Rattle.std.proofs.lemmas.List.{append-nil, drop-drop, drop-take, drop_at, length-drop, length-take, length-take-le, take-take, take_at}
use Rattle.tape_disk.specs.CallLog.{smears}
use Rattle.tape_disk.specs.Disk.{Cuts, DiskState, Elapses, Follows, IsDisk, Same, Smeared, Writes, overwritten}
use Rattle.vtl_base.specs.declared.faults.DevFault.{DevFault}
use Rattle.file_disk.specs.Inner.Transfers.{HasRead, HasTransferred}
use Rattle.file_disk.proofs.RunLemmas.{ran_none, ran_on}
use Rattle.file_disk.specs.Smears.{smeared_same, smeared_twice, smeared_wider}

-- a fact of every error
pub on_err : {T E : Type 0} (P : Type 0) (result : Result T E) → P → OnErr result P
on_err P (Ok value) fact = tt
on_err P (Err error) fact = fact

-- one call fewer is left
pub calls_on : (all left : ℕ) → 0 < left → left ≤ all → all - left + 1 ≡ all - (left - 1)
calls_on all left some within = omega (arith, some, within)

-- the bytes of a range, by its length
pub range_of : (xs : List ℕ) (at n : ℕ) → slice_range xs at (at + n) ≡ take n (drop at xs)
range_of xs at n = ap (λ (m : ℕ). take m (drop at xs)) (let size : at + n - at ≡ n = omega arith in size)

-- the first m and n more
pub take_sum : (m n : ℕ) (xs : List ℕ) → take (m + n) xs ≡ take m xs ++ take n (drop m xs)
take_sum m n xs = sym (take-append-drop m (take (m + n) xs))
    ∙ ap (λ (l : List ℕ). l ++ drop m (take (m + n) xs)) (take-take m (m + n) xs (omega arith))
    ∙ ap (λ (l : List ℕ). take m xs ++ l) (drop-take m n xs)

-- one call more has read: the front stays, and behind it stand the bytes that come next
pub read_behind : (seen old front rest : List ℕ) (at done count : ℕ) → done ≤ length old → front ≡ take done old
    → take done old ≡ slice_range seen at (at + done)
    → take count rest ≡ slice_range seen (at + done) (at + done + count)
    → take (done + count) (front ++ rest) ≡ slice_range seen at (at + (done + count))
read_behind seen old front rest at done count inside is_front before behind =
    let size : length front ≡ done = ap length is_front ∙ length-take-le done old inside in
    take_sum done count (front ++ rest)
    ∙ ap (λ (l : List ℕ). l ++ take count (drop done (front ++ rest)))
    (take_at front rest done size ∙ is_front ∙ before ∙ range_of seen at done)
    ∙ ap (λ (l : List ℕ). take done (drop at seen) ++ take count l) (drop_at front rest done size)
    ∙ ap (λ (l : List ℕ). take done (drop at seen) ++ l)
    (behind ∙ range_of seen (at + done) count ∙ ap (λ (l : List ℕ). take count l) (sym (drop-drop done at seen)))
    ∙ sym (take_sum done count (drop at seen))
    ∙ sym (range_of seen at (done + count))

-- nothing was read yet
pub read_none : (at : ℕ) (buffer : List ℕ) (state : DiskState) → HasRead 0 at 0 buffer state state
read_none at buffer state = record {
  ran = ran_none state;
  same = record { seen = refl; crash = λ image left. left };
  bytes = sym (range_of state.seen at 0);
}

module _ (calls at done count : ℕ) (buffer buffer' : List ℕ) (old mid new : DiskState) where
  -- one call more
  pub read_more : IsDisk old → HasRead calls at done buffer old mid → Elapses mid new → Same mid new
      → take count buffer' ≡ slice_range mid.seen at (at + count)
      → HasRead (calls + 1) at count buffer' old new
  read_more is_disk so_far time same bytes = record {
    ran = ran_on calls old mid new so_far.ran time
        (λ t image le leaves. inl (is_disk.counts_now t image le (so_far.same.crash image leaves)));
    same = record {
      seen = same.seen ∙ so_far.same.seen;
      crash = λ image left. so_far.same.crash image (same.crash image left);
    };
    bytes = bytes ∙ ap (λ (l : List ℕ). slice_range l at (at + count)) so_far.same.seen;
  }

-- a part of the bytes written behind the first of them is more of the first of them
pub overwritten_on : (at done count : ℕ) (bytes old : List ℕ) → at ≤ length old → done ≤ count → count ≤ length bytes
    → overwritten (at + done) (slice_range bytes done count) (overwritten at (take done bytes) old)
    ≡ overwritten at (take count bytes) old
overwritten_on at done count bytes old inside more within =
    let front : List ℕ = take at old ++ take done bytes in
    let tail : List ℕ = drop (at + length (take done bytes)) old in
    let part : List ℕ = slice_range bytes done count in
    let first : length (take done bytes) ≡ done = length-take-le done bytes (omega (arith, more, within)) in
    let size : length front ≡ at + done
    = omega (arith, first, length-append (take at old) (take done bytes), length-take-le at old inside) in
    let whole : take done bytes ++ part ≡ take count bytes
    = sym (take_sum done (count - done) bytes)
    ∙ ap (λ (m : ℕ). take m bytes) (let all : done + (count - done) ≡ count = omega (arith, more) in all) in
    let long : length (take done bytes) + length part ≡ length (take count bytes)
    = sym (length-append (take done bytes) part) ∙ ap length whole in
    let place : at + length (take done bytes) + length part ≡ at + length (take count bytes) = omega (arith, long) in
    ap (λ (l : List ℕ). l ++ part ++ drop (at + done + length part) (front ++ tail))
    (take_at front tail (at + done) size)
    ∙ ap (λ (l : List ℕ). front ++ part ++ l)
    (sym (drop-drop (length part) (at + done) (front ++ tail))
    ∙ ap (λ (l : List ℕ). drop (length part) l) (drop_at front tail (at + done) size)
    ∙ drop-drop (length part) (at + length (take done bytes)) old
    ∙ ap (λ (m : ℕ). drop m old) place)
    ∙ ap (λ (l : List ℕ). l ++ drop (at + length (take count bytes)) old)
    (append_assoc (take at old) (take done bytes) part ∙ ap (λ (l : List ℕ). take at old ++ l) whole)

-- the bytes that are left
abbrev pub rest_of : List ℕ → ℕ → List ℕ
rest_of bytes done = take (length bytes - done) (drop done bytes)

module _ (at done : ℕ) (bytes : List ℕ) (within : done ≤ length bytes) where
  ends : at + done + length (take (length bytes - done) (drop done bytes)) ≤ at + length bytes
  ends = omega (arith, within, length-take (length bytes - done) (drop done bytes), length-drop done bytes)

  -- what a write of the bytes that are left may have left, a write of all may have left
  pub smeared_rest : (old new : List ℕ) → Smeared (at + done) (length (rest_of bytes done)) old new
      → Smeared at (length bytes) old new
  smeared_rest old new =
      smeared_wider at (length bytes) (at + done) (length (rest_of bytes done)) (omega arith) ends old new

  pub crash_rest : (old new : List ℕ → Type 0) → Follows (Smeared (at + done) (length (rest_of bytes done))) old new
      → Follows (Smeared at (length bytes)) old new
  crash_rest old new crash image left =
      let torn = crash image left in
      (torn.0, torn.1, smeared_rest torn.0 image torn.2)

  -- some of the bytes that are left were written
  pub smeared_some : (count : ℕ) (old new : List ℕ)
      → new ≡ overwritten (at + done) (take count (rest_of bytes done)) old → Smeared at (length bytes) old new
  smeared_some count old new written =
      let part : List ℕ = take count (rest_of bytes done) in
      let fewer : length (take count (take (length bytes - done) (drop done bytes)))
      ≤ length (take (length bytes - done) (drop done bytes))
      = omega (arith, length-take count (take (length bytes - done) (drop done bytes))) in
      subst (λ (l : List ℕ). Smeared at (length bytes) old l) (sym written)
      (smeared_wider at (length bytes) (at + done) (length part) (omega arith) (omega (arith, ends, fewer)) old
      (overwritten (at + done) part old) (smears (at + done) part old))

-- nothing was written yet
pub written_none : (at : ℕ) (bytes : List ℕ) (state : DiskState) → HasTransferred 0 at 0 bytes state state
written_none at bytes state = record {
  ran = ran_none state;
  seen = sym (take-append-drop at state.seen)
      ∙ ap (λ (l : List ℕ). l ++ drop at state.seen) (sym (append-nil (take at state.seen)))
      ∙ ap (λ (m : ℕ). take at state.seen ++ [] ++ drop m state.seen) (let here : at ≡ at + 0 = omega arith in here);
  smeared = smeared_same at (length bytes) state.seen;
  crash = λ image left. (image, left, smeared_same at (length bytes) image);
  keeps = λ image left. left;
}

module _ (calls at done : ℕ) (bytes : List ℕ) (old mid new : DiskState) where
  -- what one call more leaves, whatever it answered
  pub smeared_more : HasTransferred calls at done bytes old mid → Smeared at (length bytes) mid.seen new.seen
      → Smeared at (length bytes) old.seen new.seen
  smeared_more so_far torn = smeared_twice at (length bytes) old.seen mid.seen new.seen so_far.smeared torn

  pub crash_more : HasTransferred calls at done bytes old mid
      → Follows (Smeared at (length bytes)) mid.may_leave new.may_leave
      → Follows (Smeared at (length bytes)) old.may_leave new.may_leave
  crash_more so_far crash image left =
      let last = crash image left in
      let first = so_far.crash last.0 last.1 in
      (first.0, first.1, smeared_twice at (length bytes) first.0 last.0 image first.2 last.2)

  -- one call more
  pub written_more : (count : ℕ) → at ≤ length old.seen → done ≤ count → count ≤ length bytes
      → HasTransferred calls at done bytes old mid → Elapses mid new
      → new.seen ≡ overwritten (at + done) (slice_range bytes done count) mid.seen
      → Smeared at (length bytes) mid.seen new.seen
      → Follows (Smeared at (length bytes)) mid.may_leave new.may_leave
      → ((image : List ℕ) → mid.may_leave image → new.may_leave image)
      → HasTransferred (calls + 1) at count bytes old new
  written_more count inside more within so_far time written torn crash keeps = record {
    ran = ran_on calls old mid new so_far.ran time (λ t image le leaves. inr (keeps image leaves));
    seen = written
        ∙ ap (λ (l : List ℕ). overwritten (at + done) (slice_range bytes done count) l) so_far.seen
        ∙ overwritten_on at done count bytes old.seen inside more within;
    smeared = smeared_more so_far torn;
    crash = crash_more so_far crash;
    keeps = λ image left. keeps image (so_far.keeps image left);
  }

-- a call that failed and changed nothing is a write that failed
pub not_written : (old new : DiskState) → Same old new → (fault : DevFault) (at : ℕ) (bytes : List ℕ)
    → Writes at bytes (Err fault) old new
not_written old new same fault at bytes = record {
  written = tt;
  smeared = subst (λ (l : List ℕ). Smeared at (length bytes) old.seen l) (sym same.seen)
      (smeared_same at (length bytes) old.seen);
  crash = λ image left. (image, same.crash image left, smeared_same at (length bytes) image);
}

-- a call that failed and changed nothing is a cut that failed
pub not_cut : (old new : DiskState) → Same old new → (fault : DevFault) (len : ℕ) → Cuts len (Err fault) old new
not_cut old new same fault len = record {
  done = tt;
  smeared = (drop len old.seen, same.seen ∙ sym (take-append-drop len old.seen));
  crash = λ image left. (image, same.crash image left, (drop len image, sym (take-append-drop len image)));
}
