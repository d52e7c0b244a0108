-- What writes at places one behind the other leave, before a sync.
use Rattle.std.proofs.Common.{◌≡◌, ℕ, zero, suc, ◌+◌, ◌-◌, ◌≤◌, List, [], ◌∷◌, ◌++◌, length, take, drop, refl, sym, ◌∙◌, ap, subst, arith, append_assoc, length-append, take-append-drop, Result}
use Rattle.std.proofs.lemmas.List.{append-nil, drop-drop, length-take-le, drop_at}
use Rattle.vtl_base.specs.declared.faults.DevFault.{DevFault}
use Rattle.tape_disk.specs.Disk.{DiskState, Elapses, IsDisk, IsPrefixOf, Smeared, Writes, Syncs, overwritten}
use Rattle.tape_disk.specs.Moments.{LeavesOnly, holds_now, in_sequence, no_call, one_more_call, weakened}
use Rattle.gate_journal.specs.Inner.Writing.{Gathers, Touched}
use Rattle.gate_journal.proofs.Smears.{written}
use Rattle.gate_journal.proofs.Writing.{after_write, untouched}

-- a first part of bytes, cut at its front, is a first part of them cut so
drop_begins : (k : ℕ) (xs ys : List ℕ) → IsPrefixOf xs ys → IsPrefixOf (drop k xs) (drop k ys)
drop_begins k xs ys is = subst (λ (l : List ℕ). IsPrefixOf (drop k xs) (drop k l)) (sym is.1) (begins k xs is.0)
  where
    begins : (k : ℕ) (xs rest : List ℕ) → IsPrefixOf (drop k xs) (drop k (xs ++ rest))
    begins zero xs rest = (rest, refl)
    begins (suc k) [] rest = (drop (suc k) rest, refl)
    begins (suc k) (x ∷ xs) rest = begins k xs rest

-- bytes begin with a short first part of them, also where they are cut behind it
take_begins : (p : ℕ) (xs ys : List ℕ) → length xs ≤ p → IsPrefixOf xs ys → IsPrefixOf xs (take p ys)
take_begins p xs ys short is = subst (λ (l : List ℕ). IsPrefixOf xs (take p l)) (sym is.1) (begins p xs is.0 short)
  where
    begins : (p : ℕ) (xs rest : List ℕ) → length xs ≤ p → IsPrefixOf xs (take p (xs ++ rest))
    begins p [] rest short = (take p rest, refl)
    begins zero (x ∷ xs) rest short = absurd (omega (arith, short))
    begins (suc p) (x ∷ xs) rest short =
        let more = begins p xs rest (omega (arith, short)) in
        (more.0, ap (λ (l : List ℕ). x ∷ l) more.1)

begins_on : (xs ys zs : List ℕ) → IsPrefixOf xs ys → IsPrefixOf ys zs → IsPrefixOf xs zs
begins_on xs ys zs one other =
    (one.0 ++ other.0, other.1 ∙ ap (λ (l : List ℕ). l ++ other.0) one.1 ∙ append_assoc xs one.0 other.0)

-- a write inside the range of another one leaves what that one might have left
pub smeared_on : (at n p m : ℕ) (one two three : List ℕ) → at ≤ p → p + m ≤ at + n → Smeared at n one two
    → Smeared p m two three → Smeared at n one three
smeared_on at n p m one two three first last a b = record {
  before =
      begins_on (take at one) (take p two) three
      (take_begins p (take at one) two (omega (arith, short at one, first)) a.before) b.before;
  after =
      begins_on (drop (at + n) one) (drop (at + n) two) (drop (at + n) three) a.after
      (subst (λ (e : ℕ). IsPrefixOf (drop e two) (drop e three)) whole
      (subst (λ (l : List ℕ). IsPrefixOf l (drop (p + m + k) three)) (drop-drop k (p + m) two)
      (subst (λ (l : List ℕ). IsPrefixOf (drop k (drop (p + m) two)) l) (drop-drop k (p + m) three)
      (drop_begins k (drop (p + m) two) (drop (p + m) three) b.after))));
  no_shorter = omega (arith, a.no_shorter, b.no_shorter);
}
  where
    k : ℕ
    k = at + n - (p + m)

    whole : p + m + k ≡ at + n
    whole = omega (arith, last)

    short : (n : ℕ) (xs : List ℕ) → length (take n xs) ≤ n
    short zero xs = omega arith
    short (suc n) [] = omega arith
    short (suc n) (x ∷ xs) = omega (arith, short n xs)

-- bytes written behind others are written with them
pub overwritten_on : (at : ℕ) (a b old : List ℕ) → at ≤ length old
    → overwritten (at + length a) b (overwritten at a old) ≡ overwritten at (a ++ b) old
overwritten_on at a b old inside =
    let front = take at old ++ a in
    let rest = drop (at + length a) old in
    let here : length front ≡ at + length a =
    omega (arith, length-append (take at old) a, length-take-le at old inside) in
    written front rest (at + length a) here b (overwritten (at + length a) b (front ++ rest)) refl
    ∙ ap (λ (l : List ℕ). front ++ b ++ l) (behind front rest here)
    ∙ ap (λ (l : List ℕ). l ++ drop (at + length (a ++ b)) old) (append_assoc (take at old) a b)
  where
    behind : (front rest : List ℕ) → length front ≡ at + length a
        → drop (at + length a + length b) (front ++ drop (at + length a) old) ≡ drop (at + length (a ++ b)) old
    behind front rest here =
        sym (drop-drop (length b) (at + length a) (front ++ drop (at + length a) old))
        ∙ ap (λ (l : List ℕ). drop (length b) l) (drop_at front (drop (at + length a) old) (at + length a) here)
        ∙ drop-drop (length b) (at + length a) old
        ∙ ap (λ (e : ℕ). drop e old) (omega (arith, length-append a b))

module _ (from n : ℕ) (d0 d1 : DiskState) (is : IsDisk d1)
    (run : LeavesOnly d0 d1 (Touched from n d0.may_leave)) where
  abbrev T : List ℕ → Type 0
  T = Touched from n d0.may_leave

  -- the same once more is written, inside the range
  pub laid_on : (d2 : DiskState) (p m : ℕ) → from ≤ p → p + m ≤ from + n
      → LeavesOnly d1 d2 (Touched p m d1.may_leave) → LeavesOnly d0 d2 T
  laid_on d2 p m first last more =
      in_sequence d0 d1 d2 T run
      (weakened d1 d2 (Touched p m d1.may_leave) T more
      (λ image t.
      let before = holds_now d0 d1 T is run t.0 t.1 in
      (before.0, before.1, smeared_on from n p m before.0 t.0 image first last before.2 t.2)))

  -- and after a sync
  pub synced_on : (d2 : DiskState) (r : Result Unit DevFault) → Syncs r d1 d2 → Elapses d1 d2 → LeavesOnly d0 d2 T
  synced_on d2 r s time =
      one_more_call d0 d1 d2 T run time (λ image left. holds_now d0 d1 T is run image (s.crash image left))

-- nothing was written yet
pub none_laid : (from n : ℕ) (d : DiskState) → IsDisk d → LeavesOnly d d (Touched from n d.may_leave)
none_laid from n d is = no_call d (Touched from n d.may_leave) is (λ image left. (image, left, untouched from n image))

-- one write, in a range that begins there
pub one_laid : (at n : ℕ) (bytes : List ℕ) (d0 d1 : DiskState) (disk : IsDisk d0) (r : Result Unit DevFault)
    → Writes at bytes r d0 d1 → Elapses d0 d1 → length bytes ≤ n → LeavesOnly d0 d1 (Touched at n d0.may_leave)
one_laid at n bytes d0 d1 disk r w time fits =
    laid_on at n d0 d0 disk (none_laid at n d0 disk) d1 at (length bytes) (omega arith) (omega (arith, fits))
    (after_write at bytes d0 d1 disk r w time)

-- nothing is written over
pub nothing_over : (at : ℕ) (old : List ℕ) → old ≡ overwritten at [] old
nothing_over at old =
    sym (ap (λ (l : List ℕ). l ++ drop (at + 0) old) (append-nil (take at old))
    ∙ ap (λ (e : ℕ). take at old ++ drop e old) (omega arith) ∙ take-append-drop at old)

-- what is gathered next, behind what was gathered
pub gathers_on : (from at here : ℕ) (all more bytes next gathered : List ℕ) (whole : List ℕ) (d0 d1 d2 : DiskState)
    → Gathers from at all bytes d0 d1 → Gathers at here next gathered d1 d2 → (d0.honest → d1.honest)
    → (d0.honest → from ≤ length d0.seen) → next ≡ bytes ++ more → whole ≡ all ++ more
    → Gathers from here whole gathered d0 d2
gathers_on from at here all more bytes next gathered whole d0 d1 d2 one other stays place next_is whole_is = record {
  written = one.written ++ other.written;
  all =
      whole_is ∙ ap (λ (l : List ℕ). l ++ more) one.all ∙ append_assoc one.written bytes more
      ∙ ap (λ (l : List ℕ). one.written ++ l) (sym next_is ∙ other.all)
      ∙ sym (append_assoc one.written other.written gathered);
  at_is = omega (arith, one.at_is, other.at_is, length-append one.written other.written);
  seen = λ h.
      other.seen (stays h)
      ∙ ap (λ (l : List ℕ). overwritten at other.written l) (one.seen h)
      ∙ ap (λ (p : ℕ). overwritten p other.written (overwritten from one.written d0.seen)) one.at_is
      ∙ overwritten_on from one.written other.written d0.seen (place h);
}
