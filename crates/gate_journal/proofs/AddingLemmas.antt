-- The calls that write a frame behind its gate, one after another: what a crash may leave, and what reads return then.
use Rattle.std.proofs.Common.{◌≡◌, ℕ, ◌+◌, ◌≤◌, List, [], ◌∷◌, ◌++◌, length, sym, ◌∙◌, ap, subst, arith, append_assoc, length-append, Result}
use Rattle.vtl_base.specs.declared.faults.DevFault.{DevFault}
use Rattle.tape_disk.specs.Disk.{DiskState, Elapses, IsDisk, Only, Smeared, Syncs, Writes, overwritten}
use Rattle.tape_disk.specs.Moments.{LeavesOnly, weakened}
use Rattle.gate_journal.specs.Side.{CLOSED, OPEN}
use Rattle.gate_journal.specs.Inner.Writing.{Gathers, Touched}
use Rattle.gate_journal.proofs.LaidLemmas.{laid_on, none_laid, overwritten_on, synced_on}
use Rattle.gate_journal.proofs.Writing.{after_sync, after_write}

-- the parts, then what is gathered with the closed gate, then a sync
module _ (all : List ℕ) (from : ℕ) (d1 d2 : DiskState) (is1 : IsDisk d1)
    (run : LeavesOnly d1 d2 (Touched from (length all) d1.may_leave)) where
  abbrev n : ℕ
  n = length (all ++ CLOSED ∷ [])

  abbrev T : List ℕ → Type 0
  T = Touched from n d1.may_leave

  pub parts_laid : LeavesOnly d1 d2 T
  parts_laid =
      laid_on from n d1 d1 is1 (none_laid from n d1 is1) d2 from (length all) (omega arith)
      (omega (arith, length-append all (CLOSED ∷ []))) run

  module _ (is2 : IsDisk d2) (at : ℕ) (gathered last : List ℕ) (g : Gathers from at all gathered d1 d2)
      (held : last ≡ gathered ++ CLOSED ∷ []) (d3 : DiskState) (r : Result Unit DevFault)
      (w : Writes at last r d2 d3) (time : Elapses d2 d3) where
    pub rest_laid : LeavesOnly d1 d3 T
    rest_laid =
        laid_on from n d1 d2 is2 parts_laid d3 at (length last) (omega (arith, g.at_is))
        (omega (
          arith,
          g.at_is,
          ap (λ (l : List ℕ). length l) g.all,
          length-append g.written gathered,
          ap (λ (l : List ℕ). length l) held,
          length-append gathered (CLOSED ∷ []),
          length-append all (CLOSED ∷ []),
        ))
        (after_write at last d2 d3 is2 r w time)

    pub all_laid : IsDisk d3 → (d4 : DiskState) (q : Result Unit DevFault) → Syncs q d3 d4 → Elapses d3 d4
        → LeavesOnly d1 d4 T
    all_laid is3 d4 q s time2 = synced_on from n d1 d3 is3 rest_laid d4 q s time2

-- what reads return then: all the bytes with the closed gate
pub all_stored : (all gathered last : List ℕ) (from at : ℕ) (d1 d2 d3 : DiskState) → from ≤ length d1.seen
    → (g : Gathers from at all gathered d1 d2) → last ≡ gathered ++ CLOSED ∷ []
    → d2.seen ≡ overwritten from g.written d1.seen → d3.seen ≡ overwritten at last d2.seen
    → d3.seen ≡ overwritten from (all ++ CLOSED ∷ []) d1.seen
all_stored all gathered last from at d1 d2 d3 place g held begun written =
    let whole : g.written ++ last ≡ all ++ CLOSED ∷ [] =
    ap (λ (l : List ℕ). g.written ++ l) held
    ∙ sym (append_assoc g.written gathered (CLOSED ∷ []))
    ∙ ap (λ (l : List ℕ). l ++ CLOSED ∷ []) (sym g.all) in
    written
    ∙ ap (λ (l : List ℕ). overwritten at last l) begun
    ∙ ap (λ (p : ℕ). overwritten p last (overwritten from g.written d1.seen)) g.at_is
    ∙ overwritten_on from g.written last d1.seen place
    ∙ ap (λ (l : List ℕ). overwritten from l d1.seen) whole

-- a sync at Ok changes nothing that reads return, and a crash leaves just that
pub made_sure : (d3 d4 : DiskState) → IsDisk d4 → Only d3.seen d4.may_leave
    → (d4.seen ≡ d3.seen) × Only d4.seen d4.may_leave
made_sure d3 d4 is only =
    let same : d4.seen ≡ d3.seen = only d4.seen is.reads in
    (same, λ (image : List ℕ) left. only image left ∙ sym same)

-- the open gate, and a sync
module _ (end : ℕ) (d4 d5 : DiskState) (is4 : IsDisk d4) (sure : Only d4.seen d4.may_leave)
    (r : Result Unit DevFault) (w : Writes end (OPEN ∷ []) r d4 d5) (time : Elapses d4 d5) where
  only_gate : (image : List ℕ) → Touched end 1 d4.may_leave image → Smeared end 1 d4.seen image
  only_gate image t = subst (λ (l : List ℕ). Smeared end 1 l image) (sure t.0 t.1) t.2

  pub gate_laid : LeavesOnly d4 d5 (Smeared end 1 d4.seen)
  gate_laid =
      weakened d4 d5 (Touched end 1 d4.may_leave) (Smeared end 1 d4.seen)
      (after_write end (OPEN ∷ []) d4 d5 is4 r w time) only_gate

  pub gate_synced : (d6 : DiskState) (q : Result Unit DevFault) → Syncs q d5 d6 → Elapses d5 d6
      → LeavesOnly d4 d6 (Smeared end 1 d4.seen)
  gate_synced d6 q s time2 =
      weakened d4 d6 (Touched end 1 d4.may_leave) (Smeared end 1 d4.seen)
      (after_sync end (OPEN ∷ []) d4 d5 is4 r w time d6 q s time2) only_gate
