-- A copy is written after ten bytes, and all pairs stand for the same.
use Rattle.std.proofs.Common.{◌≡◌, ℕ, ◌+◌, ◌-◌, ◌≤◌, List, ◌++◌, length, take, drop, sym, ◌∙◌, ap, subst, arith, append_assoc, take-append-drop}
use Rattle.std.specs.Prelude.{Result}
use Rattle.std.proofs.Math.Seq.{take-append-add}
use Rattle.std.proofs.lemmas.List.{append-nil, drop_all, length-append, take_all, take_at}
use Rattle.vtl_base.specs.declared.faults.DevFault.{DevFault}
use Rattle.tape_disk.specs.Disk.{Cut, Cuts, DiskState, Each, Elapses, IsDisk, IsPrefixOf, Only, Smeared, Syncs, Writes, overwritten}
use Rattle.tape_disk.specs.Moments.{LeavesOnly, holds_now, in_sequence, no_call, one_more_call, weakened}
use Rattle.gate_journal.specs.Heads.{Head}
use Rattle.cartridge_sides.specs.declared.which.Which.{Which}
use Rattle.cartridge_sides.specs.Copying.{KeepsFront}
use Rattle.cartridge_sides.specs.Passes.{ReadsClosed, SidesStandFor}
use Rattle.cartridge_sides.proofs.PassLemmas.{writing_keeps}

-- ten bytes stay through a write after them
begins_still : (front before image : List ℕ) (at n : ℕ) → length front ≡ 10 → 10 ≤ at → IsPrefixOf front before →
    Smeared at n before image → IsPrefixOf front image
begins_still front before image at n ten far (more, is) s =
    let left : ℕ = at - 10 in
    let split : at ≡ length front + left = omega (arith, ten, far) in
    let kept : take at before ≡ front ++ take left more =
    (λ i. take (split i) (is i)) ∙ take-append-add front more left in (
      take left more ++ s.before.0,
      s.before.1 ∙ ap (λ (l : List ℕ). l ++ s.before.0) kept ∙ append_assoc front (take left more) s.before.0,
    )

-- and through a cut after them
front_cut : (front before image : List ℕ) → length front ≡ 10 → IsPrefixOf front before → Cut 10 before image →
    IsPrefixOf front image
front_cut front before image ten (more, is) (rest, cut) =
    (rest, cut ∙ ap (λ (l : List ℕ). l ++ rest) (ap (λ (l : List ℕ). take 10 l) is ∙ take_at front more 10 ten))

-- a disk whose images all begin with ten bytes has at least ten
as_long : (front : List ℕ) (d : DiskState) → length front ≡ 10 → IsDisk d → Each d (IsPrefixOf front) →
    10 ≤ length d.seen
as_long front d ten disk each =
    let begins = each d.seen disk.reads in
    omega (arith, ten, ap length begins.1, length-append front begins.0)

module _ (d0 d1 : DiskState) (disk : IsDisk d0) (time : Elapses d0 d1) where
  pub write_keeps : (at : ℕ) (bytes : List ℕ) (r : Result Unit DevFault) → Writes at bytes r d0 d1 →
      at ≡ length d0.seen → KeepsFront d0 d1
  write_keeps at bytes r w end = λ front ten each.
      let far : 10 ≤ at = omega (arith, end, as_long front d0 ten disk each) in
      one_more_call d0 d0 d1 (IsPrefixOf front) (no_call d0 (IsPrefixOf front) disk each) time
      (λ image left. let was = w.crash image left in
      begins_still front was.0 image at (length bytes) ten far (each was.0 was.1) was.2)

  pub cut_keeps : (at : ℕ) (r : Result Unit DevFault) → Cuts at r d0 d1 → (10 ≤ length d0.seen → at ≡ 10) →
      KeepsFront d0 d1
  cut_keeps at r w told = λ front ten each.
      let is : at ≡ 10 = told (as_long front d0 ten disk each) in
      one_more_call d0 d0 d1 (IsPrefixOf front) (no_call d0 (IsPrefixOf front) disk each) time
      (λ image left. let was = w.crash image left in
      front_cut front was.0 image ten (each was.0 was.1) (subst (λ (n : ℕ). Cut n was.0 image) is was.2))

  pub sync_keeps : (r : Result Unit DevFault) → Syncs r d0 d1 → KeepsFront d0 d1
  sync_keeps r s = λ front ten each.
      one_more_call d0 d0 d1 (IsPrefixOf front) (no_call d0 (IsPrefixOf front) disk each) time
      (λ image left. each image (s.crash image left))

-- two runs, one after another
pub keeps_then : (d0 d1 d2 : DiskState) → IsDisk d1 → KeepsFront d0 d1 → KeepsFront d1 d2 → KeepsFront d0 d2
keeps_then d0 d1 d2 disk first second = λ front ten each.
    let run = first front ten each in
    in_sequence d0 d1 d2 (IsPrefixOf front) run (second front ten (holds_now d0 d1 (IsPrefixOf front) disk run))

-- no call
pub keeps_none : (d : DiskState) → IsDisk d → KeepsFront d d
keeps_none d disk = λ front ten each. no_call d (IsPrefixOf front) disk each

-- bytes that are written at the end
pub appended : (at : ℕ) (bytes seen new : List ℕ) → at ≡ length seen → new ≡ overwritten at bytes seen →
    new ≡ seen ++ bytes
appended at bytes seen new is holds =
    holds
    ∙ (λ i. take_all at seen (omega (arith, is)) i ++ bytes ++ drop_all (at + length bytes) seen (omega (arith, is)) i)
    ∙ append-nil (seen ++ bytes)

-- the pair stands for the same at every moment
pub copying_keeps : (which : Which) (head : Head) (bodies : List (List ℕ)) (counts : List ℕ) (d0 d1 : DiskState) →
    ReadsClosed d0.seen → Only d0.seen d0.may_leave → KeepsFront d0 d1 →
    SidesStandFor which head bodies counts d0.seen →
    LeavesOnly d0 d1 (SidesStandFor which head bodies counts)
copying_keeps which head bodies counts d0 d1 closed sure keeps stands =
    let front : List ℕ = take 10 d0.seen in
    let ten : length front ≡ 10 =
    ap (λ (l : List ℕ). length (take 10 l)) closed.1.3 in
    let behind : List ℕ = drop 10 d0.seen in
    let whole : d0.seen ≡ front ++ behind = sym (take-append-drop 10 d0.seen) in
    weakened d0 d1 (IsPrefixOf front) (SidesStandFor which head bodies counts)
    (keeps front ten (λ image left. (behind, sure image left ∙ whole)))
    (λ image begins. writing_keeps which head bodies counts d0.seen image stands closed begins)
