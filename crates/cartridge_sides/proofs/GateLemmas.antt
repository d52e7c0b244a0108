-- Reading and overwriting a gate.
use Rattle.std.proofs.Common.{◌≡◌, ◌≢◌, ℕ, ◌<◌, List, [], ◌∷◌, ◌++◌, length, get_or, take, drop, refl, sym, ◌∙◌, ap, subst, arith, take-append-drop, ◌+◌}
use Rattle.std.specs.Prelude.{Result}
use Rattle.std.proofs.lemmas.List.{append-nil}
use Rattle.vtl_base.specs.declared.faults.DevFault.{DevFault}
use Rattle.tape_disk.specs.Disk.{DiskState, IsDisk, Elapses, Only, Same, Smeared, Syncs, Writes, overwritten}
use Rattle.tape_disk.specs.Moments.{LeavesOnly, in_sequence, no_call, one_more_call, weakened}
use Rattle.gate_journal.specs.Crash.{Unwritten}
use Rattle.gate_journal.specs.Side.{OPEN, CLOSED}
use Rattle.cartridge_sides.specs.Pairs.{begun}
use Rattle.cartridge_sides.specs.Passes.{HasStart, IsClosedNow, IsPairedNow, IsShutPair, ReadsClosed, ReadsOpen}
use Rattle.cartridge_sides.specs.Inner.{HasOpenPair}

-- a write that was not begun
untouched : (at n : ℕ) (bytes : List ℕ) → Smeared at n bytes bytes
untouched at n bytes = record {
  before = (drop at bytes, sym (take-append-drop at bytes));
  after = ([], sym (append-nil (drop (at + n) bytes)));
  no_shorter = omega arith;
}

-- a call that writes nothing
pub one_read : (d0 d1 : DiskState) → IsDisk d0 → Same d0 d1 → Elapses d0 d1 → Unwritten d0 d1
one_read d0 d1 disk same time = record {
  seen = same.seen;
  images = same.crash;
  moments = one_more_call d0 d0 d1 d0.may_leave (no_call d0 d0.may_leave disk (λ image left. left)) time same.crash;
}

-- no call writes nothing
pub none_read : (d : DiskState) → IsDisk d → Unwritten d d
none_read d disk = record {
  seen = refl;
  images = λ image left. left;
  moments = no_call d d.may_leave disk (λ image left. left);
}

-- a byte is written over a sure one
module _ (at : ℕ) (bytes : List ℕ) (d0 d1 : DiskState) (disk : IsDisk d0) (sure : Only d0.seen d0.may_leave)
    (r : Result Unit DevFault) (w : Writes at bytes r d0 d1) (time : Elapses d0 d1) where
  abbrev Left : List ℕ → Type 0
  Left = Smeared at (length bytes) d0.seen

  smeared : (image : List ℕ) → d1.may_leave image → Left image
  smeared image left =
      let was = w.crash image left in
      subst (λ (l : List ℕ). Smeared at (length bytes) l image) (sure was.0 was.1) was.2

  pub after_write : LeavesOnly d0 d1 Left
  after_write =
      one_more_call d0 d0 d1 Left (no_call d0 Left disk (λ image left.
      subst (λ (l : List ℕ). Smeared at (length bytes) l image) (sure image left)
      (untouched at (length bytes) image))) time smeared

  pub after_sync : (d2 : DiskState) (q : Result Unit DevFault) → Syncs q d1 d2 → Elapses d1 d2 → LeavesOnly d0 d2 Left
  after_sync d2 q s time2 = one_more_call d0 d1 d2 Left after_write time2 (λ image left. smeared image
      (s.crash image left))

-- ten bytes reach beyond the place of either gate
pub long_start : (image : List ℕ) → HasStart image → 9 < length image
long_start image (side, pair, rest, is) = omega (arith, ap length is)

pub pair_gate_is : (image : List ℕ) (s : HasStart image) → get_or image 9 0 ≡ s.1
pair_gate_is image (side, pair, rest, is) = ap (λ (l : List ℕ). get_or l 9 0) is

pub side_gate_is : (image : List ℕ) (s : HasStart image) → get_or image 0 0 ≡ s.0
side_gate_is image (side, pair, rest, is) = ap (λ (l : List ℕ). get_or l 0 0) is

-- a pair gate that is not open is closed
pub reads_shut : (image : List ℕ) → HasStart image → (get_or image 9 0 ≢ OPEN) → IsShutPair image
reads_shut image s nay = (s.0, s.1, s.2, (λ e. nay (pair_gate_is image s ∙ e)), s.3)

-- an open one is not
pub reads_paired : (image : List ℕ) → HasStart image → get_or image 9 0 ≡ OPEN → HasOpenPair image
reads_paired image s e =
    (s.0, s.2, s.3 ∙ ap (λ (p : ℕ). begun s.0 p ++ s.2) (sym (pair_gate_is image s) ∙ e))

pub not_shut : (image : List ℕ) → get_or image 9 0 ≡ OPEN → IsShutPair image → ⊥
not_shut image e (side, pair, rest, nay, is) = nay (sym (ap (λ (l : List ℕ). get_or l 9 0) is) ∙ e)

-- the pair gate is overwritten
pub opened_pair : (old new : List ℕ) → HasStart old → new ≡ overwritten 9 (OPEN ∷ []) old → HasOpenPair new
opened_pair old new (side, pair, rest, is) holds =
    (side, rest, holds ∙ ap (λ (l : List ℕ). overwritten 9 (OPEN ∷ []) l) is)

-- a side is closed where its gate is not OPEN, and open where it is
pub reads_closed : (image : List ℕ) → HasStart image → (get_or image 0 0 ≢ OPEN) → ReadsClosed image
reads_closed image s nay = (s.1, (s.0, s.2, (λ e. nay (side_gate_is image s ∙ e)), s.3))

pub reads_open : (image : List ℕ) → HasStart image → get_or image 0 0 ≡ OPEN → ReadsOpen image
reads_open image s e =
    (drop 1 (begun s.0 s.1 ++ s.2), s.3 ∙ ap (λ (g : ℕ). begun g s.1 ++ s.2) (sym (side_gate_is image s) ∙ e))

closed_is : CLOSED ≢ OPEN
closed_is e = absurd (omega (arith, e))

-- the side gate is overwritten
pub closed_side : (old new : List ℕ) → HasStart old → new ≡ overwritten 0 (CLOSED ∷ []) old → ReadsClosed new
closed_side old new (side, pair, rest, is) holds =
    (pair, (CLOSED, rest, closed_is, holds ∙ ap (λ (l : List ℕ). overwritten 0 (CLOSED ∷ []) l) is))

-- time passes, without a fact about what a crash leaves
abbrev pub Anything : List ℕ → Type 0
Anything image = Unit {0}

module _ (d0 d1 : DiskState) (disk : IsDisk d0) (first : Elapses d0 d1) where
  pub one_call : LeavesOnly d0 d1 Anything
  one_call = one_more_call d0 d0 d1 Anything (no_call d0 Anything disk (λ image left. tt)) first (λ image left. tt)

  module _ (d2 : DiskState) (second : Elapses d1 d2) where
    pub two_calls : LeavesOnly d0 d2 Anything
    two_calls = one_more_call d0 d1 d2 Anything one_call second (λ image left. tt)

    pub three_calls : (d3 : DiskState) → Elapses d2 d3 → LeavesOnly d0 d3 Anything
    three_calls d3 third = one_more_call d0 d2 d3 Anything two_calls third (λ image left. tt)

-- a disk whose bytes are sure is read, and then one gate of it is overwritten
module _ (d0 d1 : DiskState) (sure : Only d0.seen d0.may_leave) (unwritten : Unwritten d0 d1) where
  pub read_rests : (P : List ℕ → Type 0) → P d0.seen → LeavesOnly d0 d1 P
  read_rests P holds = weakened d0 d1 d0.may_leave P unwritten.moments
      (λ image left. subst (λ (l : List ℕ). P l) (sym (sure image left)) holds)

  pub still_sure : Only d1.seen d1.may_leave
  still_sure image left = sure image (unwritten.images image left) ∙ sym unwritten.seen

  pub write_after_read : (d2 : DiskState) (at : ℕ) → LeavesOnly d1 d2 (Smeared at 1 d1.seen) → (P : List ℕ → Type 0) →
      P d0.seen → ((image : List ℕ) → Smeared at 1 d0.seen image → P image) → LeavesOnly d0 d2 P
  write_after_read d2 at run P holds means =
      in_sequence d0 d1 d2 P (read_rests P holds)
      (weakened d1 d2 (Smeared at 1 d1.seen) P run
      (λ image s. means image (subst (λ (l : List ℕ). Smeared at 1 l image) unwritten.seen s)))

  module _ (s : HasStart d0.seen) where
    pub still_long : 9 < length d1.seen
    still_long = omega (arith, long_start d0.seen s, ap length unwritten.seen)

    pub closed_still : (get_or d0.seen 0 0 ≢ OPEN) → IsClosedNow d0 d1
    closed_still nay = record {
      closed = subst ReadsClosed (sym unwritten.seen) (reads_closed d0.seen s nay);
      written = λ w. absurd (nay (ap (λ (l : List ℕ). get_or l 0 0) w.1));
      rests = λ w. unwritten.seen;
      same = ap (λ (l : List ℕ). drop 1 l) unwritten.seen;
      sure = still_sure;
    }

    pub closed_now : get_or d0.seen 0 0 ≡ OPEN → (d2 : DiskState) →
        (d2.seen ≡ overwritten 0 (CLOSED ∷ []) d1.seen) × Only d2.seen d2.may_leave → IsClosedNow d0 d2
    closed_now e d2 (holds, only) =
        let now : d2.seen ≡ overwritten 0 (CLOSED ∷ []) d0.seen =
        holds ∙ ap (λ (l : List ℕ). overwritten 0 (CLOSED ∷ []) l) unwritten.seen in
        record {
          closed = closed_side d0.seen d2.seen s now;
          written = λ w. now;
          rests = λ w. absurd (w.1.2 (sym (ap (λ (l : List ℕ). get_or l 0 0) w.1.3) ∙ e));
          same = ap (λ (l : List ℕ). drop 1 l) now;
          sure = only;
        }

    pub paired_still : get_or d0.seen 9 0 ≡ OPEN → IsPairedNow d0 d1
    paired_still e = record {
      opened = subst HasOpenPair (sym unwritten.seen) (reads_paired d0.seen s e);
      before = ap (λ (l : List ℕ). take 9 l) unwritten.seen;
      behind = ap (λ (l : List ℕ). drop 10 l) unwritten.seen;
      sure = still_sure;
    }

    pub paired_now : (d2 : DiskState) → (d2.seen ≡ overwritten 9 (OPEN ∷ []) d1.seen) × Only d2.seen d2.may_leave →
        IsPairedNow d0 d2
    paired_now d2 (holds, only) =
        let now : d2.seen ≡ overwritten 9 (OPEN ∷ []) d0.seen =
        holds ∙ ap (λ (l : List ℕ). overwritten 9 (OPEN ∷ []) l) unwritten.seen in
        let then_ : d2.seen ≡ begun s.0 OPEN ++ s.2 =
        now ∙ ap (λ (l : List ℕ). overwritten 9 (OPEN ∷ []) l) s.3 in
        record {
          opened = opened_pair d0.seen d2.seen s now;
          before = ap (λ (l : List ℕ). take 9 l) then_ ∙ sym (ap (λ (l : List ℕ). take 9 l) s.3);
          behind = ap (λ (l : List ℕ). drop 10 l) then_ ∙ sym (ap (λ (l : List ℕ). drop 10 l) s.3);
          sure = only;
        }
