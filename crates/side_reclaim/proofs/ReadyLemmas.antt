-- Two disks are made ready, pass by pass.
use Rattle.std.proofs.Common.{◌≡◌, ◌⊎◌, inl, inr, ℕ, zero, suc, List, sym, ◌∙◌, ap, subst, refl}
use Rattle.std.specs.Prelude.{drop}
use Rattle.tape_disk.specs.Disk.{DiskState, IsDisk, Only}
use Rattle.tape_disk.specs.Moments as Moments
use Rattle.tape_disk.specs.Moments.{LeavesOnly}
use Rattle.tape_disk.specs.TwoDisks as Two
use Rattle.tape_disk.specs.TwoDisks.{AreHonest, EachOfTwo, FirstMoves, SecondMoves, TwoDisks, TwoLeave, seen_of_two}
use Rattle.gate_journal.specs.Crash.{Unwritten}
use Rattle.gate_journal.specs.Heads.{Head}
use Rattle.cartridge_sides.specs.declared.which.Which.{Which}
use Rattle.cartridge_sides.specs.declared.which.Which.TheVariants.{First, Second}
use Rattle.gate_journal.specs.Side.{OPEN}
use Rattle.cartridge_sides.specs.Inner.Images.{same_pair}
use Rattle.cartridge_sides.specs.Pairs.{PairStandsFor}
use Rattle.cartridge_sides.specs.Passes.{IsClosedNow, IsPairedNow, IsPreparedBeside, IsShutPair, IsSureStart}
use Rattle.side_reclaim.specs.Ready.{GivesSide, GivesSurely, IsPaired, IsPreparedIfShut, IsReady, StillGives, counting}
use Rattle.side_reclaim.proofs.PairedLemmas.{first_start, prepared_of, resting_start, second_paired, shut_or_not}

module _ {D : Type 0} (state : D → DiskState) (laws : (disk : D) → (state disk).honest → IsDisk (state disk)) where
  abbrev pub pair_of : D → D → TwoDisks D
  pair_of first second = record { first = first; second = second }

  -- each pair of images that a crash may leave is what reads return
  pub each_gives : (disks : TwoDisks D) (which : Which) (head : Head) (bodies : List (List ℕ))
      → GivesSurely state disks which head bodies → EachOfTwo state disks (GivesSide which head bodies)
  each_gives disks which head bodies gives images left =
      subst (λ (l : List ℕ × List ℕ). PairStandsFor which head bodies l.0 l.1)
      (λ i. (sym (gives.first images.0 left.0) i, sym (gives.second images.1 left.1) i)) gives.stands

  -- it stands for the same at the end too
  reads_then : (old new : TwoDisks D) (which : Which) (head : Head) (bodies : List (List ℕ)) → AreHonest state new
      → TwoLeave state old new (GivesSide which head bodies) → GivesSide which head bodies (seen_of_two state new)
  reads_then old new which head bodies honest leaves =
      let first = laws new.first honest.0 in
      let second = laws new.second honest.1 in
      Two.two_hold_now state old new (GivesSide which head bodies) (first, second) leaves (seen_of_two state new)
      (first.reads, second.reads)

  -- two runs, one after another, leave the bytes that reads return
  pub still_then : (old mid new : TwoDisks D) (which : Which) (head : Head) (bodies : List (List ℕ))
      → StillGives state old mid which head bodies → StillGives state mid new which head bodies
      → StillGives state old new which head bodies
  still_then old mid new which head bodies one other =
      record { gives = other.gives; same = other.same ∙ one.same }

  -- the second disk is prepared, while the first one is read
  module _ (f0 f1 s0 s1 : D) (which : Which) (head : Head) (bodies : List (List ℕ))
      (gives : GivesSurely state (pair_of f0 s0) which head bodies)
      (first : Unwritten (state f0) (state f1)) where
    pub preparing : LeavesOnly (state s0) (state s1) (PairStandsFor which head bodies (state f0).seen)
        → TwoLeave state (pair_of f0 s0) (pair_of f1 s1) (GivesSide which head bodies)
    preparing second = (
      suc (suc zero),
      (
        pair_of f1 s0,
        (
          pair_of f0 s0,
          (refl, each_gives (pair_of f0 s0) which head bodies gives),
          inl (
            refl,
            Moments.weakened (state f0) (state f1) (state f0).may_leave
                (λ one. (two : List ℕ) → (state s0).may_leave two → GivesSide which head bodies (one, two))
                first.moments
                (λ one may two left. each_gives (pair_of f0 s0) which head bodies gives (one, two) (may, left)),
          ),
        ),
        inr (
          refl,
          Moments.weakened (state s0) (state s1) (PairStandsFor which head bodies (state f0).seen)
              (λ two. (one : List ℕ) → (state f1).may_leave one → GivesSide which head bodies (one, two)) second
              (λ two stands one may. subst (λ (l : List ℕ). PairStandsFor which head bodies l two)
              (sym (gives.first one (first.images one may))) stands),
        ),
      ),
    )

    start : IsShutPair (state f0).seen ⊎ (IsShutPair (state f0).seen → ⊥)
    start =
        shut_or_not (state f0).seen
        (first_start which head bodies (state f0).seen (state s0).seen gives.stands)

    pub prepared : AreHonest state (pair_of f1 s1)
        → TwoLeave state (pair_of f0 s0) (pair_of f1 s1) (GivesSide which head bodies)
        → IsPreparedBeside (state f0).seen (state s0) (state s1)
        → StillGives state (pair_of f0 s0) (pair_of f1 s1) which head bodies
        × IsPreparedIfShut state (pair_of f1 s1)
    prepared honest leaves beside = (
      record {
        gives =
            record {
              stands = reads_then (pair_of f0 s0) (pair_of f1 s1) which head bodies honest leaves;
              first = λ image left. gives.first image (first.images image left) ∙ sym first.seen;
              second = sure start;
            };
        same = same_behind which gives.stands;
      },
      λ shut. prepared_of (state s1).seen (beside.shut (subst IsShutPair first.seen shut)).0,
    )
      where
        sure : IsShutPair (state f0).seen ⊎ (IsShutPair (state f0).seen → ⊥) → Only (state s1).seen (state s1).may_leave
        sure (inl shut) = (beside.shut shut).1
        sure (inr paired) =
            let still = beside.opened paired in
            λ image left. gives.second image (still.images image left) ∙ sym still.seen

        same_behind : (w : Which) → GivesSide w head bodies ((state f0).seen, (state s0).seen)
            → drop 10 (counting w ((state f1).seen, (state s1).seen))
            ≡ drop 10 (counting w ((state f0).seen, (state s0).seen))
        same_behind First stands = ap (λ (l : List ℕ). drop 10 l) first.seen
        same_behind Second stands =
            ap (λ (l : List ℕ). drop 10 l)
            (beside.opened (second_paired head bodies (state f0).seen (state s0).seen stands)).seen

  -- only the first disk is called
  pub first_runs : (f0 f1 s : D) (which : Which) (head : Head) (bodies : List (List ℕ))
      → GivesSurely state (pair_of f0 s) which head bodies
      → LeavesOnly (state f0) (state f1) (λ image. PairStandsFor which head bodies image (state s).seen)
      → TwoLeave state (pair_of f0 s) (pair_of f1 s) (GivesSide which head bodies)
  first_runs f0 f1 s which head bodies gives run =
      Two.one_leg state (pair_of f0 s) (pair_of f1 s) (GivesSide which head bodies)
      (each_gives (pair_of f0 s) which head bodies gives)
      (inl (
        refl,
        Moments.weakened (state f0) (state f1) (λ image. PairStandsFor which head bodies image (state s).seen)
            (λ one. (two : List ℕ) → (state s).may_leave two → GivesSide which head bodies (one, two)) run
            (λ one stands two left. subst (λ (l : List ℕ). PairStandsFor which head bodies one l)
            (sym (gives.second two left)) stands),
      ))

  -- only the second disk is called
  pub second_runs : (f s0 s1 : D) (which : Which) (head : Head) (bodies : List (List ℕ))
      → GivesSurely state (pair_of f s0) which head bodies
      → LeavesOnly (state s0) (state s1) (λ image. PairStandsFor which head bodies (state f).seen image)
      → TwoLeave state (pair_of f s0) (pair_of f s1) (GivesSide which head bodies)
  second_runs f s0 s1 which head bodies gives run =
      Two.one_leg state (pair_of f s0) (pair_of f s1) (GivesSide which head bodies)
      (each_gives (pair_of f s0) which head bodies gives)
      (inr (
        refl,
        Moments.weakened (state s0) (state s1) (λ image. PairStandsFor which head bodies (state f).seen image)
            (λ two. (one : List ℕ) → (state f).may_leave one → GivesSide which head bodies (one, two)) run
            (λ two stands one left. subst (λ (l : List ℕ). PairStandsFor which head bodies l two)
            (sym (gives.first one left)) stands),
      ))

  -- the first disk begins as a side, and that is sure
  pub sure_first : (disks : TwoDisks D) (which : Which) (head : Head) (bodies : List (List ℕ))
      → GivesSurely state disks which head bodies → IsSureStart (state disks.first)
  sure_first disks which head bodies gives =
      record {
        start = first_start which head bodies (state disks.first).seen (state disks.second).seen gives.stands;
        sure = gives.first;
      }

  -- the pair gate is open
  pub paired : (f0 f1 s : D) (which : Which) (head : Head) (bodies : List (List ℕ))
      → GivesSurely state (pair_of f0 s) which head bodies → AreHonest state (pair_of f1 s)
      → TwoLeave state (pair_of f0 s) (pair_of f1 s) (GivesSide which head bodies)
      → IsPairedNow (state f0) (state f1)
      → StillGives state (pair_of f0 s) (pair_of f1 s) which head bodies × IsPaired state (pair_of f1 s)
  paired f0 f1 s which head bodies gives honest leaves now = (
    record {
      gives =
          record {
            stands = reads_then (pair_of f0 s) (pair_of f1 s) which head bodies honest leaves;
            first = now.sure;
            second = gives.second;
          };
      same = same_behind which;
    },
    λ shut. shut.3 (same_pair shut.0 now.opened.0 shut.1 OPEN shut.2 now.opened.1 (sym shut.4 ∙ now.opened.2)),
  )
    where
      same_behind : (w : Which) → drop 10 (counting w ((state f1).seen, (state s).seen))
          ≡ drop 10 (counting w ((state f0).seen, (state s).seen))
      same_behind First = now.behind
      same_behind Second = refl

  -- the gate of the second side is closed
  pub closed_second : (f s0 s1 : D) (head : Head) (bodies : List (List ℕ))
      → GivesSurely state (pair_of f s0) First head bodies → AreHonest state (pair_of f s1)
      → IsPaired state (pair_of f s0)
      → TwoLeave state (pair_of f s0) (pair_of f s1) (GivesSide First head bodies)
      → IsClosedNow (state s0) (state s1)
      → StillGives state (pair_of f s0) (pair_of f s1) First head bodies × IsReady state (pair_of f s1) First
  closed_second f s0 s1 head bodies gives honest paired leaves now = (
    record {
      gives =
          record {
            stands = reads_then (pair_of f s0) (pair_of f s1) First head bodies honest leaves;
            first = gives.first;
            second = now.sure;
          };
      same = refl;
    },
    record { paired = paired; closed = now.closed },
  )

  -- the gate of the first side is closed
  pub closed_first : (f0 f1 s : D) (head : Head) (bodies : List (List ℕ))
      → GivesSurely state (pair_of f0 s) Second head bodies → AreHonest state (pair_of f1 s)
      → TwoLeave state (pair_of f0 s) (pair_of f1 s) (GivesSide Second head bodies)
      → IsClosedNow (state f0) (state f1)
      → StillGives state (pair_of f0 s) (pair_of f1 s) Second head bodies × IsReady state (pair_of f1 s) Second
  closed_first f0 f1 s head bodies gives honest leaves now =
      let stands = reads_then (pair_of f0 s) (pair_of f1 s) Second head bodies honest leaves in (
        record {
          gives = record { stands = stands; first = now.sure; second = gives.second };
          same = refl;
        },
        record {
          paired = second_paired head bodies (state f1).seen (state s).seen stands;
          closed = now.closed;
        },
      )

  -- the side that does not count begins as a side, and that is sure
  pub sure_second : (disks : TwoDisks D) (head : Head) (bodies : List (List ℕ))
      → GivesSurely state disks First head bodies → IsPaired state disks → IsSureStart (state disks.second)
  sure_second disks head bodies gives paired =
      record {
        start =
            resting_start First head bodies (state disks.first).seen (state disks.second).seen gives.stands paired;
        sure = gives.second;
      }
