-- What a crash leaves while bytes are written after a gate and the gate is opened.
use Rattle.std.proofs.Common.{◌≡◌, inl, inr, ℕ, ◌+◌, ◌<◌, List, [], ◌∷◌, ◌++◌, length, get_or, take, drop, sym, ◌∙◌, ap, subst, arith, append_assoc, length-append, take-append-drop, Result}
use Rattle.std.proofs.lemmas.List.{append-nil, drop_all, length-take-le, take_at}
use Rattle.tape_disk.specs.Disk.{DiskState, IsDisk, Cuts, Elapses, Smeared, Only, Writes, Syncs, overwritten}
use Rattle.vtl_base.specs.declared.faults.DevFault.{DevFault}
use Rattle.tape_disk.specs.Moments.{LeavesOnly, holds_now, no_call, one_more_call, in_sequence, weakened}
use Rattle.gate_journal.proofs.Smears.{split_at, keeps_front, written, smeared_byte, written_byte}
use Rattle.gate_journal.specs.Side.{OPEN}
use Rattle.gate_journal.specs.Inner.Writing.{Touched, CutFrom, Behind, Gated, BehindOrGated, opened}

pub untouched : (at n : ℕ) (bytes : List ℕ) → Smeared at n bytes bytes
untouched at n bytes = record {
  before = (drop at bytes, sym (take-append-drop at bytes));
  after = ([], sym (append-nil (drop (at + n) bytes)));
  no_shorter = omega arith;
}

module _ (at : ℕ) (bytes : List ℕ) (d0 d1 : DiskState) (disk : IsDisk d0) (r : Result Unit DevFault)
    (w : Writes at bytes r d0 d1) (time : Elapses d0 d1) where
  abbrev T : List ℕ → Type 0
  T = Touched at (length bytes) d0.may_leave

  pub after_write : LeavesOnly d0 d1 T
  after_write =
      one_more_call d0 d0 d1 T (no_call d0 T disk (λ image left. (image, left, untouched at (length bytes) image)))
      time w.crash

  pub after_sync : (d2 : DiskState) (q : Result Unit DevFault) → Syncs q d1 d2 → Elapses d1 d2 → LeavesOnly d0 d2 T
  after_sync d2 q s time2 =
      one_more_call d0 d1 d2 T after_write time2 (λ image left. w.crash image (s.crash image left))

module _ (len : ℕ) (d0 d1 : DiskState) (disk : IsDisk d0) where
  abbrev C : List ℕ → Type 0
  C = CutFrom len d0.may_leave

  uncut : (image : List ℕ) → d0.may_leave image → C image
  uncut image left = (image, left, (drop len image, sym (take-append-drop len image)))

  pub not_cut : LeavesOnly d0 d0 C
  not_cut = no_call d0 C disk uncut

  pub after_cut : (r : Result Unit DevFault) → Cuts len r d0 d1 → Elapses d0 d1 → LeavesOnly d0 d1 C
  after_cut r cuts time = one_more_call d0 d0 d1 C not_cut time cuts.crash

module _ (bytes : List ℕ) (end : ℕ) (d0 : DiskState) (inside : end < length d0.seen)
    (sure : Only d0.seen d0.may_leave) where
  abbrev front : List ℕ
  front = take end d0.seen

  abbrev gate : ℕ
  gate = get_or d0.seen end 0

  abbrev P : List ℕ → Type 0
  P = BehindOrGated front gate bytes

  here : length front ≡ end
  here = length-take-le end d0.seen (omega (arith, inside))

  edge : length (front ++ gate ∷ []) ≡ end + 1
  edge = omega (arith, here, length-append front (gate ∷ []))

  begins : take (end + 1) d0.seen ≡ front ++ gate ∷ []
  begins =
      ap (λ (l : List ℕ). take (end + 1) l)
      (split_at d0.seen end inside ∙ sym (append_assoc front (gate ∷ []) (drop (end + 1) d0.seen)))
      ∙ take_at (front ++ gate ∷ []) (drop (end + 1) d0.seen) (end + 1) edge

  past : (image : List ℕ) → CutFrom (end + 1) d0.may_leave image → Behind front gate image
  past image (before, left, (rest, is)) = (
    rest,
    is ∙ ap (λ (l : List ℕ). take (end + 1) l ++ rest) (sure before left)
        ∙ ap (λ (l : List ℕ). l ++ rest) begins
        ∙ append_assoc front (gate ∷ []) rest,
  )

  behind : (before image : List ℕ) → Behind front gate before → Smeared (end + 1) (length bytes) before image
      → Behind front gate image
  behind before image (rest, is) s = (
    drop (end + 1) image,
    keeps_front (front ++ gate ∷ []) rest (end + 1) edge (length bytes) image
        (subst (λ (l : List ℕ). Smeared (end + 1) (length bytes) l image)
        (is ∙ sym (append_assoc front (gate ∷ []) rest)) s)
        ∙ append_assoc front (gate ∷ []) (drop (end + 1) image),
  )

  module _ (d1 : DiskState) (cut : LeavesOnly d0 d1 (CutFrom (end + 1) d0.may_leave)) where
    pub cut_off : LeavesOnly d0 d1 P
    cut_off = weakened d0 d1 (CutFrom (end + 1) d0.may_leave) P cut (λ image c. inl (past image c))

    module _ (disk : IsDisk d1) (d2 : DiskState)
        (run : LeavesOnly d1 d2 (Touched (end + 1) (length bytes) d1.may_leave)) where
      pub first : LeavesOnly d0 d2 P
      first =
          in_sequence d0 d1 d2 P cut_off
          (weakened d1 d2 (Touched (end + 1) (length bytes) d1.may_leave) P run
          (λ image t. inl (behind t.0 image (past t.0 (holds_now d0 d1 _ disk cut t.0 t.1)) t.2)))

      module _ (shorter : d1.seen ≡ take (end + 1) d0.seen)
          (holds : d2.seen ≡ overwritten (end + 1) bytes d1.seen) where
        staged : d2.seen ≡ front ++ gate ∷ bytes
        staged =
            let shut : d1.seen ≡ (front ++ gate ∷ []) ++ []
            = shorter ∙ begins ∙ sym (append-nil (front ++ gate ∷ [])) in
            let none : drop (end + 1 + length bytes) ((front ++ gate ∷ []) ++ []) ≡ []
            = drop_all (end + 1 + length bytes) ((front ++ gate ∷ []) ++ [])
            (omega (arith, edge, length-append (front ++ gate ∷ []) [])) in
            written (front ++ gate ∷ []) [] (end + 1) edge bytes d2.seen
            (subst (λ (l : List ℕ). d2.seen ≡ overwritten (end + 1) bytes l) shut holds)
            ∙ ap (λ (l : List ℕ). (front ++ gate ∷ []) ++ bytes ++ l) none
            ∙ append-nil ((front ++ gate ∷ []) ++ bytes)
            ∙ append_assoc front (gate ∷ []) bytes

        pub still_inside : end < length d2.seen
        still_inside = omega (arith, here, ap length staged, length-append front (gate ∷ bytes))

        gated : (image : List ℕ) → Smeared end 1 d2.seen image → Gated front bytes image
        gated image s =
            let one = smeared_byte front gate bytes end here image
            (subst (λ (l : List ℕ). Smeared end 1 l image) staged s) in
            (one.0, one.1, one.2 ∙ sym (append_assoc front (one.0 ∷ bytes) one.1))

        module _ (d3 : DiskState) where
          pub second : LeavesOnly d2 d3 (Smeared end 1 d2.seen) → LeavesOnly d0 d3 P
          second run2 =
              in_sequence d0 d2 d3 P first
              (weakened d2 d3 (Smeared end 1 d2.seen) P run2 (λ image s. inr (gated image s)))

          pub is_opened : (d3.seen ≡ overwritten end (OPEN ∷ []) d2.seen) × Only d3.seen d3.may_leave →
              (d3.seen ≡ opened front bytes) × Only d3.seen d3.may_leave
          is_opened (holds2, only) = (
            written_byte front gate bytes end here OPEN d3.seen
                (subst (λ (l : List ℕ). d3.seen ≡ overwritten end (OPEN ∷ []) l) staged holds2),
            only,
          )
