-- Whether frames stand behind a gate.
use Rattle.std.proofs.Common.{◌≡◌, ℕ, ◌+◌, ◌-◌, ◌<◌, ◌≤◌, ◌^◌, List, [], ◌∷◌, ◌++◌, length, get_or, take, drop, sym, ◌∙◌, ap, subst, arith, length-drop}
use Rattle.std.specs.Prelude.{slice_range, Bool, true, false, IsTrue}
use Rattle.std.specs.Int.{to_be_bytes, w32}
use Rattle.std.proofs.lemmas.List.{drop-drop, drop_more}
use Rattle.gate_journal.specs.Behind.{HasFramesBehind, HidesFrames}
use Rattle.gate_journal.specs.Inner.Frames.{same_frame}
use Rattle.gate_journal.specs.Inner.Sides.{one_side}
use Rattle.gate_journal.specs.Side.{OPEN, BeginsWithFrame, Front, StandsFor, frame, spell}
use Rattle.gate_journal.proofs.Marks.{needs, whole, would_have}

module _ (seen : List ℕ) (at : ℕ) where
  -- the bytes from the gate on, with this gate open
  abbrev opened : List ℕ
  opened = OPEN ∷ drop (at + 1) seen

  abbrev as_frame : HidesFrames (drop (at + 1) seen) → BeginsWithFrame (drop 0 opened)
  as_frame w = (w.0, OPEN, w.1, w.2, w.3)

  module _ (inside : at < length seen) where
    long_is : length opened ≡ length seen - at
    long_is = omega (arith, inside, length-drop (at + 1) seen)

    pub must_fit : (w : HidesFrames (drop (at + 1) seen)) → 5 + length w.0 < length seen - at
    must_fit w = omega (arith, long_is, needs opened 0 (omega (arith, inside, long_is)) (as_frame w))

    module _ (bytes : List ℕ) (size : ℕ) (long : at + 5 ≤ length seen) (fits : size < 2 ^ 32)
        (got : bytes ≡ slice_range seen (at + 1) (at + 1 + 4)) (is : bytes ≡ to_be_bytes w32 size) where
      marked : OPEN ∷ bytes ≡ slice_range opened 0 (0 + 5)
      marked = let four : at + 1 + 4 - (at + 1) ≡ 4 = omega arith in
          ap (λ (l : List ℕ). OPEN ∷ l) (got ∙ ap (λ (n : ℕ). take n (drop (at + 1) seen)) four)

      some : 0 < length opened
      some = omega (arith, inside, long_is)

      room : 0 + 5 ≤ length opened
      room = omega (arith, long, long_is)

      spelled : OPEN ∷ bytes ≡ OPEN ∷ to_be_bytes w32 size
      spelled = ap (λ (l : List ℕ). OPEN ∷ l) is

      pub must_have : (w : HidesFrames (drop (at + 1) seen)) → length w.0 ≡ size
      must_have w = would_have opened 0 some (OPEN ∷ bytes) room marked size fits spelled (as_frame w)

      module _ (enough : at + 5 + size < length seen) (gate : List ℕ)
          (next : gate ≡ slice_range seen (at + 5 + size) (at + 5 + size + 1)) where
        there : (body : List ℕ) × (rest : List ℕ) × (length body ≡ size) × (opened ≡ frame body ++ rest)
            × (rest ≡ drop (0 + 5 + size) opened)
        there =
            whole opened 0 some (OPEN ∷ bytes) room marked size fits spelled (omega (arith, enough, long_is))

        behind : there.1 ≡ get_or gate 0 0 ∷ drop (at + 5 + size + 1) seen
        behind =
            let first = drop_more seen (at + 5 + size) 0 enough in
            let one : at + 5 + size + 1 - (at + 5 + size) ≡ 1 = omega arith in
            let is_gate : gate ≡ get_or seen (at + 5 + size) 0 ∷ [] =
            next ∙ ap (λ (n : ℕ). take n (drop (at + 5 + size) seen)) one ∙ ap (λ (l : List ℕ). take 1 l) first in
            let count : 0 + 5 + size ≡ 1 + (4 + size) = omega arith in
            let far : at + 1 + (4 + size) ≡ at + 5 + size = omega arith in
            there.4 ∙ ap (λ (n : ℕ). drop n opened) count ∙ sym (drop-drop (4 + size) 1 opened)
            ∙ drop-drop (4 + size) (at + 1) seen
            ∙ ap (λ (n : ℕ). drop n seen) far ∙ first
            ∙ ap (λ (l : List ℕ). get_or l 0 0 ∷ drop (at + 5 + size + 1) seen) (sym is_gate)

        pub hides : 1 ≤ size → size ≤ 8388608 → get_or gate 0 0 ≡ OPEN → HidesFrames (drop (at + 1) seen)
        hides some short is_open = (
          there.0,
          drop (at + 5 + size + 1) seen,
          (omega (arith, some, there.2), omega (arith, short, there.2)),
          there.3 ∙ ap (λ (l : List ℕ). frame there.0 ++ l)
              (behind ∙ ap (λ (n : ℕ). n ∷ drop (at + 5 + size + 1) seen) is_open),
        )

        pub is_open : 1 ≤ size → size ≤ 8388608 → HidesFrames (drop (at + 1) seen) → get_or gate 0 0 ≡ OPEN
        is_open some short w =
            let same = same_frame there.0 w.0 there.1 (OPEN ∷ w.1)
            (omega (arith, some, there.2), omega (arith, short, there.2)) w.2 (sym there.3 ∙ w.3) in
            ap (λ (l : List ℕ). get_or l 0 0) (sym behind ∙ same.1)

module _ (seen seen1 : List ℕ) (same : seen1 ≡ seen) (front : Front) (bodies : List (List ℕ)) (end : ℕ)
    (stands : StandsFor front bodies seen) (is : end ≡ length (spell front bodies)) where
  pub found_behind : HidesFrames (drop (end + 1) seen1) → HasFramesBehind seen end
  found_behind w =
      (front, bodies, stands, is, subst (λ (l : List ℕ). HidesFrames (drop (end + 1) l)) same w)

  -- frames behind a side stand behind its own end gate
  pub none_behind : (found : Bool) → found ≡ false → (HidesFrames (drop (end + 1) seen1) → IsTrue found)
      → (at : ℕ) → HasFramesBehind seen at → ⊥
  none_behind found none if_so at has =
      let one = one_side seen has.0 front has.1 bodies has.2 stands in
      let place : at ≡ end = has.3 ∙ (λ i. length (spell (one.0 i) (one.1 i))) ∙ sym is in
      let w = subst (λ (l : List ℕ). HidesFrames (drop (end + 1) l)) (sym same)
      (subst (λ (n : ℕ). HidesFrames (drop (n + 1) seen)) place has.4) in
      let never : true ≡ false = sym (if_so w) ∙ none in cc
