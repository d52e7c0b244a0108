-- The copy of a volume in frames.
use Rattle.std.specs.Prelude.{◌≡◌, ◌≤◌, List, [], ◌∷◌, ◌++◌, length, sum_by}
use Rattle.std.specs.List.{All, flat_map}
use Rattle.std.proofs.Common.{arith, subst}
use Rattle.std.proofs.lemmas.List.Elements.{All-cons, All-head, All-nil, All-tail}
use Rattle.std.proofs.lemmas.List.Sums.{sum_by-cons}
use Rattle.volume_core.specs.declared.changes.Change.{Change}
use Rattle.volume_core.specs.Volume.{IsVolume, Part}
use Rattle.change_records.specs.Records.{IsRecord, spell_all}
use Rattle.vtl_base.specs.declared.limits.TheConstants.{COPY_BODY}
use Rattle.volume_copy.specs.Copies.{copy_of}
use Rattle.volume_copy.specs.FrameFacts.{are_packed, frames_fit, frames_whole}
use Rattle.volume_copy.specs.Frames.{ArePackedInto, change_size, frames_of}
use Rattle.volume_copy.specs.OrderFacts.{copy_spelled, record_fits, spelling_sized}

-- the body of a frame that may be written (own)
abbrev pub IsFrameBody : List Change → Type 0
IsFrameBody frame = (1 ≤ length (spell_all frame)) × (length (spell_all frame) ≤ COPY_BODY)

each_fits : (changes : List Change) → All IsRecord changes → All (λ change. change_size change ≤ COPY_BODY) changes
each_fits [] each = All-nil (λ change. change_size change ≤ COPY_BODY)
each_fits (change ∷ changes) each =
    All-cons (λ change. change_size change ≤ COPY_BODY) change changes
    (record_fits change (All-head IsRecord change changes each)).1
    (each_fits changes (All-tail IsRecord change changes each))

-- the copy is packed into its frames
pub copy_packed : (volume : List Part) → IsVolume volume
    → ArePackedInto change_size (copy_of volume) (frames_of (copy_of volume))
copy_packed volume is = are_packed change_size (copy_of volume) (each_fits (copy_of volume) (copy_spelled volume is))

-- its frames, one after another, are the copy
pub copy_in_frames : (volume : List Part) → IsVolume volume
    → flat_map (λ frame. frame) (frames_of (copy_of volume)) ≡ copy_of volume
copy_in_frames volume is =
    frames_whole change_size (copy_of volume) (frames_of (copy_of volume)) (copy_packed volume is)

abbrev Fitting : List Change → Type 0
Fitting frame = (1 ≤ length frame) × (sum_by change_size frame ≤ COPY_BODY)

body : (frame : List Change) → Fitting frame → All IsRecord frame → IsFrameBody frame
body [] fits each = absurd (omega (arith, fits.0))
body (change ∷ changes) fits each =
    let one = record_fits change (All-head IsRecord change changes each) in (
      omega (arith, spelling_sized (change ∷ changes), sum_by-cons change_size change changes, one.0),
      omega (arith, spelling_sized (change ∷ changes), fits.1),
    )

bodies_of_frames : (frames : List (List Change)) → All Fitting frames
    → All (λ frame. All IsRecord frame) frames → All IsFrameBody frames
bodies_of_frames [] fit spelled = All-nil IsFrameBody
bodies_of_frames (frame ∷ frames) fit spelled =
    All-cons IsFrameBody frame frames
    (body frame (All-head Fitting frame frames fit) (All-head (λ frame. All IsRecord frame) frame frames spelled))
    (bodies_of_frames frames (All-tail Fitting frame frames fit)
    (All-tail (λ frame. All IsRecord frame) frame frames spelled))

frames_spelled : (changes : List Change) (frames : List (List Change)) → ArePackedInto change_size changes frames
    → All IsRecord changes → All (λ frame. All IsRecord frame) frames
frames_spelled changes [] packed each = All-nil (λ frame. All IsRecord frame)
frames_spelled changes (frame ∷ frames) packed each =
    let halves : All IsRecord (frame ++ packed.0) = subst (All IsRecord) packed.1.whole each in
    All-cons (λ frame. All IsRecord frame) frame frames (first frame packed.0 halves)
    (frames_spelled packed.0 frames packed.2 (second frame packed.0 halves))
  where
    first : (xs ys : List Change) → All IsRecord (xs ++ ys) → All IsRecord xs
    first [] ys all = All-nil IsRecord
    first (x ∷ xs) ys all =
        All-cons IsRecord x xs (All-head IsRecord x (xs ++ ys) all)
        (first xs ys (All-tail IsRecord x (xs ++ ys) all))

    second : (xs ys : List Change) → All IsRecord (xs ++ ys) → All IsRecord ys
    second [] ys all = all
    second (x ∷ xs) ys all = second xs ys (All-tail IsRecord x (xs ++ ys) all)

-- each change of its frames has a spelling
pub copy_frames_spelled : (volume : List Part) → IsVolume volume
    → All (λ frame. All IsRecord frame) (frames_of (copy_of volume))
copy_frames_spelled volume is =
    frames_spelled (copy_of volume) (frames_of (copy_of volume)) (copy_packed volume is) (copy_spelled volume is)

-- the body of each frame has at least one byte, and at most 4,194,304
pub copy_has_bodies : (volume : List Part) → IsVolume volume → All IsFrameBody (frames_of (copy_of volume))
copy_has_bodies volume is =
    bodies_of_frames (frames_of (copy_of volume))
    (frames_fit change_size (copy_of volume) (frames_of (copy_of volume)) (copy_packed volume is))
    (copy_frames_spelled volume is)
