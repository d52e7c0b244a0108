-- What a reclaim counts, and what it finds.
use Rattle.std.proofs.Common.{◌≡◌, ◌<◌, ◌≤◌, ◌+◌, ◌*◌, ◌-◌, ◌⊎◌, inl, inr, ℕ, List, [], ◌∷◌, ◌++◌, length, refl, sym, subst, ap, ◌∙◌, arith, true, false, leb, length-append}
use Rattle.std.specs.Prelude.{sum_by, min, take, drop, slice_index_or, slice_range}
use Rattle.std.specs.List.{flat_map}
use Rattle.std.specs.Int.{to_be_bytes, w64}
use Rattle.std.proofs.lemmas.Bool.Decides.{leb_tells}
use Rattle.std.proofs.lemmas.List.{drop-drop, drop-take, length-drop, length-take, take-take}
use Rattle.std.proofs.lemmas.List.Sums.{sum_by-cons}
use Rattle.volume_core.specs.declared.changes.Change.{Change}
use Rattle.volume_core.specs.Volume.{Part}
use Rattle.object_index.specs.Indexes.{Indexes}
use Rattle.object_index.specs.Places.{PlacedPart}
use Rattle.gate_journal.specs.declared.header.SideKind.{SideKind}
use Rattle.gate_journal.specs.declared.header.SideKind.TheVariants as Kinds
use Rattle.gate_journal.specs.Heads.{Head, count_byte, spell_copied, spell_side_head}
use Rattle.gate_journal.specs.Inner.Headings.{length_capacities, length_name}
use Rattle.gate_journal.specs.Side.{Front, IsHeading, OPEN, frame, spell, spell_front, start}
use Rattle.cartridge_sides.specs.Passes.{copy_head}
use Rattle.volume_copy.specs.declared.entries.Entry.{Entry}
use Rattle.volume_copy.specs.Copies.{copy_of}
use Rattle.volume_copy.specs.Entries.{entries_in, entry_size}
use Rattle.volume_copy.specs.FrameFacts.{match_frames, same_size}
use Rattle.volume_copy.specs.Frames.{change_size, frames_by, frames_of}
use Rattle.volume_copy.specs.Matching.{AllFramesMatch, AllMatch, match_copy}
use Rattle.volume_reclaim.specs.Reading.{LiesAtPlace}
use Rattle.cartridge.specs.Lying.{LiesIn}
use Rattle.cartridge.specs.Reclaiming.{HasBodies}

-- what holds below a place, and at it
pub one_more : (P : ℕ → Type 0) (n : ℕ) → ((k : ℕ) → k < n → P k) → P n → (k : ℕ) → k < n + 1 → P k
one_more P n below here k inside = by (leb_tells n k)
  where
    by : ((leb n k ≡ true) × (n ≤ k)) ⊎ ((leb n k ≡ false) × (k < n)) → P k
    by (inl at) = (let same : n ≡ k = omega (arith, at.1, inside) in subst P same here)
    by (inr before) = below k before.1

frames_alike : (P : List ℕ → ℕ → Type 0) (frames : List (List Change)) (others : List (List Entry))
    → AllFramesMatch P frames others → length frames ≡ length others
frames_alike P [] [] match = refl
frames_alike P [] (other ∷ others) match = absurd match
frames_alike P (frame ∷ frames) [] match = absurd match
frames_alike P (frame ∷ frames) (other ∷ others) match = omega (arith, frames_alike P frames others match.1)

bytes_alike : (P : List ℕ → ℕ → Type 0) (changes : List Change) (entries : List Entry) → AllMatch P changes entries
    → sum_by change_size changes ≡ sum_by entry_size entries
bytes_alike P [] [] match = refl
bytes_alike P [] (entry ∷ entries) match = absurd match
bytes_alike P (change ∷ changes) [] match = absurd match
bytes_alike P (change ∷ changes) (entry ∷ entries) match =
    omega (
      arith,
      sum_by-cons change_size change changes,
      sum_by-cons entry_size entry entries,
      same_size P change entry match.0,
      bytes_alike P changes entries match.1,
    )

-- an index has as many frames, and as many bytes, as the copy of its volume
module _ (P : List ℕ → ℕ → Type 0) (volume : List Part) (parts : List PlacedPart) (lies : Indexes P volume parts) where
  pub frame_count : length (frames_by entry_size (entries_in parts)) ≡ length (frames_of (copy_of volume))
  frame_count =
      sym (frames_alike P (frames_of (copy_of volume)) (frames_by entry_size (entries_in parts))
      (match_frames P (copy_of volume) (entries_in parts) (match_copy P volume parts lies)))

  pub byte_count : sum_by entry_size (entries_in parts) ≡ sum_by change_size (copy_of volume)
  byte_count = sym (bytes_alike P (copy_of volume) (entries_in parts) (match_copy P volume parts lies))

-- how long the head of a copy is
pub copy_head_length : (head : Head) (bodies : List (List ℕ)) → IsHeading head.heading
    → length (spell_side_head (copy_head head bodies)) ≡ 29 + 8 * length head.heading.capacities
copy_head_length head bodies ok =
    let numbers = flat_map (to_be_bytes w64) head.heading.capacities in
    let copy = copy_head head bodies in
    let byte = count_byte copy.copied (length head.heading.capacities) in
    omega (
      arith,
      length_name head.heading.kind head.heading.name ok.name,
      length_capacities head.heading.capacities,
      length-append (byte ∷ head.heading.name ++ numbers) (spell_copied copy.copied),
      length-append (byte ∷ head.heading.name) numbers,
    )

ten_bytes : (kind : SideKind) (pair : ℕ) → length (start OPEN kind pair) ≡ 10
ten_bytes Kinds.Cartridge pair = refl
ten_bytes Kinds.Store pair = refl

behind_ten : (front : Front) (bodies : List (List ℕ)) → 10 ≤ length (spell front bodies)
behind_ten front bodies =
    omega (
      arith,
      ten_bytes front.head.heading.kind front.pair,
      length-append (start OPEN front.head.heading.kind front.pair) (spell_side_head front.head),
      length-append (spell_front front) (flat_map frame bodies),
    )

part_of_part : (seen body : List ℕ) (at far into size : ℕ) → body ≡ slice_range seen at (at + far) → into + size ≤ far
    → slice_range seen (at + into) (at + into + size) ≡ slice_range body into (into + size)
part_of_part seen body at far into size is fits =
    let whole : at + far - at ≡ into + (far - into) = omega (arith, fits) in
    let count : at + into + size - (at + into) ≡ size = omega arith in
    let same : into + size - into ≡ size = omega arith in
    let body_is : drop into body ≡ take (far - into) (drop (at + into) seen) =
    ap (drop into) is
    ∙ ap (λ (n : ℕ). drop into (take n (drop at seen))) whole
    ∙ drop-take into (far - into) (drop at seen)
    ∙ ap (take (far - into)) (drop-drop into at seen) in
    ap (λ (n : ℕ). take n (drop (at + into) seen)) count
    ∙ sym (take-take size (far - into) (drop (at + into) seen) (omega (arith, fits)))
    ∙ ap (take size) (sym body_is)
    ∙ ap (λ (n : ℕ). take n (drop into body)) (sym same)

-- a block of the side lies where its place says
pub lies_there : (seen : List ℕ) (front : Front) (bodies : List (List ℕ)) (extents : List (ℕ × ℕ))
    → HasBodies seen front bodies extents → (block : List ℕ) (place : ℕ) → LiesIn bodies extents block place
    → LiesAtPlace seen block place
lies_there seen front bodies extents has block place lies =
    let frame_at = lies.0 in
    let into = lies.1 in
    let extent = slice_index_or extents frame_at (0, 0) in
    let body = slice_index_or bodies frame_at [] in
    let found = has frame_at lies.2 in
    let far : extent.0 + extent.1 - extent.0 ≡ extent.1 = omega arith in
    let sized : extent.1 ≡ min extent.1 (length seen - extent.0) =
    found.1.sized
    ∙ ap (λ (l : List ℕ). length l) found.1.there
    ∙ ap (λ (n : ℕ). length (take n (drop extent.0 seen))) far
    ∙ length-take extent.1 (drop extent.0 seen)
    ∙ ap (λ (n : ℕ). min extent.1 n) (length-drop extent.0 seen) in
    record {
      behind = omega (arith, lies.3, found.1.gate, behind_ten front (take frame_at bodies));
      inside = omega (arith, lies.3, lies.4, sized, found.0);
      there =
          ap (λ (n : ℕ). slice_range seen n (n + length block)) lies.3
          ∙ part_of_part seen body extent.0 extent.1 into (length block) found.1.there lies.4
          ∙ sym lies.5;
    }
