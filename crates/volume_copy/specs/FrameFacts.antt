-- There is one packing of records into frames, and what each frame is.
use Rattle.std.specs.Prelude.{◌≡◌, ◌⊎◌, ◌≤◌, ◌<◌, ◌+◌, ℕ, suc, Bool, true, false, List, [], ◌∷◌, ◌++◌, length, sum_by, nat_le, if◌then◌else◌, refl}
use Rattle.std.specs.List.{All, flat_map}
use Rattle.std.proofs.Common.{ap, sym, subst, ◌∙◌, inl, inr, arith}
use Rattle.std.proofs.lemmas.Bool.{le-leb, lt-leb}
use Rattle.std.proofs.lemmas.Bool.Decides.{leb_tells}
use Rattle.std.proofs.lemmas.List.Elements.{All-cons, All-head, All-nil, All-tail}
use Rattle.std.proofs.lemmas.List.Sums.{sum_by-cons}
use Rattle.volume_core.specs.declared.changes.Change.{Change}
use Rattle.change_records.specs.Records.{size_of}
use Rattle.volume_copy.specs.declared.entries.Entry.{Entry}
use Rattle.vtl_base.specs.declared.limits.TheConstants.{COPY_BODY}
use Rattle.volume_copy.specs.Entries.{entry_size}
use Rattle.volume_copy.specs.Frames.{ArePackedInto, IsFirstFrame, NoMoreFits, change_size, frames_behind, frames_by, frames_of, in_front}
use Rattle.volume_copy.specs.Matching.{AllFramesMatch, AllMatch, Matches, all_by}

-- for a size of each item in bytes
module _ {A : Type 0} (size : A → ℕ) where
  -- how many frames begin after these bytes of a frame (own)
  abbrev pub more_frames : ℕ → List A → ℕ
  more_frames bytes [] = 0
  more_frames bytes (item ∷ items) =
      if nat_le (bytes + size item) COPY_BODY then more_frames (bytes + size item) items
      else suc (more_frames (size item) items)

  -- the next one fits
  goes_in : (bytes : ℕ) (item : A) (items : List A) → bytes + size item ≤ COPY_BODY
      → frames_behind size bytes (item ∷ items) ≡ in_front size item (frames_behind size (bytes + size item) items)
  goes_in bytes item items fits =
      ap (λ (b : Bool). if b then in_front size item (frames_behind size (bytes + size item) items)
      else ([] ∷ in_front size item (frames_behind size (size item) items)))
      (le-leb (bytes + size item) COPY_BODY fits)

  -- the next one does not fit
  stays_out : (bytes : ℕ) (item : A) (items : List A) → COPY_BODY < bytes + size item
      → frames_behind size bytes (item ∷ items) ≡ [] ∷ frames_by size (item ∷ items)
  stays_out bytes item items passes =
      ap (λ (b : Bool). if b then in_front size item (frames_behind size (bytes + size item) items)
      else ([] ∷ in_front size item (frames_behind size (size item) items)))
      (lt-leb (bytes + size item) COPY_BODY passes)

  rest_begins : (bytes : ℕ) (frame rest : List A) → bytes + sum_by size frame ≤ COPY_BODY
      → NoMoreFits size (bytes + sum_by size frame) rest
      → frames_behind size bytes (frame ++ rest) ≡ frame ∷ frames_by size rest
  rest_begins bytes [] [] fits full = refl
  rest_begins bytes [] (item ∷ items) fits full = stays_out bytes item items (omega (arith, full))
  rest_begins bytes (item ∷ frame) rest fits full =
      let sum = sum_by-cons size item frame in
      let same : bytes + sum_by size (item ∷ frame) ≡ bytes + size item + sum_by size frame = omega arith in
      goes_in bytes item (frame ++ rest) (omega arith)
      ∙ ap (in_front size item)
      (rest_begins (bytes + size item) frame rest (omega arith)
      (subst (λ (n : ℕ). NoMoreFits size n rest) same full))

  -- a first frame is the first of the frames
  pub first_is : (frame rest items : List A) → IsFirstFrame size frame rest items
      → frames_by size items ≡ frame ∷ frames_by size rest
  first_is [] rest items first = absurd (omega (arith, first.some))
  first_is (item ∷ frame) rest items first =
      ap (frames_by size) first.whole
      ∙ ap (in_front size item)
      (rest_begins (size item) frame rest (omega (arith, sum_by-cons size item frame, first.fits))
      (subst (λ (n : ℕ). NoMoreFits size n rest) (sum_by-cons size item frame) first.full))

  -- there is one packing
  pub packed_once : (items : List A) (frames : List (List A)) → ArePackedInto size items frames
      → frames ≡ frames_by size items
  packed_once items [] packed = ap (frames_by size) (sym packed)
  packed_once items (frame ∷ frames) packed =
      ap (λ (l : List (List A)). frame ∷ l) (packed_once packed.0 frames packed.2)
      ∙ sym (first_is frame packed.0 items packed.1)

  -- the rest of a frame that has these bytes, and the items after it (own)
  record Splits (bytes : ℕ) (items : List A) : Type 0 where
    frame : List A
    rest : List A
    frames_are : frames_behind size bytes items ≡ frame ∷ frames_by size rest
    whole : items ≡ frame ++ rest
    fits : bytes + sum_by size frame ≤ COPY_BODY
    full : NoMoreFits size (bytes + sum_by size frame) rest
    packed : ArePackedInto size rest (frames_by size rest)

  -- items that begin with one that fits a frame are packed
  begun : (item : A) (items : List A) → Splits (size item) items
      → ArePackedInto size (item ∷ items) (frames_by size (item ∷ items))
  begun item items behind =
      subst (ArePackedInto size (item ∷ items)) (sym (ap (in_front size item) behind.frames_are)) (
        behind.rest,
        record {
          whole = ap (λ (l : List A). item ∷ l) behind.whole;
          some = omega arith;
          fits = omega (arith, sum_by-cons size item behind.frame, behind.fits);
          full =
              subst (λ (n : ℕ). NoMoreFits size n behind.rest) (sym (sum_by-cons size item behind.frame)) behind.full;
        },
        behind.packed,
      )

  split : (bytes : ℕ) (items : List A) → bytes ≤ COPY_BODY → All (λ item. size item ≤ COPY_BODY) items
      → Splits bytes items
  split bytes [] fits each =
      record {
        frame = [];
        rest = [];
        frames_are = refl;
        whole = refl;
        fits = omega arith;
        full = tt;
        packed = refl;
      }
  split bytes (item ∷ items) fits each =
      by (λ n low. split n items low (All-tail (λ item. size item ≤ COPY_BODY) item items each))
      (leb_tells (bytes + size item) COPY_BODY)
    where
      one : size item ≤ COPY_BODY
      one = All-head (λ item. size item ≤ COPY_BODY) item items each

      by : ((n : ℕ) → n ≤ COPY_BODY → Splits n items)
          → ((nat_le (bytes + size item) COPY_BODY ≡ true) × (bytes + size item ≤ COPY_BODY))
          ⊎ ((nat_le (bytes + size item) COPY_BODY ≡ false) × (COPY_BODY < bytes + size item))
          → Splits bytes (item ∷ items)
      by behind_of (inl here) =
          let behind = behind_of (bytes + size item) here.1 in
          let sum = sum_by-cons size item behind.frame in
          let same : bytes + size item + sum_by size behind.frame ≡ bytes + sum_by size (item ∷ behind.frame) =
          omega arith in
          record {
            frame = item ∷ behind.frame;
            rest = behind.rest;
            frames_are = goes_in bytes item items here.1 ∙ ap (in_front size item) behind.frames_are;
            whole = ap (λ (l : List A). item ∷ l) behind.whole;
            fits = omega (arith, behind.fits);
            full = subst (λ (n : ℕ). NoMoreFits size n behind.rest) same behind.full;
            packed = behind.packed;
          }
      by behind_of (inr passes) =
          record {
            frame = [];
            rest = item ∷ items;
            frames_are = stays_out bytes item items passes.1;
            whole = refl;
            fits = omega arith;
            full = omega (arith, passes.1);
            packed = begun item items (behind_of (size item) one);
          }

  -- items that each fit a frame are packed into frames
  pub are_packed : (items : List A) → All (λ item. size item ≤ COPY_BODY) items
      → ArePackedInto size items (frames_by size items)
  are_packed [] each = refl
  are_packed (item ∷ items) each =
      begun item items (split (size item) items (All-head (λ item. size item ≤ COPY_BODY) item items each)
      (All-tail (λ item. size item ≤ COPY_BODY) item items each))

  -- the frames, one after another, are the items
  pub frames_whole : (items : List A) (frames : List (List A)) → ArePackedInto size items frames
      → flat_map (λ frame. frame) frames ≡ items
  frames_whole items [] packed = sym packed
  frames_whole items (frame ∷ frames) packed =
      ap (λ (l : List A). frame ++ l) (frames_whole packed.0 frames packed.2) ∙ sym packed.1.whole

  -- no frame is empty, and each fits
  pub frames_fit : (items : List A) (frames : List (List A)) → ArePackedInto size items frames
      → All (λ frame. (1 ≤ length frame) × (sum_by size frame ≤ COPY_BODY)) frames
  frames_fit items [] packed = All-nil (λ frame. (1 ≤ length frame) × (sum_by size frame ≤ COPY_BODY))
  frames_fit items (frame ∷ frames) packed =
      All-cons (λ frame. (1 ≤ length frame) × (sum_by size frame ≤ COPY_BODY)) frame frames
      (packed.1.some, packed.1.fits) (frames_fit packed.0 frames packed.2)

  length_front : (item : A) (frames : List (List A)) (n : ℕ) → length frames ≡ suc n
      → length (in_front size item frames) ≡ suc n
  length_front item [] n is = absurd (omega arith)
  length_front item (frame ∷ frames) n is = is

  -- how many frames there are after these bytes of a frame, with that frame
  pub frames_counted : (bytes : ℕ) (items : List A)
      → length (frames_behind size bytes items) ≡ suc (more_frames bytes items)
  frames_counted bytes [] = refl
  frames_counted bytes (item ∷ items) =
      by (λ n. frames_counted n items) (nat_le (bytes + size item) COPY_BODY)
    where
      by : ((n : ℕ) → length (frames_behind size n items) ≡ suc (more_frames n items)) → (b : Bool)
          → length (if b then in_front size item (frames_behind size (bytes + size item) items)
          else ([] ∷ in_front size item (frames_behind size (size item) items)))
          ≡ suc (if b then more_frames (bytes + size item) items else suc (more_frames (size item) items))
      by counted true =
          length_front item (frames_behind size (bytes + size item) items) (more_frames (bytes + size item) items)
          (counted (bytes + size item))
      by counted false =
          ap suc
          (length_front item (frames_behind size (size item) items) (more_frames (size item) items)
          (counted (size item)))

  -- how many frames there are
  pub all_counted : (items : List A) → All (λ item. 1 ≤ size item) items
      → more_frames COPY_BODY items ≡ length (frames_by size items)
  all_counted [] each = refl
  all_counted (item ∷ items) each =
      let one = All-head (λ item. 1 ≤ size item) item items each in
      ap (λ (b : Bool). if b then more_frames (COPY_BODY + size item) items else suc (more_frames (size item) items))
      (lt-leb (COPY_BODY + size item) COPY_BODY (omega arith))
      ∙ sym (length_front item (frames_behind size (size item) items) (more_frames (size item) items)
      (frames_counted (size item) items))

  -- at most as many as there are items
  pub frames_few : (bytes : ℕ) (items : List A) → more_frames bytes items ≤ length items
  frames_few bytes [] = omega arith
  frames_few bytes (item ∷ items) = by (λ n. frames_few n items) (nat_le (bytes + size item) COPY_BODY)
    where
      by : ((n : ℕ) → more_frames n items ≤ length items) → (b : Bool)
          → (if b then more_frames (bytes + size item) items else suc (more_frames (size item) items))
          ≤ length (item ∷ items)
      by few true = omega (arith, few (bytes + size item))
      by few false = omega (arith, few (size item))

-- for a fact about the places of blocks
module _ (P : List ℕ → ℕ → Type 0) where
  -- a change has as many bytes as its entry
  pub same_size : (change : Change) (entry : Entry) → Matches P change entry → change_size change ≡ entry_size entry
  same_size change entry match = ap size_of match.0

  match_front : (change : Change) (entry : Entry) (frames : List (List Change)) (others : List (List Entry))
      → Matches P change entry → AllFramesMatch P frames others
      → AllFramesMatch P (in_front change_size change frames) (in_front entry_size entry others)
  match_front change entry [] [] here also = ((here, tt), tt)
  match_front change entry [] (other ∷ others) here also = absurd also
  match_front change entry (frame ∷ frames) [] here also = absurd also
  match_front change entry (frame ∷ frames) (other ∷ others) here also = ((here, also.0), also.1)

  match_behind : (bytes : ℕ) (changes : List Change) (entries : List Entry) → AllMatch P changes entries
      → AllFramesMatch P (frames_behind change_size bytes changes) (frames_behind entry_size bytes entries)
  match_behind bytes [] [] match = (tt, tt)
  match_behind bytes [] (entry ∷ entries) match = absurd match
  match_behind bytes (change ∷ changes) [] match = absurd match
  match_behind bytes (change ∷ changes) (entry ∷ entries) match =
      subst (λ (n : ℕ). AllFramesMatch P
      (if nat_le (bytes + n) COPY_BODY then in_front change_size change (frames_behind change_size (bytes + n) changes)
      else ([] ∷ in_front change_size change (frames_behind change_size n changes)))
      (frames_behind entry_size bytes (entry ∷ entries)))
      (sym (same_size change entry match.0))
      (by (λ n. match_behind n changes entries match.1) (nat_le (bytes + entry_size entry) COPY_BODY))
    where
      by : ((n : ℕ) → AllFramesMatch P (frames_behind change_size n changes) (frames_behind entry_size n entries))
          → (b : Bool) → AllFramesMatch P
          (if b then in_front change_size change (frames_behind change_size (bytes + entry_size entry) changes)
          else ([] ∷ in_front change_size change (frames_behind change_size (entry_size entry) changes)))
          (if b then in_front entry_size entry (frames_behind entry_size (bytes + entry_size entry) entries)
          else ([] ∷ in_front entry_size entry (frames_behind entry_size (entry_size entry) entries)))
      by behind true =
          match_front change entry (frames_behind change_size (bytes + entry_size entry) changes)
          (frames_behind entry_size (bytes + entry_size entry) entries) match.0 (behind (bytes + entry_size entry))
      by behind false = (
        tt,
        match_front change entry (frames_behind change_size (entry_size entry) changes)
            (frames_behind entry_size (entry_size entry) entries) match.0 (behind (entry_size entry)),
      )

  -- the frames of changes are those of their entries
  pub match_frames : (changes : List Change) (entries : List Entry) → AllMatch P changes entries
      → AllFramesMatch P (frames_of changes) (frames_by entry_size entries)
  match_frames [] [] match = tt
  match_frames [] (entry ∷ entries) match = absurd match
  match_frames (change ∷ changes) [] match = absurd match
  match_frames (change ∷ changes) (entry ∷ entries) match =
      subst (λ (n : ℕ). AllFramesMatch P (in_front change_size change (frames_behind change_size n changes))
      (frames_by entry_size (entry ∷ entries)))
      (sym (same_size change entry match.0))
      (match_front change entry (frames_behind change_size (entry_size entry) changes)
      (frames_behind entry_size (entry_size entry) entries) match.0
      (match_behind (entry_size entry) changes entries match.1))

-- for a weaker fact about the places of blocks
module _ (P Q : List ℕ → ℕ → Type 0) (follows : (block : List ℕ) (place : ℕ) → P block place → Q block place) where
  -- frames match there too
  pub frames_follow : (frames : List (List Change)) (others : List (List Entry)) → AllFramesMatch P frames others
      → AllFramesMatch Q frames others
  frames_follow [] [] match = tt
  frames_follow [] (other ∷ others) match = absurd match
  frames_follow (frame ∷ frames) [] match = absurd match
  frames_follow (frame ∷ frames) (other ∷ others) match =
      (all_by P Q follows frame other match.0, frames_follow frames others match.1)
