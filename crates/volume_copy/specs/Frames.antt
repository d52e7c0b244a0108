-- Packing records into frames, as many into each as fit.
use Rattle.std.specs.Prelude.{◌≡◌, ◌≤◌, ◌<◌, ◌+◌, ℕ, List, [], ◌∷◌, ◌++◌, length, sum_by, nat_le, if◌then◌else◌}
use Rattle.volume_core.specs.declared.changes.Change.{Change}
use Rattle.change_records.specs.Records.{record_of, size_of}
use Rattle.vtl_base.specs.declared.limits.TheConstants.{COPY_BODY}

-- for a size of each item in bytes
module _ {A : Type 0} (size : A → ℕ) where
  -- the first of these items does not fit after these bytes of a frame, or there is none (own)
  abbrev pub NoMoreFits : ℕ → List A → Type 0
  NoMoreFits bytes [] = Unit {0}
  NoMoreFits bytes (item ∷ items) = COPY_BODY < bytes + size item

  -- A frame of the first of these items, and the rest. It is not empty, has at most 4,194,304 bytes, and would have
  -- more with the next item (own).
  pub record IsFirstFrame (frame rest items : List A) : Type 0 where
    pub whole : items ≡ frame ++ rest
    pub some : 1 ≤ length frame
    pub fits : sum_by size frame ≤ COPY_BODY
    pub full : NoMoreFits (sum_by size frame) rest

  -- these are packed into these frames (own)
  abbrev pub ArePackedInto : List A → List (List A) → Type 0
  ArePackedInto items [] = items ≡ []
  ArePackedInto items (frame ∷ frames) =
      (rest : List A) × IsFirstFrame frame rest items × ArePackedInto rest frames

  -- the frames with one more item, at the front of the first of them (own)
  abbrev pub in_front : A → List (List A) → List (List A)
  in_front item [] = (item ∷ []) ∷ []
  in_front item (frame ∷ frames) = (item ∷ frame) ∷ frames

  -- the rest of a frame that has these bytes, which may be empty, and the frames after it (own)
  abbrev pub frames_behind : ℕ → List A → List (List A)
  frames_behind bytes [] = [] ∷ []
  frames_behind bytes (item ∷ items) =
      if nat_le (bytes + size item) COPY_BODY then in_front item (frames_behind (bytes + size item) items)
      else ([] ∷ in_front item (frames_behind (size item) items))

  -- the frames of these items (own)
  abbrev pub frames_by : List A → List (List A)
  frames_by [] = []
  frames_by (item ∷ items) = in_front item (frames_behind (size item) items)

-- the bytes of a change's record, with its block (own)
abbrev pub change_size : Change → ℕ
change_size change = size_of (record_of change)

-- the frames of changes (own)
abbrev pub frames_of : List Change → List (List Change)
frames_of changes = frames_by change_size changes
