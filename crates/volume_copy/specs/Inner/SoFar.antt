-- The part of a frame that was spelled so far.
use Rattle.std.specs.Prelude.{◌≡◌, ℕ, List, ◌++◌, length, sum_by}
use Rattle.volume_core.specs.declared.changes.Change.{Change}
use Rattle.change_records.specs.Records.{spell_all}
use Rattle.volume_copy.specs.declared.entries.Entry.{Entry}
use Rattle.volume_copy.specs.Entries.{entry_size}
use Rattle.volume_copy.specs.Matching.{AllMatch}

-- the first of these items were spelled after the old bytes, in this many bytes (own)
abbrev pub HasSpelled : Type 0 → (List ℕ → ℕ → Type 0) → List Entry → List Entry → List ℕ → List ℕ → ℕ → Type 0
HasSpelled honest lies items rest old now bytes =
    (frame : List Entry) × (body : List ℕ) × (items ≡ frame ++ rest) × (now ≡ old ++ body) × (length body ≡ bytes)
    × (sum_by entry_size frame ≡ bytes)
    × (honest → (changes : List Change) → AllMatch lies changes frame → body ≡ spell_all changes)
