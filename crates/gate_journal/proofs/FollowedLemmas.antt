-- The bytes of parts, one after another.
use Rattle.std.proofs.Common.{◌≡◌, ℕ, ◌+◌, ◌-◌, ◌≤◌, ◌<◌, ⊎_elim, List, [], ◌∷◌, ◌++◌, length, get_or, take, drop, Some, refl, ◌∙◌, ap, arith, append_assoc, length-append, take-append-drop}
use Rattle.std.specs.Prelude.{slice_get}
use Rattle.std.proofs.lemmas.List.{length-drop, take_more}
use Rattle.std.proofs.lemmas.Option.{get_or_from_slice_get, slice_get_within}
use Rattle.gate_journal.specs.Followed.{FrameHasRoom, followed}

-- a part more
followed_push : (bytes : List ℕ) (parts : List (List ℕ)) (part : List ℕ)
    → followed bytes (parts ++ part ∷ []) ≡ followed bytes parts ++ part
followed_push bytes [] part = refl
followed_push bytes (p ∷ ps) part = followed_push (bytes ++ p) ps part

followed_append : (bytes : List ℕ) (parts others : List (List ℕ))
    → followed bytes (parts ++ others) ≡ followed (followed bytes parts) others
followed_append bytes [] others = refl
followed_append bytes (p ∷ ps) others = followed_append (bytes ++ p) ps others

-- what stands before bytes stands before them and the parts behind them
pub followed_behind : (front bytes : List ℕ) (parts : List (List ℕ))
    → followed (front ++ bytes) parts ≡ front ++ followed bytes parts
followed_behind front bytes [] = refl
followed_behind front bytes (p ∷ ps) =
    ap (λ (l : List ℕ). followed l ps) (append_assoc front bytes p) ∙ followed_behind front (bytes ++ p) ps

-- parts make bytes no shorter
no_shorter : (bytes : List ℕ) (parts : List (List ℕ)) → length bytes ≤ length (followed bytes parts)
no_shorter bytes [] = omega arith
no_shorter bytes (p ∷ ps) = omega (arith, no_shorter (bytes ++ p) ps, length-append bytes p)

-- how long they are does not depend on what stands before them
pub followed_length : (bytes : List ℕ) (parts : List (List ℕ))
    → length (followed bytes parts) ≡ length bytes + length (followed [] parts)
followed_length bytes [] = omega arith
followed_length bytes (p ∷ ps) =
    omega (arith, followed_length (bytes ++ p) ps, followed_length p ps, length-append bytes p)

-- the bytes of a length and of a body, in a buffer of a frame
module _ (bytes : List ℕ) (parts : List (List ℕ)) (capacity : ℕ)
    (fits : FrameHasRoom parts (length (followed (drop 4 bytes) parts)) (capacity - 5))
    (some : 1 ≤ length (followed (drop 4 bytes) parts))
    (wide : 5 < capacity → 4 ≤ length bytes) (below : 4 < length bytes → length bytes < capacity) where
  held : parts ≡ [] → 4 < length bytes
  held none =
      omega (
        arith,
        some,
        ap (λ (p : List (List ℕ)). length (followed (drop 4 bytes) p)) none,
        length-drop 4 bytes,
      )

  -- the buffer has the four bytes of a length
  pub has_length : 4 ≤ length bytes
  has_length =
      ⊎_elim
      (λ (none : parts ≡ []). omega (arith, held none))
      (λ (room : length (followed (drop 4 bytes) parts) ≤ capacity - 5). wide (omega (arith, some, room)))
      fits

  -- and room for the length, the whole body and a byte
  pub has_room : 4 + length (followed (drop 4 bytes) parts) < capacity
  has_room =
      ⊎_elim
      (λ (none : parts ≡ []).
      omega (
        arith,
        below (held none),
        held none,
        ap (λ (p : List (List ℕ)). length (followed (drop 4 bytes) p)) none,
        length-drop 4 bytes,
      ))
      (λ (room : length (followed (drop 4 bytes) parts) ≤ capacity - 5). omega (arith, some, room))
      fits

module _ (bytes : List ℕ) (parts : List (List ℕ)) (i : ℕ) (part : List ℕ) (at : slice_get parts i ≡ Some part) where
  inside : i < length parts
  inside = slice_get_within parts i part at

  -- the first parts, and the next one
  pub followed_more : followed bytes (take (i + 1) parts) ≡ followed bytes (take i parts) ++ part
  followed_more =
      ap (λ (l : List (List ℕ)). followed bytes l) (take_more parts i [] inside)
      ∙ followed_push bytes (take i parts) (get_or parts i [])
      ∙ ap (λ (l : List ℕ). followed bytes (take i parts) ++ l) (get_or_from_slice_get parts i part [] at)

  -- they are no longer than all parts
  pub followed_within : length (followed bytes (take i parts)) + length part ≤ length (followed bytes parts)
  followed_within =
      omega (
        arith,
        length-append (followed bytes (take i parts)) part,
        ap (λ (l : List ℕ). length l) followed_more,
        no_shorter (followed bytes (take (i + 1) parts)) (drop (i + 1) parts),
        ap (λ (l : List ℕ). length l) (followed_append bytes (take (i + 1) parts) (drop (i + 1) parts)),
        ap (λ (l : List (List ℕ)). length (followed bytes l)) (take-append-drop (i + 1) parts),
      )
