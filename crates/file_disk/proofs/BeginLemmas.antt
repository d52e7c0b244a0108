-- How the bytes of a file begin.
use Rattle.std.proofs.Common.{◌≡◌, ◌≢◌, inr, ℕ, List, [], ◌∷◌, ◌++◌, length, take, drop, get_or, slice_range, refl, sym, ap, ◌∙◌, subst, arith, length-drop, append_assoc}
use Rattle.std.proofs.lemmas.List.{take-append-drop}
use Rattle.std.specs.List.{flat_map}
use Rattle.gate_journal.specs.declared.header.SideKind.{SideKind}
use Rattle.gate_journal.specs.Side.{Front, OPEN, StandsFor, mark, spell_side_head, start, frame}
use Rattle.gate_journal.specs.declared.header.SideKind.TheVariants.{Cartridge}
use Rattle.file_disk.specs.Opening.{BeginsWithGate, IsUnfinished}
use Rattle.file_disk.specs.Inner.Doubts.{BeginsSo}
use Rattle.file_disk.specs.declared.begins.Begins.{Begins}
use Rattle.file_disk.specs.declared.begins.Begins.TheVariants as begin

-- ten bytes or more are those of a side with a gate exactly where its mark stands behind it
has_one : (xs : List ℕ) → length xs ≡ 1 → (x : ℕ) × (xs ≡ x ∷ [])
has_one [] one = absurd (omega (arith, one))
has_one (x ∷ []) one = (x, refl)
has_one (x ∷ y ∷ more) one = absurd (omega (arith, one))

ten_bytes :
    (bytes : List ℕ) → length bytes ≡ 10
    → (pair : ℕ) × (bytes ≡ get_or bytes 0 0 ∷ take 8 (drop 1 bytes) ++ pair ∷ [])
ten_bytes [] ten = absurd (omega (arith, ten))
ten_bytes (gate ∷ more) ten =
    let count : length (drop 8 more) ≡ 1 = length-drop 8 more ∙ omega (arith, ten) in
    let last = has_one (drop 8 more) count in (
      last.0,
      ap (λ (t : List ℕ). gate ∷ t) (sym (take-append-drop 8 more) ∙ ap (λ (t : List ℕ). take 8 more ++ t)
          last.1),
    )

pub closed_start :
    (bytes rest : List ℕ) → length bytes ≡ 10 → slice_range bytes 1 9 ≡ mark Cartridge → get_or bytes 0 0 ≢ OPEN
    → IsUnfinished (bytes ++ rest)
closed_start bytes rest ten marked closed =
    let parts = ten_bytes bytes ten in
    let begins : bytes ≡ start (get_or bytes 0 0) Cartridge parts.0 =
    parts.1 ∙ ap (λ (t : List ℕ). get_or bytes 0 0 ∷ t ++ parts.0 ∷ []) marked in
    inr (get_or bytes 0 0, closed, (parts.0, rest, ap (λ (t : List ℕ). t ++ rest) begins))

side_begins :
    (seen : List ℕ) (front : Front) (bodies : List (List ℕ)) → StandsFor front bodies seen
    → front.head.heading.kind ≡ Cartridge → BeginsWithGate OPEN seen
side_begins seen front bodies stands kind =
    let rest = stands.1 in
    let first = start OPEN front.head.heading.kind front.pair in
    let behind = (spell_side_head front.head ++ flat_map frame bodies) ++ rest.0 ∷ rest.1 in
    let begins : seen ≡ first ++ behind =
    rest.3
    ∙ (ap (λ (t : List ℕ). t ++ rest.0 ∷ rest.1)
    (append_assoc first (spell_side_head front.head) (flat_map frame bodies))
    ∙ append_assoc first (spell_side_head front.head ++ flat_map frame bodies) (rest.0 ∷ rest.1)) in
    (front.pair, behind, subst (λ (k : SideKind). seen ≡ start OPEN k front.pair ++ behind) kind begins)

-- a cartridge's side begins as one
pub begins_so :
    (begins : Begins) (seen : List ℕ) (front : Front) (bodies : List (List ℕ)) → StandsFor front bodies seen
    → front.head.heading.kind ≡ Cartridge → BeginsSo begins seen → (begins ≡ begin.Unfinished → ⊥) → begins ≡
    begin.Cartridge
begins_so begin.Unfinished seen front bodies stands kind so known = absurd (known refl)
begins_so begin.Cartridge seen front bodies stands kind so known = refl
begins_so begin.Other seen front bodies stands kind so known =
    absurd (so.1 OPEN (side_begins seen front bodies stands kind))

-- what is known of the beginning says that the bytes are not unfinished
pub not_unfinished :
    (begins : Begins) (seen : List ℕ) → BeginsSo begins seen → begins ≢ begin.Unfinished → IsUnfinished seen → ⊥
not_unfinished begin.Unfinished seen so known unfinished = known refl
not_unfinished begin.Cartridge seen so known unfinished = so unfinished
not_unfinished begin.Other seen so known unfinished = so.0 unfinished
