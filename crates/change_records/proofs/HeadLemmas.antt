-- The ten bytes of a head give a record, if enough bytes for its block follow.
use Rattle.std.proofs.Common.{◌≡◌, ℕ, zero, suc, ◌<◌, ◌≤◌, ◌+◌, ◌^◌, List, [], ◌∷◌, ◌++◌, length, get_or, take, drop, refl, sym, ◌∙◌, ap, arith, Some, None, append_assoc, length-append}
use Rattle.std.specs.Prelude.{nat_le, ◌&&◌}
use Rattle.std.specs.Int.{to_be_bytes, w32}
use Rattle.std.proofs.lemmas.Bool.{and_from, cond-true, le-leb}
use Rattle.std.proofs.lemmas.List.{drop_at, take_at}
use Rattle.byteorder.specs.Endian.{big_number}
use Rattle.byteorder.specs.Numbers.{big_number-reads_back}
use Rattle.vtl_base.specs.declared.limits.TheConstants.{MAX_BLOCK, MAX_OBJECTS}
use Rattle.volume_core.specs.declared.changes.Change.{Change}
use Rattle.volume_core.specs.declared.changes.Change.TheVariants as Changes
use Rattle.change_records.specs.declared.records.Record.{Record}
use Rattle.change_records.specs.declared.records.Record.TheVariants.{Put, Marks, Erase}
use Rattle.change_records.specs.Records.{BeginsWithRecord, IsAtFront, IsRecord, record_length, record_of, spell_change, spell_head}
use Rattle.change_records.specs.Inner.Decoded.{kind_decoded}
use Rattle.change_records.specs.Readers.{IsHeadOf, head_item}
use Rattle.change_records.proofs.Reading.{Decodes, found_cells, kind_decodes}

-- ten bytes, and what follows
module _ (a b c d e f g h i j : ℕ) (tail : List ℕ) where
  abbrev cells : List ℕ
  cells = a ∷ b ∷ c ∷ d ∷ e ∷ f ∷ g ∷ h ∷ i ∷ j ∷ tail

  abbrev at : ℕ
  at = big_number 4 (drop 2 cells)

  abbrev number : ℕ
  number = big_number 4 (drop 6 cells)

  abbrev ten : List ℕ
  ten = a ∷ b ∷ c ∷ d ∷ e ∷ f ∷ g ∷ h ∷ i ∷ j ∷ []

  module _ (fits : (k : ℕ) → get_or ten k 0 < 256) where
    enough_for : (item : Record) → Decodes a b at number MAX_BLOCK item → record_length item ≤ length tail
        → Decodes a b at number (length tail) item
    enough_for (Put p n s) (kind, part, where_at, decoded, some, few, all) enough =
        (kind, part, where_at, decoded, some, few, enough)
    enough_for (Marks p n s) decodes enough = decodes
    enough_for (Erase p n) decodes enough = decodes

    -- a head that gives a record begins it, if enough bytes follow
    head_cells : (item : Record) → head_item ten ≡ Some item → record_length item ≤ length tail → IsAtFront item cells
    head_cells item is enough =
        found_cells a b c d e f g h i j tail fits item
        (enough_for item (kind_decodes a b at number MAX_BLOCK item is) enough)

-- the ten bytes of a head, each a byte
pub head_found : (head : List ℕ) → length head ≡ 10 → ((k : ℕ) → get_or head k 0 < 256) → (item : Record)
    → head_item head ≡ Some item → IsHeadOf item head
head_found (a ∷ b ∷ c ∷ d ∷ e ∷ f ∷ g ∷ h ∷ i ∷ j ∷ []) long fits item is =
    λ tail enough. head_cells a b c d e f g h i j tail fits item is enough
head_found (a ∷ b ∷ c ∷ d ∷ e ∷ f ∷ g ∷ h ∷ i ∷ j ∷ k ∷ more) long fits item is = absurd (omega (arith, long))
head_found [] long fits item is = absurd (omega (arith, long))
head_found (a ∷ []) long fits item is = absurd (omega (arith, long))
head_found (a ∷ b ∷ []) long fits item is = absurd (omega (arith, long))
head_found (a ∷ b ∷ c ∷ []) long fits item is = absurd (omega (arith, long))
head_found (a ∷ b ∷ c ∷ d ∷ []) long fits item is = absurd (omega (arith, long))
head_found (a ∷ b ∷ c ∷ d ∷ e ∷ []) long fits item is = absurd (omega (arith, long))
head_found (a ∷ b ∷ c ∷ d ∷ e ∷ f ∷ []) long fits item is = absurd (omega (arith, long))
head_found (a ∷ b ∷ c ∷ d ∷ e ∷ f ∷ g ∷ []) long fits item is = absurd (omega (arith, long))
head_found (a ∷ b ∷ c ∷ d ∷ e ∷ f ∷ g ∷ h ∷ []) long fits item is = absurd (omega (arith, long))
head_found (a ∷ b ∷ c ∷ d ∷ e ∷ f ∷ g ∷ h ∷ i ∷ []) long fits item is = absurd (omega (arith, long))

-- the head of a change's spelling
abbrev head_spelled : Change → List ℕ
head_spelled (Changes.Put part place block) = spell_head 1 part place (length block)
head_spelled (Changes.Marks part place count) = spell_head 2 part place count
head_spelled (Changes.Erase part place) = spell_head 3 part place 0

abbrev block_of : Change → List ℕ
block_of (Changes.Put part place block) = block
block_of (Changes.Marks part place count) = []
block_of (Changes.Erase part place) = []

head_then_block : (change : Change) (rest : List ℕ) → spell_change change ++ rest ≡ head_spelled change ++
    (block_of change ++ rest)
head_then_block (Changes.Put part place block) rest = append_assoc (spell_head 1 part place (length block)) block rest
head_then_block (Changes.Marks part place count) rest = refl
head_then_block (Changes.Erase part place) rest = refl

ten_spelled : (change : Change) → length (head_spelled change) ≡ 10
ten_spelled (Changes.Put part place block) = refl
ten_spelled (Changes.Marks part place count) = refl
ten_spelled (Changes.Erase part place) = refl

block_long : (change : Change) → length (block_of change) ≡ record_length (record_of change)
block_long (Changes.Put part place block) = refl
block_long (Changes.Marks part place count) = refl
block_long (Changes.Erase part place) = refl

head_decoded : (kind part at number : ℕ) → at < 2 ^ 32 → number < 2 ^ 32
    → head_item (spell_head kind part at number) ≡ kind_decoded kind part at number MAX_BLOCK
head_decoded kind part at number at_fits number_fits =
    λ i. kind_decoded kind part (big_number-reads_back 4 at (to_be_bytes w32 number) at_fits i)
    (big_number-reads_back 4 number [] number_fits i) MAX_BLOCK

-- the head of a change's spelling gives the record of the change
pub head_again : (change : Change) → IsRecord change → head_item (head_spelled change) ≡ Some (record_of change)
head_again (Changes.Put part place block) ok =
    head_decoded 1 part place (length block) ok.0.1 (omega (arith, ok.2))
    ∙ cond-true
    (nat_le 1 (length block) && nat_le (length block) MAX_BLOCK && nat_le (length block) MAX_BLOCK)
    (Some (Put part place (length block))) None
    (and_from _ _ (and_from _ _ (le-leb 1 (length block) ok.1) (le-leb (length block) MAX_BLOCK ok.2))
    (le-leb (length block) MAX_BLOCK ok.2))
head_again (Changes.Marks part place count) ok =
    head_decoded 2 part place count ok.0.1 (omega (arith, ok.2))
    ∙ cond-true (nat_le 1 count && nat_le count MAX_OBJECTS) (Some (Marks part place count)) None
    (and_from _ _ (le-leb 1 count ok.1) (le-leb count MAX_OBJECTS ok.2))
head_again (Changes.Erase part place) ok = head_decoded 3 part place 0 ok.1 (omega arith)

-- bytes that begin with a record have its head first, and then the bytes of its block
pub begins_item : (head tail : List ℕ) → length head ≡ 10 → (w : BeginsWithRecord (head ++ tail))
    → (head_item head ≡ Some (record_of w.0)) × (record_length (record_of w.0) ≤ length tail)
begins_item head tail long w =
    let whole : head ++ tail ≡ head_spelled w.0 ++ (block_of w.0 ++ w.1) = w.3 ∙ head_then_block w.0 w.1 in
    let ten : length (head_spelled w.0) ≡ 10 = ten_spelled w.0 in
    let same : head ≡ head_spelled w.0 =
    sym (take_at head tail 10 long) ∙ ap (take 10) whole ∙ take_at (head_spelled w.0) (block_of w.0 ++ w.1) 10 ten in
    let others : tail ≡ block_of w.0 ++ w.1 =
    sym (drop_at head tail 10 long) ∙ ap (drop 10) whole ∙ drop_at (head_spelled w.0) (block_of w.0 ++ w.1) 10 ten in (
      ap head_item same ∙ head_again w.0 w.2,
      omega (arith, ap length others, length-append (block_of w.0) w.1, block_long w.0),
    )

-- less than ten bytes begin with no record
pub none_short : (bytes : List ℕ) → length bytes < 10 → BeginsWithRecord bytes → ⊥
none_short bytes short w =
    omega (
      arith,
      ap length w.3,
      ap length (head_then_block w.0 w.1),
      length-append (head_spelled w.0)
          (block_of w.0 ++ w.1),
      ten_spelled w.0,
    )
