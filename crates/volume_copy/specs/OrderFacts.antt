-- The order of a volume's copy: no run of filemarks is cut, and each change has a spelling.
use Rattle.std.specs.Prelude.{◌≡◌, ◌≤◌, ◌<◌, ◌+◌, ◌^◌, ℕ, zero, suc, List, [], ◌∷◌, ◌++◌, get_or, length, sum_by}
use Rattle.std.specs.List.{All}
use Rattle.std.proofs.Common.{sym, ◌∙◌, refl, arith}
use Rattle.std.proofs.lemmas.List.Concat.{length-flat_map}
use Rattle.std.proofs.lemmas.List.Elements.{All-append, All-cons, All-head, All-nil, All-tail}
use Rattle.std.proofs.lemmas.List.Sums.{sum_by-cons}
use Rattle.vtl_base.specs.declared.limits.TheConstants.{MAX_OBJECTS, MAX_PARTITIONS}
use Rattle.volume_core.specs.declared.objects.Object.{Object}
use Rattle.volume_core.specs.declared.objects.Object.TheVariants.{Block, Mark}
use Rattle.volume_core.specs.declared.changes.Change.{Change}
use Rattle.volume_core.specs.declared.changes.Change.TheVariants.{Put, Marks, Erase}
use Rattle.volume_core.specs.Volume.{IsObject, IsPart, IsVolume, Part, part_of}
use Rattle.change_records.specs.Inner.Spelled.{length-spell}
use Rattle.change_records.specs.Records.{IsRecord, spell_all, spell_change}
use Rattle.vtl_base.specs.declared.limits.TheConstants.{COPY_BODY}
use Rattle.volume_copy.specs.Copies.{AreApart, IsApartFrom, NoRunIsCut, copy_objects, copy_of, copy_parts, marks_change}
use Rattle.volume_copy.specs.Frames.{change_size}

-- the change is in that partition (own)
abbrev IsIn : ℕ → Change → Type 0
IsIn number change = part_of change ≡ number

-- the change is in a later partition (own)
abbrev IsBehind : ℕ → Change → Type 0
IsBehind number change = number < part_of change

marks_in : (part first marks : ℕ) → All (IsIn part) (marks_change part first marks)
marks_in part first zero = All-nil (IsIn part)
marks_in part first (suc count) = All-cons (IsIn part) (Marks part first (suc count)) [] refl (All-nil (IsIn part))

objects_in : (part first marks : ℕ) (objects : List Object) → All (IsIn part) (copy_objects part first marks objects)
objects_in part first marks [] = marks_in part first marks
objects_in part first marks (Mark ∷ objects) = objects_in part first (suc marks) objects
objects_in part first marks (Block bytes ∷ objects) =
    All-append (IsIn part) (marks_change part first marks) _ (marks_in part first marks)
    (All-cons (IsIn part) (Put part (first + marks) bytes) _ refl (objects_in part (first + marks + 1) 0 objects))

parts_behind : (number low : ℕ) (parts : List Part) → low < number → All (IsBehind low) (copy_parts number parts)
parts_behind number low [] before = All-nil (IsBehind low)
parts_behind number low (part ∷ parts) before =
    All-append (IsBehind low) (copy_objects number 0 0 part.objects) (copy_parts (suc number) parts)
    (λ k d inside. later low number (part_of (get_or (copy_objects number 0 0 part.objects) k d))
    (objects_in number 0 0 part.objects k d inside) before)
    (parts_behind (suc number) low parts (omega (arith, before)))
  where
    later : (low number found : ℕ) → found ≡ number → low < number → low < found
    later low number found same before = omega (arith, same, before)

put_apart : (part at : ℕ) (block : List ℕ) (changes : List Change) → IsApartFrom (Put part at block) changes
put_apart part at block [] = tt
put_apart part at block (change ∷ changes) = tt

whole_objects : (part first marks : ℕ) (objects : List Object) → NoRunIsCut (copy_objects part first marks objects)
whole_objects part first zero [] = tt
whole_objects part first (suc count) [] = (tt, tt)
whole_objects part first marks (Mark ∷ objects) = whole_objects part first (suc marks) objects
whole_objects part first zero (Block bytes ∷ objects) = (
  put_apart part (first + 0) bytes (copy_objects part (first + 0 + 1) 0 objects),
  whole_objects part (first + 0 + 1) 0 objects,
)
whole_objects part first (suc count) (Block bytes ∷ objects) = (
  tt,
  (
    put_apart part (first + suc count) bytes (copy_objects part (first + suc count + 1) 0 objects),
    whole_objects part (first + suc count + 1) 0 objects,
  ),
)

apart_by : (number : ℕ) (change other : Change) → IsIn number change → IsBehind number other → AreApart change other
apart_by number (Put part at block) other here there = tt
apart_by number (Erase part at) other here there = tt
apart_by number (Marks part at count) (Put more place block) here there = tt
apart_by number (Marks part at count) (Erase more place) here there = tt
apart_by number (Marks part at count) (Marks more place many) here there = λ same. omega (arith, here, there, same)

whole_on : (number : ℕ) (changes others : List Change) → All (IsIn number) changes → All (IsBehind number) others
    → NoRunIsCut changes → NoRunIsCut others → NoRunIsCut (changes ++ others)
whole_on number [] others here there whole also = also
whole_on number (change ∷ []) [] here there whole also = whole
whole_on number (change ∷ []) (other ∷ others) here there whole also = (
  apart_by number change other (All-head (IsIn number) change [] here) (All-head (IsBehind number) other others there),
  also,
)
whole_on number (change ∷ next ∷ changes) others here there whole also = (
  whole.0,
  whole_on number (next ∷ changes) others (All-tail (IsIn number) change (next ∷ changes) here) there whole.1 also,
)

whole_parts : (number : ℕ) (parts : List Part) → NoRunIsCut (copy_parts number parts)
whole_parts number [] = tt
whole_parts number (part ∷ parts) =
    whole_on number (copy_objects number 0 0 part.objects) (copy_parts (suc number) parts)
    (objects_in number 0 0 part.objects) (parts_behind (suc number) number parts (omega arith))
    (whole_objects number 0 0 part.objects) (whole_parts (suc number) parts)

-- no run of filemarks is cut
pub copy_whole : (volume : List Part) → NoRunIsCut (copy_of volume)
copy_whole volume = whole_parts 0 volume

marks_spelled : (part first marks : ℕ) → part < 2 ^ 8 → first + marks ≤ MAX_OBJECTS
    → All IsRecord (marks_change part first marks)
marks_spelled part first zero low few = All-nil IsRecord
marks_spelled part first (suc count) low few =
    All-cons IsRecord (Marks part first (suc count)) []
    ((low, omega (arith, few)), omega arith, omega (arith, few)) (All-nil IsRecord)

objects_spelled : (part first marks : ℕ) (objects : List Object) → part < 2 ^ 8
    → first + marks + length objects ≤ MAX_OBJECTS → All IsObject objects
    → All IsRecord (copy_objects part first marks objects)
objects_spelled part first marks [] low few each = marks_spelled part first marks low (omega (arith, few))
objects_spelled part first marks (Mark ∷ objects) low few each =
    objects_spelled part first (suc marks) objects low (omega (arith, few)) (All-tail IsObject Mark objects each)
objects_spelled part first marks (Block bytes ∷ objects) low few each =
    let one = All-head IsObject (Block bytes) objects each in
    All-append IsRecord (marks_change part first marks) _ (marks_spelled part first marks low (omega (arith, few)))
    (All-cons IsRecord (Put part (first + marks) bytes) _ ((low, omega (arith, few)), one.0, one.1)
    (objects_spelled part (first + marks + 1) 0 objects low (omega (arith, few))
    (All-tail IsObject (Block bytes) objects each)))

parts_spelled : (number : ℕ) (parts : List Part) → number + length parts ≤ MAX_PARTITIONS → All IsPart parts
    → All IsRecord (copy_parts number parts)
parts_spelled number [] few each = All-nil IsRecord
parts_spelled number (part ∷ parts) few each =
    let one = All-head IsPart part parts each in
    All-append IsRecord (copy_objects number 0 0 part.objects) (copy_parts (suc number) parts)
    (objects_spelled number 0 0 part.objects (omega (arith, few)) (omega (arith, one.few)) one.well_formed)
    (parts_spelled (suc number) parts (omega (arith, few)) (All-tail IsPart part parts each))

-- each change of a copy has a spelling
pub copy_spelled : (volume : List Part) → IsVolume volume → All IsRecord (copy_of volume)
copy_spelled volume is = parts_spelled 0 volume (omega (arith, is.few)) is.each

-- a change that has a spelling has at least one byte, and fits a frame
pub record_fits : (change : Change) → IsRecord change → (1 ≤ change_size change) × (change_size change ≤ COPY_BODY)
record_fits (Put part at block) is = (omega arith, omega (arith, is.2))
record_fits (Marks part at count) is = (omega arith, omega arith)
record_fits (Erase part at) is = (omega arith, omega arith)

-- the spelling of changes has the bytes of their records
pub spelling_sized : (changes : List Change) → length (spell_all changes) ≡ sum_by change_size changes
spelling_sized [] = refl
spelling_sized (change ∷ changes) =
    length-flat_map spell_change (change ∷ changes)
    ∙ sum_by-cons (λ one. length (spell_change one)) change changes
    ∙ (λ i. length-spell change i + (sym (length-flat_map spell_change changes) ∙ spelling_sized changes) i)
    ∙ sym (sum_by-cons change_size change changes)
