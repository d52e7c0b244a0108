-- The size of a copy does not depend on the bytes of blocks.
use Rattle.std.specs.Prelude.{◌≡◌, ◌+◌, ℕ, suc, Bool, true, false, List, [], ◌∷◌, ◌++◌, length, map, nat_le, if◌then◌else◌, refl}
use Rattle.std.proofs.Common.{ap, sym, ◌∙◌}
use Rattle.std.proofs.lemmas.List.{length-replicate, map-append}
use Rattle.volume_core.specs.declared.objects.Object.{Object}
use Rattle.volume_core.specs.declared.objects.Object.TheVariants.{Block, Mark}
use Rattle.volume_core.specs.declared.changes.Change.{Change}
use Rattle.volume_core.specs.Volume.{Part}
use Rattle.change_records.specs.declared.records.Record.{Record}
use Rattle.change_records.specs.declared.records.Record.TheVariants as Records
use Rattle.change_records.specs.Records.{record_of, size_of}
use Rattle.object_index.specs.Shapes.{blanked, shape_of}
use Rattle.vtl_base.specs.declared.limits.TheConstants.{COPY_BODY}
use Rattle.volume_copy.specs.Copies.{copy_objects, copy_of, copy_parts, marks_change}
use Rattle.volume_copy.specs.Frames.{change_size, frames_behind, frames_by, frames_of, in_front}

objects_shaped : (part first marks : ℕ) (objects : List Object)
    → map record_of (copy_objects part first marks (map blanked objects))
    ≡ map record_of (copy_objects part first marks objects)
objects_shaped part first marks [] = refl
objects_shaped part first marks (Mark ∷ objects) = objects_shaped part first (suc marks) objects
objects_shaped part first marks (Block bytes ∷ objects) =
    map-append record_of (marks_change part first marks) _
    ∙ (λ i. map record_of (marks_change part first marks)
    ++ (Records.Put part (first + marks) (length-replicate {A = ℕ} (length bytes) 0 i)
    ∷ objects_shaped part (first + marks + 1) 0 objects i))
    ∙ sym (map-append record_of (marks_change part first marks) _)

parts_shaped : (number : ℕ) (parts : List Part)
    → map record_of (copy_parts number (shape_of parts)) ≡ map record_of (copy_parts number parts)
parts_shaped number [] = refl
parts_shaped number (part ∷ parts) =
    map-append record_of (copy_objects number 0 0 (map blanked part.objects)) (copy_parts (suc number) (shape_of parts))
    ∙ (λ i. objects_shaped number 0 0 part.objects i ++ parts_shaped (suc number) parts i)
    ∙ sym (map-append record_of (copy_objects number 0 0 part.objects) (copy_parts (suc number) parts))

map_front : (change : Change) (frames : List (List Change))
    → map (map record_of) (in_front change_size change frames)
    ≡ in_front size_of (record_of change) (map (map record_of) frames)
map_front change [] = refl
map_front change (frame ∷ frames) = refl

map_behind : (bytes : ℕ) (changes : List Change)
    → map (map record_of) (frames_behind change_size bytes changes)
    ≡ frames_behind size_of bytes (map record_of changes)
map_behind bytes [] = refl
map_behind bytes (change ∷ changes) =
    by (λ n. map_behind n changes) (nat_le (bytes + change_size change) COPY_BODY)
  where
    by : ((n : ℕ) → map (map record_of) (frames_behind change_size n changes)
        ≡ frames_behind size_of n (map record_of changes))
        → (b : Bool)
        → map (map record_of)
        (if b then in_front change_size change (frames_behind change_size (bytes + change_size change) changes)
        else ([] ∷ in_front change_size change (frames_behind change_size (change_size change) changes)))
        ≡ (if b
        then in_front size_of (record_of change)
        (frames_behind size_of (bytes + change_size change) (map record_of changes))
        else ([] ∷ in_front size_of (record_of change)
        (frames_behind size_of (change_size change) (map record_of changes))))
    by behind true =
        map_front change (frames_behind change_size (bytes + change_size change) changes)
        ∙ ap (in_front size_of (record_of change)) (behind (bytes + change_size change))
    by behind false =
        ap (λ (l : List (List Record)). [] ∷ l)
        (map_front change (frames_behind change_size (change_size change) changes)
        ∙ ap (in_front size_of (record_of change)) (behind (change_size change)))

-- the frames of changes are the frames of their records
pub frames_recorded : (changes : List Change)
    → map (map record_of) (frames_of changes) ≡ frames_by size_of (map record_of changes)
frames_recorded [] = refl
frames_recorded (change ∷ changes) =
    map_front change (frames_behind change_size (change_size change) changes)
    ∙ ap (in_front size_of (record_of change)) (map_behind (change_size change) changes)

-- volumes with the same shape have copies with the same records, in frames of the same records
pub frames_shaped : (volume other : List Part) → shape_of volume ≡ shape_of other
    → map (map record_of) (frames_of (copy_of volume)) ≡ map (map record_of) (frames_of (copy_of other))
frames_shaped volume other same =
    frames_recorded (copy_of volume)
    ∙ ap (frames_by size_of)
    (sym (parts_shaped 0 volume)
    ∙ ap (λ (shape : List Part). map record_of (copy_of shape)) same
    ∙ parts_shaped 0 other)
    ∙ sym (frames_recorded (copy_of other))
