-- The copy of a volume: the changes that make it again from a volume without objects.
use Rattle.std.specs.Prelude.{◌≡◌, ◌≢◌, ◌+◌, ℕ, zero, suc, List, [], ◌∷◌, ◌++◌}
use Rattle.volume_core.specs.declared.objects.Object.{Object}
use Rattle.volume_core.specs.declared.objects.Object.TheVariants.{Block, Mark}
use Rattle.volume_core.specs.declared.changes.Change.{Change}
use Rattle.volume_core.specs.declared.changes.Change.TheVariants.{Put, Marks, Erase}
use Rattle.volume_core.specs.Volume.{AllApply, Part, after}

-- the change that puts `count` filemarks after the first objects of a partition; none for 0 (own)
abbrev pub marks_change : ℕ → ℕ → ℕ → List Change
marks_change part first zero = []
marks_change part first (suc count) = Marks part first (suc count) ∷ []

-- The changes that put `marks` filemarks and then these objects after the first objects of a partition: one for each
-- block, and one for each longest run of filemarks (own).
abbrev pub copy_objects : ℕ → ℕ → ℕ → List Object → List Change
copy_objects part first marks [] = marks_change part first marks
copy_objects part first marks (Mark ∷ objects) = copy_objects part first (suc marks) objects
copy_objects part first marks (Block bytes ∷ objects) =
    marks_change part first marks
    ++ (Put part (first + marks) bytes ∷ copy_objects part (first + marks + 1) 0 objects)

-- the changes that make these partitions, the first of which has that number (own)
abbrev pub copy_parts : ℕ → List Part → List Change
copy_parts number [] = []
copy_parts number (part ∷ parts) = copy_objects number 0 0 part.objects ++ copy_parts (suc number) parts

-- the copy of a volume, partition by partition and object by object (own)
abbrev pub copy_of : List Part → List Change
copy_of volume = copy_parts 0 volume

-- the two changes do not both put filemarks into the same partition (own)
abbrev pub AreApart : Change → Change → Type 0
AreApart (Marks part at count) (Marks other place more) = part ≢ other
AreApart (Marks part at count) (Put other place block) = Unit {0}
AreApart (Marks part at count) (Erase other place) = Unit {0}
AreApart (Put part at block) change = Unit {0}
AreApart (Erase part at) change = Unit {0}

-- the change and the first of these, if there is one, do not both put filemarks into the same partition (own)
abbrev pub IsApartFrom : Change → List Change → Type 0
IsApartFrom change [] = Unit {0}
IsApartFrom change (next ∷ changes) = AreApart change next

-- no run of filemarks is cut: no two neighbouring changes both put filemarks into the same partition (own)
abbrev pub NoRunIsCut : List Change → Type 0
NoRunIsCut [] = Unit {0}
NoRunIsCut (change ∷ changes) = IsApartFrom change changes × NoRunIsCut changes

-- each of the changes applies, one after another, and they lead from the old volume to the new one (own)
abbrev pub Makes : List Part → List Change → List Part → Type 0
Makes old changes new = AllApply old changes × (after old changes ≡ new)
