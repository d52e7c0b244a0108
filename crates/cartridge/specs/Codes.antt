-- Contents as plain data, for the views of types and for what is noted.
use Rattle.std.specs.Prelude.{◌≡◌, ◌⊎◌, ℕ, List, Bool, true, false, Option, refl}
use Rattle.std.proofs.Common.{inl, inr}
use Rattle.std.specs.Coded.{Coded, code_by, coded×, coded⊎, coded_ℕ, coded_bool, coded_list, coded_option}
use Rattle.volume_core.specs.declared.changes.Change.{Change}
use Rattle.volume_core.specs.declared.changes.Change.TheVariants.{Put, Marks, Erase}
use Rattle.volume_core.specs.declared.objects.Object.{Object}
use Rattle.volume_core.specs.declared.objects.Object.TheVariants.{Block, Mark}
use Rattle.volume_core.specs.Volume.{Part}
use Rattle.gate_journal.specs.declared.heads.Copied.{Copied}
use Rattle.gate_journal.specs.Heads.{Head}
use Rattle.gate_journal.specs.Side.{Heading}
use Rattle.gate_journal.specs.State.{heading_code}
use Rattle.cartridge_sides.specs.declared.which.Which.{Which}
use Rattle.cartridge_sides.specs.declared.which.Which.TheVariants.{First, Second}
use Rattle.cartridge.specs.Contents.{Contents}
use Rattle.cartridge.specs.Notes.{Notes}

-- the fields of a change, by its kind (own)
abbrev fields_of : Change → (ℕ × (ℕ × List ℕ)) ⊎ ((ℕ × (ℕ × ℕ)) ⊎ (ℕ × ℕ))
fields_of (Put part at block) = inl (part, (at, block))
fields_of (Marks part at count) = inr (inl (part, (at, count)))
fields_of (Erase part at) = inr (inr (part, at))

-- the change of these fields (own)
abbrev change_of : (ℕ × (ℕ × List ℕ)) ⊎ ((ℕ × (ℕ × ℕ)) ⊎ (ℕ × ℕ)) → Change
change_of (inl p) = Put p.0 p.1.0 p.1.1
change_of (inr (inl p)) = Marks p.0 p.1.0 p.1.1
change_of (inr (inr p)) = Erase p.0 p.1

-- the change of its fields is the change
pub change_again : (change : Change) → change_of (fields_of change) ≡ change
change_again (Put part at block) = refl
change_again (Marks part at count) = refl
change_again (Erase part at) = refl

-- a change as plain data (own)
abbrev pub change_code : Coded Change
change_code =
    code_by ((ℕ × (ℕ × List ℕ)) ⊎ ((ℕ × (ℕ × ℕ)) ⊎ (ℕ × ℕ)))
    (coded⊎ (coded× coded_ℕ (coded× coded_ℕ (coded_list coded_ℕ)))
    (coded⊎ (coded× coded_ℕ (coded× coded_ℕ coded_ℕ)) (coded× coded_ℕ coded_ℕ)))
    fields_of change_of change_again

-- the changes of some frames as plain data (own)
abbrev pub frames_code : Coded (List (List Change))
frames_code = coded_list (coded_list change_code)

-- an object as a mark or a block, and back (own)
abbrev coded_bytes : Object → Bool ⊎ List ℕ
coded_bytes (Block bytes) = inr bytes
coded_bytes Mark = inl true

abbrev object_of : Bool ⊎ List ℕ → Object
object_of (inl mark) = Mark
object_of (inr bytes) = Block bytes

-- and back (own)
pub object_again : (object : Object) → object_of (coded_bytes object) ≡ object
object_again (Block bytes) = refl
object_again Mark = refl

-- an object as plain data (own)
abbrev pub object_code : Coded Object
object_code = code_by (Bool ⊎ List ℕ) (coded⊎ coded_bool (coded_list coded_ℕ)) coded_bytes object_of object_again

-- a partition as plain data (own)
abbrev pub part_code : Coded Part
part_code =
    code_by (ℕ × List Object) (coded× coded_ℕ (coded_list object_code)) (λ p. (p.capacity, p.objects))
    (λ p. record { capacity = p.0; objects = p.1 }) (λ _. refl)

-- a side as a bit, and back (own)
abbrev is_first : Which → Bool
is_first First = true
is_first Second = false

abbrev which_of : Bool → Which
which_of true = First
which_of false = Second

-- a side as plain data (own)
abbrev which_code : Coded Which
which_code = code_by Bool coded_bool is_first which_of (elim [ First ↦ refl | Second ↦ refl ])

-- the report on a copy, as plain data (own)
abbrev copy_code : Coded Copied
copy_code =
    code_by (ℕ × ℕ) (coded× coded_ℕ coded_ℕ) (λ c. (c.epoch, c.base)) (λ p. record { epoch = p.0; base = p.1 })
    (λ _. refl)

-- a head as plain data (own)
abbrev head_code : Coded Head
head_code =
    code_by (Heading × Option Copied) (coded× heading_code (coded_option copy_code)) (λ h. (h.heading, h.copied))
    (λ p. record { heading = p.0; copied = p.1 }) (λ _. refl)

-- what a cartridge holds, as plain data (own)
abbrev pub contents_code : Coded Contents
contents_code =
    code_by (Which × (Head × (List Part × List (List Change))))
    (coded× which_code (coded× head_code (coded× (coded_list part_code) frames_code)))
    (λ c. (c.which, (c.head, (c.base, c.frames))))
    (λ p. record { which = p.0; head = p.1.0; base = p.1.1.0; frames = p.1.1.1 }) (λ _. refl)

-- what is noted of a side as plain data (own)
abbrev pub notes_code : Coded Notes
notes_code =
    code_by (Heading × (List (List Change) × List (List Change))) (coded× heading_code (coded× frames_code frames_code))
    (λ n. (n.heading, (n.frames, n.torn)))
    (λ p. record { heading = p.0; frames = p.1.0; torn = p.1.1 }) (λ _. refl)
