-- A side of the required kind.
use Rattle.std.proofs.Common.{◌≡◌, ℕ, List, ◌++◌, Option, None, Some, refl, sym, ◌∙◌, ap, append_assoc}
use Rattle.std.proofs.lemmas.List.{append-nil}
use Rattle.gate_journal.specs.declared.header.SideKind.{SideKind}
use Rattle.gate_journal.specs.Side.{Front, IsFront, IsDamagedAt, BeginsAs, spell_front}
use Rattle.gate_journal.specs.declared.fronts.ParsedFront.{ParsedFront}
use Rattle.gate_journal.specs.Inner.Asked.{BeginsAsked, IsAsked, IsDamagedAsked}
use Rattle.gate_journal.specs.Inner.Reading.{ParsesFront}

-- an image that begins with a front begins as a side of its kind
pub begins_as : (kind : SideKind) (f : Front) (rest image : List ℕ) → IsFront f → f.head.heading.kind ≡ kind
    → image ≡ spell_front f ++ rest → BeginsAs kind image
begins_as kind f rest image ok same is =
    (f, rest, ok, same, is ∙ ap (λ (l : List ℕ). l ++ rest) (sym (append-nil (spell_front f))))

-- an image that begins with a front of the required kind begins so
pub begins_asked_by : (asked : Option SideKind) (f : Front) (rest image : List ℕ) → IsFront f
    → IsAsked asked f.head.heading.kind → image ≡ spell_front f ++ rest → BeginsAsked asked image
begins_asked_by None f rest image ok same is = (f.head.heading.kind, begins_as _ f rest image ok refl is)
begins_asked_by (Some kind) f rest image ok same is = begins_as kind f rest image ok same is

same_asked : (asked : Option SideKind) (one other : SideKind) → one ≡ other → IsAsked asked one → IsAsked asked other
same_asked None one other same is = is
same_asked (Some kind) one other same is = sym same ∙ is

-- bytes that were parsed begin as a side of the kind that was found
pub begins_parsed : (bytes : List ℕ) (parsed : ParsedFront) (rest image : List ℕ) → ParsesFront bytes (Some parsed)
    → image ≡ bytes ++ rest → BeginsAs parsed.kind image
begins_parsed bytes parsed rest image w is =
    begins_as parsed.kind w.0 (w.1 ++ rest) image w.2 (sym w.4.kind)
    (is ∙ ap (λ (l : List ℕ). l ++ rest) w.3 ∙ append_assoc (spell_front w.0) w.1 rest)

-- the same of bytes that were parsed
pub begins_asked : (asked : Option SideKind) (bytes : List ℕ) (parsed : ParsedFront) (rest image : List ℕ)
    → ParsesFront bytes (Some parsed) → IsAsked asked parsed.kind → image ≡ bytes ++ rest → BeginsAsked asked image
begins_asked asked bytes parsed rest image w same is =
    begins_asked_by asked w.0 (w.1 ++ rest) image w.2
    (same_asked asked parsed.kind w.0.head.heading.kind w.4.kind same)
    (is ∙ ap (λ (l : List ℕ). l ++ rest) w.3 ∙ append_assoc (spell_front w.0) w.1 rest)

-- an image is damaged after a front of the required kind
pub damaged_asked : (asked : Option SideKind) (f : Front) (rest image : List ℕ) (at : ℕ) → IsFront f
    → IsAsked asked f.head.heading.kind → image ≡ spell_front f ++ rest → IsDamagedAt image at
    → IsDamagedAsked asked image at
damaged_asked None f rest image at ok same is damage = damage
damaged_asked (Some kind) f rest image at ok same is damage = (begins_as kind f rest image ok same is, damage)
