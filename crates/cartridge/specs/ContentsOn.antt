-- The contents that a pair of images gives, as a function: what a law decides of each pair.
use Rattle.std.specs.Prelude.{◌≡◌, Option, None, Some, refl}
use Rattle.std.proofs.Common.{inl, inr, ap, subst}
use Rattle.tape_disk.specs.TwoDisks.{Images}
use Rattle.cartridge.specs.Contents.{Contents, GivesContents, IsAnswered}
use Rattle.cartridge.specs.Inner.Answered.{answered}
use Rattle.cartridge.specs.Inner.Unique.{gives_good, gives_one, gives_ours, gives_whole}

-- the contents, where the answer is that the images give some (own)
abbrev pub contents_answered : {images : Images} → IsAnswered images → Option Contents
contents_answered (inl found) = Some found.0
contents_answered (inr other) = None

-- the contents that a pair of images gives, if it gives some (own)
abbrev pub contents_on : Images → Option Contents
contents_on images = contents_answered (answered images)

-- what gives contents has just these on it
pub contents_on_is : (images : Images) (contents : Contents) → GivesContents contents images
    → contents_on images ≡ Some contents
contents_on_is images contents gives = by (answered images)
  where
    by : (answer : IsAnswered images) → contents_answered answer ≡ Some contents
    by (inl found) = ap Some (gives_one images found.0 contents found.1 gives)
    by (inr (inl none)) = absurd (gives_ours images contents gives none)
    by (inr (inr (inl damage))) = absurd (gives_whole images contents damage.0 gives damage.1)
    by (inr (inr (inr bad))) = absurd (gives_good images contents bad.0 gives bad.1)

-- a pair of images gives the contents on it
pub contents_on_gives : (images : Images) (contents : Contents) → contents_on images ≡ Some contents
    → GivesContents contents images
contents_on_gives images contents = by (answered images)
  where
    pick : Option Contents → Contents
    pick None = contents
    pick (Some found) = found

    by : (answer : IsAnswered images) → contents_answered answer ≡ Some contents → GivesContents contents images
    by (inl found) e = subst (λ (c : Contents). GivesContents c images) (ap pick e) found.1
    by (inr other) e = absurd (cc)

-- what is no cartridge's, is damaged or has a bad frame has no contents on it
pub contents_on_none : (images : Images) → ((contents : Contents) → GivesContents contents images → ⊥)
    → contents_on images ≡ None
contents_on_none images never = by (answered images)
  where
    by : (answer : IsAnswered images) → contents_answered answer ≡ None
    by (inl found) = absurd (never found.0 found.1)
    by (inr other) = refl
