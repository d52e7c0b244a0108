-- A side and what stands beside it: what the pair gives.
use Rattle.std.proofs.Common.{◌≡◌, inl, inr, ℕ, List, ◌++◌, length, ◌∙◌, ap, subst, append_assoc, arith, length-append}
use Rattle.std.specs.List.{flat_map}
use Rattle.volume_core.specs.declared.changes.Change.{Change}
use Rattle.gate_journal.specs.declared.header.SideKind.TheVariants.{Cartridge}
use Rattle.gate_journal.specs.Heads.{Head, spell_side_head}
use Rattle.gate_journal.specs.Inner.Fronts.{length_start}
use Rattle.gate_journal.specs.Side.{Front, Heading, IsDamagedOf, IsFront, OPEN, frame, spell, spell_front, start}
use Rattle.cartridge_sides.specs.declared.which.Which.{Which}
use Rattle.cartridge_sides.specs.Pairs.{IsPairDamagedAt, SideCounts, gate_behind}
use Rattle.cartridge_sides.specs.Passes.{SidesStandFor, first_image, second_image}
use Rattle.cartridge_sides.specs.Roles.{MayCountBeside, counted_front, sides_damaged, sides_stand}
use Rattle.cartridge.specs.Contents.{GivesContents, ShowsContents, bodies_of, contents_from}
use Rattle.cartridge.specs.Disks.{images_by}
use Rattle.cartridge.specs.Inner.Open.{SideGives, SideShows}

-- the place of the gate behind frames
pub end_is : (front : Front) (bodies : List (List ℕ)) → length (spell front bodies) ≡ gate_behind front.head bodies
end_is front bodies = omega (
  arith,
  length-append (spell_front front) (flat_map frame bodies),
  length-append (start OPEN front.head.heading.kind front.pair) (spell_side_head front.head),
  length_start front.head.heading.kind front.pair,
  length-append (spell_side_head front.head) (flat_map frame bodies),
)

-- what a side gives a pair gives
module _ (which : Which) (front : Front) (heading : Heading) (heading_is : front.head.heading ≡ heading)
    (counts spare : List ℕ) (beside : MayCountBeside which front.pair front.head spare) where
  abbrev head : Head
  head = record { heading = heading; copied = front.head.copied }

  pub gives_pair : (frames : List (List Change)) → SideGives front (contents_from which head frames) counts
      → GivesContents (contents_from which head frames) (images_by which counts spare)
  gives_pair frames (is, stands) = (
    is,
    subst (λ (h : Head). SidesStandFor which h (bodies_of frames) counts spare)
        (λ i. record { heading = heading_is i; copied = front.head.copied })
        (sides_stand which front (bodies_of frames) counts spare
        (ap (λ (h : Heading). h.kind) heading_is ∙ is.kind) stands beside),
  )

  pub shows_pair : (frames torn : List (List Change))
      → SideShows front (contents_from which head frames) torn counts
      → ShowsContents (contents_from which head frames) torn (images_by which counts spare)
  shows_pair frames torn (inl gives) = inl (gives_pair frames gives)
  shows_pair frames torn (inr gives) = inr (gives_pair (frames ++ torn) gives)

-- where a side counts, what begins its image with frames lets it count
pub counts_beside : (which : Which) (h : Head) (rest counts spare : List ℕ) (front : Front) (bodies : List (List ℕ))
    (more : List ℕ) → SideCounts which h rest (first_image which counts spare) (second_image which counts spare)
    → IsFront front → counts ≡ spell front bodies ++ more
    → (front.head.heading.kind ≡ Cartridge) × MayCountBeside which front.pair front.head spare
counts_beside which h rest counts spare front bodies more side is begins =
    (counted_front which h rest counts spare side front (flat_map frame bodies ++ more) is
    (begins ∙ append_assoc (spell_front front) (flat_map frame bodies) more)).1

-- where a side counts, and its image is damaged, the pair is
pub damaged_pair : (which : Which) (h : Head) (rest counts spare : List ℕ) (at : ℕ)
    → SideCounts which h rest (first_image which counts spare) (second_image which counts spare)
    → IsDamagedOf Cartridge counts at
    → IsPairDamagedAt (first_image which counts spare) (second_image which counts spare) at
damaged_pair which h rest counts spare at side (begun, damage) =
    let beside = counts_beside which h rest counts spare damage.0 damage.1 damage.2 side damage.3 damage.5 in
    sides_damaged which counts spare at damage beside.0 beside.1
