-- What the disks of a new cartridge give.
use Rattle.std.proofs.Common.{◌≡◌, inl, ℕ, List, [], refl, arith, subst}
use Rattle.std.specs.List.{All}
use Rattle.std.proofs.lemmas.List.Elements.{All-nil}
use Rattle.tape_disk.specs.Disk.{DiskState, Each}
use Rattle.tape_disk.specs.TwoDisks.{EachOfTwo}
use Rattle.gate_journal.specs.declared.header.SideKind.TheVariants.{Cartridge}
use Rattle.gate_journal.specs.Side.{Front, Heading, IsHeading, StandsFor, plain}
use Rattle.cartridge_sides.specs.declared.which.Which.TheVariants.{First}
use Rattle.change_records.specs.Records.{IsRecord}
use Rattle.cartridge.specs.Contents.{GivesContents, IsContents, contents_from, plain_head}
use Rattle.cartridge.proofs.BesideLemmas.{gives_pair}

-- a heading that can be spelled is that of a cartridge without frames
pub created_is : (heading : Heading) → heading.kind ≡ Cartridge → IsHeading heading
    → IsContents (contents_from First (plain_head heading) [])
created_is heading kind is =
    record {
      kind = kind;
      spelled = record { heading = is; copied = tt };
      base = refl;
      records = All-nil (All IsRecord);
      apply = tt;
      copied = omega arith;
    }

-- a first side that is no copy, with a closed pair gate, counts beside whatever the second disk holds
pub created_gives : (heading : Heading) (one other : List ℕ) → heading.kind ≡ Cartridge
    → StandsFor (plain heading) [] one → GivesContents (contents_from First (plain_head heading) []) (one, other)
created_gives heading one other kind stands =
    gives_pair First (plain heading) heading refl one other (inl ((λ e. absurd (omega (arith, e))), refl)) [] (
      record {
        kind = kind;
        spelled = stands.0.begins.head;
        base = refl;
        records = All-nil (All IsRecord);
        apply = tt;
        copied = omega arith;
      },
      stands,
    )

-- so each pair of images gives a cartridge without frames
pub created_each : {D : Type 0} (state : D → DiskState) (heading : Heading) (first second : D)
    → heading.kind ≡ Cartridge → (front : Front) (bodies : List (List ℕ)) → front ≡ plain heading → bodies ≡ []
    → Each (state first) (StandsFor front bodies)
    → EachOfTwo state (record { first = first; second = second })
    (GivesContents (contents_from First (plain_head heading) []))
created_each state heading first second kind front bodies front_is none sure images left =
    created_gives heading images.0 images.1 kind
    (subst (λ (x : Front × List (List ℕ)). StandsFor x.0 x.1 images.0) (λ i. (front_is i, none i))
    (sure images.0 left.0))
