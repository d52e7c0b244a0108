-- What contracts see of a cartridge, open and closed.
use Rattle.std.specs.Prelude.{ℕ, List, Bool, refl}
use Rattle.std.specs.Coded.{Coded, code_by, coded×, coded_ℕ, coded_bool, coded_list}
use Rattle.volume_core.specs.declared.changes.Change.{Change}
use Rattle.tape_disk.specs.TwoDisks.{TwoDisks}
use Rattle.cartridge.specs.Contents.{Contents}
use Rattle.cartridge.specs.Codes.{contents_code, frames_code}

-- what is reserved in memory for later stores: the bytes of the longest body, how many frames, and by partition how
-- many blocks and runs of marks (own)
pub record Reserved : Type 0 where
  pub body : ℕ
  pub frames : ℕ
  pub entries : List ℕ

-- an open cartridge: its disks, what the side that counts holds, and how far stores may go (own)
pub record OpenCartridge (D : Type 0) : Type 0 where
  pub disks : TwoDisks D
  pub contents : Contents
  -- the changes of the frame that was in flight when a disk failed: of none or of one
  pub torn : List (List Change)
  -- the disk of the side that counts failed, and nothing more is read or written
  pub failed : Bool
  -- the bytes that may still be added to the side; a frame takes 5 and its body's
  pub room : ℕ
  pub reserved : Reserved

-- a closed cartridge: its disks, and where something is known of them, what they then give: these contents, or these
-- with the frame that was in flight when a disk failed (own)
pub record ClosedCartridge (D : Type 0) : Type 0 where
  pub disks : TwoDisks D
  -- it was made or closed by this library; nothing is known of disks that were only put together as a cartridge
  pub known : Bool
  pub contents : Contents
  pub torn : List (List Change)

-- a cartridge that was just opened, and the closed one that it was, over its disks as they are now (own)
pub record OpeningState (D : Type 0) : Type 0 where
  pub cartridge : OpenCartridge D
  pub was : ClosedCartridge D

module _ {D : Type 0} where
  -- two disks as plain data (own)
  abbrev disks_code : Coded D → Coded (TwoDisks D)
  disks_code disk =
      code_by (D × D) (coded× disk disk) (λ d. (d.first, d.second)) (λ p. record { first = p.0; second = p.1 })
      (λ _. refl)

  -- an open cartridge as plain data (own)
  abbrev pub open_code : Coded D → Coded (OpenCartridge D)
  open_code disk =
      code_by (TwoDisks D × (Contents × (List (List Change) × (Bool × (ℕ × (ℕ × (ℕ × List ℕ)))))))
      (coded× (disks_code disk) (coded× contents_code (coded× frames_code (coded× coded_bool (coded× coded_ℕ
      (coded× coded_ℕ (coded× coded_ℕ (coded_list coded_ℕ))))))))
      (λ c. (
        c.disks,
        (
          c.contents,
          (
            c.torn,
            (
              c.failed,
              (
                c.room,
                (c.reserved.body, (c.reserved.frames, c.reserved.entries)),
              ),
            ),
          ),
        ),
      ))
      (λ p. record {
        disks = p.0;
        contents = p.1.0;
        torn = p.1.1.0;
        failed = p.1.1.1.0;
        room = p.1.1.1.1.0;
        reserved = record {
          body = p.1.1.1.1.1.0;
          frames = p.1.1.1.1.1.1.0;
          entries = p.1.1.1.1.1.1.1;
        };
      })
      (λ _. refl)

  -- a closed cartridge as plain data (own)
  abbrev pub closed_code : Coded D → Coded (ClosedCartridge D)
  closed_code disk =
      code_by (TwoDisks D × (Bool × (Contents × List (List Change))))
      (coded× (disks_code disk) (coded× coded_bool (coded× contents_code frames_code)))
      (λ c. (c.disks, (c.known, (c.contents, c.torn))))
      (λ p. record { disks = p.0; known = p.1.0; contents = p.1.1.0; torn = p.1.1.1 }) (λ _. refl)
