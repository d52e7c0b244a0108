-- What contracts see of an open store.
use Rattle.std.specs.Prelude.{ℕ, List, Bool, Option, refl}
use Rattle.std.specs.Coded.{Coded, code_by, coded×, coded_ℕ, coded_bool, coded_list, coded_option}
use Rattle.gate_journal.specs.Side.{Heading}
use Rattle.gate_journal.specs.State.{heading_code}
use Rattle.pr_core.specs.declared.states.PrState.{PrState}
use Rattle.aptpl_store.specs.Codes.{state_code}

-- an open store: its disk, what is on its side, and how many saves can follow (own)
pub record OpenStore (D : Type 0) : Type 0 where
  pub disk : D
  pub heading : Heading
  -- the states that were saved, in order: one for each frame
  pub states : List PrState
  -- the state that was being saved when the disk failed
  pub torn : Option PrState
  -- the disk has failed, and nothing more is read or written
  pub failed : Bool
  -- the bytes that may still be added to the side; a state takes 9, and 9 for each registration
  pub room : ℕ
  -- how many saves take no memory
  pub reserved : ℕ

module _ {D : Type 0} where
  -- an open store as plain data (own)
  abbrev pub store_code : Coded D → Coded (OpenStore D)
  store_code disk =
      code_by (D × (Heading × (List PrState × (Option PrState × (Bool × (ℕ × ℕ))))))
      (coded× disk (coded× heading_code (coded× (coded_list state_code) (coded× (coded_option state_code)
      (coded× coded_bool (coded× coded_ℕ coded_ℕ))))))
      (λ s. (s.disk, (s.heading, (s.states, (s.torn, (s.failed, (s.room, s.reserved)))))))
      (λ p. record {
        disk = p.0;
        heading = p.1.0;
        states = p.1.1.0;
        torn = p.1.1.1.0;
        failed = p.1.1.1.1.0;
        room = p.1.1.1.1.1.0;
        reserved = p.1.1.1.1.1.1;
      })
      (λ _. refl)
