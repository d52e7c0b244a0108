-- What contracts see of a frame that is spelled in the buffer that is written to the disk.
use Rattle.std.specs.Prelude.{ℕ, List, [], refl}
use Rattle.std.specs.Coded.{Coded, code_by, coded×, coded_ℕ, coded_list}

-- the body of a frame, and how many bytes of a body take no more memory (own)
pub record SpelledBody : Type 0 where
  pub body : List ℕ
  pub room : ℕ

-- a spelled body as plain data, for the view of a type that contains one (own)
abbrev pub spelled_code : Coded SpelledBody
spelled_code =
    code_by (List ℕ × ℕ) (coded× (coded_list coded_ℕ) coded_ℕ) (λ s. (s.body, s.room))
    (λ p. record { body = p.0; room = p.1 }) (λ _. refl)

-- the frame without its body; its room stays (own)
abbrev pub body_taken : SpelledBody → SpelledBody
body_taken frame = record { body = []; room = frame.room }
