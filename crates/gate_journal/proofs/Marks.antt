-- Gate and length of a frame, as they are read.
use Rattle.std.proofs.Common.{◌≡◌, ℕ, suc, ◌+◌, ◌-◌, ◌<◌, ◌^◌, ◌≤◌, List, [], ◌∷◌, ◌++◌, length, get_or, take, drop, refl, sym, ◌∙◌, ap, arith, append_assoc, length-append, length-drop, take-append-drop}
use Rattle.std.specs.Prelude.{slice_range}
use Rattle.std.specs.Int.{to_be_bytes, w32}
use Rattle.std.proofs.lemmas.List.{drop-drop, drop_more, length-take-le, get_or_append_left}
use Rattle.std.proofs.lemmas.Nat.{be_bytes_4}
use Rattle.byteorder.specs.Endian.{big_from}
use Rattle.byteorder.specs.Numbers.{big_number-reads_back}
use Rattle.gate_journal.specs.Side.{OPEN, frame, BeginsWithFrame}
use Rattle.gate_journal.specs.Inner.Frames.{is_length, length-frame}

-- five bytes that begin with an open gate
pub open_mark : (mark : List ℕ) → length mark ≡ 5 → ((i : ℕ) → get_or mark i 0 < 256) → get_or mark 0 0 ≡ OPEN →
    (size : ℕ) → size ≡ big_from 0 4 (take 4 (drop 1 mark)) → mark ≡ OPEN ∷ to_be_bytes w32 size
open_mark (a ∷ b ∷ c ∷ d ∷ e ∷ []) sized fits is size read =
    let number = be_bytes_4 (b ∷ c ∷ d ∷ e ∷ []) size refl (λ i. fits (suc i)) (omega (arith, read)) in
    λ i. is i ∷ sym number i
open_mark [] sized fits is size read = absurd (omega (arith, sized))
open_mark (a ∷ []) sized fits is size read = absurd (omega (arith, sized))
open_mark (a ∷ b ∷ []) sized fits is size read = absurd (omega (arith, sized))
open_mark (a ∷ b ∷ c ∷ []) sized fits is size read = absurd (omega (arith, sized))
open_mark (a ∷ b ∷ c ∷ d ∷ []) sized fits is size read = absurd (omega (arith, sized))
open_mark (a ∷ b ∷ c ∷ d ∷ e ∷ f ∷ more) sized fits is size read = absurd (omega (arith, sized))

module _ (seen : List ℕ) (at : ℕ) (inside : at < length seen) where
  -- one byte at that place
  pub one_byte : drop at seen ≡ get_or seen at 0 ∷ drop (at + 1) seen
  one_byte = drop_more seen at 0 inside

  -- a frame there needs its own bytes and a further one
  pub needs : (w : BeginsWithFrame (drop at seen)) → 5 + length w.0 < length seen - at
  needs w = omega (arith, length-drop at seen, ap length w.4, length-append (frame w.0) (w.1 ∷ w.2), length-frame w.0)

  module _ (mark : List ℕ) (long : at + 5 ≤ length seen) (got : mark ≡ slice_range seen at (at + 5)) where
    pub split : drop at seen ≡ mark ++ drop (at + 5) seen
    split =
        sym (take-append-drop 5 (drop at seen))
        ∙ (let e : 5 ≡ at + 5 - at = omega arith in ap (λ (n : ℕ). take n (drop at seen) ++ drop 5 (drop at seen)) e)
        ∙ ap (λ (l : List ℕ). l ++ drop 5 (drop at seen)) (sym got)
        ∙ ap (λ (l : List ℕ). mark ++ l) (drop-drop 5 at seen)

    pub first_byte : 5 ≡ length mark → drop at seen ≡ get_or mark 0 0 ∷ drop (at + 1) seen
    first_byte sized = one_byte ∙ ap (λ (n : ℕ). n ∷ drop (at + 1) seen) (
        ap (λ (l : List ℕ). get_or l 0 0) (sym one_byte) ∙ ap (λ (l : List ℕ). get_or l 0 0) split
        ∙ get_or_append_left mark (drop (at + 5) seen) 0 0 (omega (arith, sized)))

    module _ (size : ℕ) (fits : size < 2 ^ 32) (is : mark ≡ OPEN ∷ to_be_bytes w32 size) where
      pub parsed : drop at seen ≡ OPEN ∷ (to_be_bytes w32 size ++ drop (at + 5) seen)
      parsed = split ∙ ap (λ (l : List ℕ). l ++ drop (at + 5) seen) is

      -- the length that a frame there would have
      pub would_have : (w : BeginsWithFrame (drop at seen)) → length w.0 ≡ size
      would_have w =
          sym (is_length (drop at seen) w) ∙ ap (λ (l : List ℕ). big_from 0 4 (drop 1 l)) parsed
          ∙ big_number-reads_back 4 size (drop (at + 5) seen) (omega (arith, fits))

      pub whole : at + 5 + size < length seen →
          (body : List ℕ) × (rest : List ℕ) × (length body ≡ size) × (drop at seen ≡ frame body ++ rest)
          × (rest ≡ drop (at + 5 + size) seen)
      whole enough =
          let body = take size (drop (at + 5) seen) in
          let sized : length body ≡ size =
          length-take-le size (drop (at + 5) seen) (omega (arith, enough, length-drop (at + 5) seen)) in (
            body,
            drop size (drop (at + 5) seen),
            sized,
            parsed
                ∙ ap (λ (l : List ℕ). OPEN ∷ (to_be_bytes w32 size ++ l))
                (sym (take-append-drop size (drop (at + 5) seen)))
                ∙ ap (λ (n : ℕ). OPEN ∷ (to_be_bytes w32 n ++ (body ++ drop size (drop (at + 5) seen)))) (sym sized)
                ∙ sym (append_assoc (OPEN ∷ to_be_bytes w32 (length body)) body (drop size (drop (at + 5) seen))),
            drop-drop size (at + 5) seen,
          )
