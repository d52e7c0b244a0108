-- Bytes that spell the head of a cartridge's side, part by part.
use Rattle.std.proofs.Common.{◌≡◌, ℕ, ◌<◌, ◌≤◌, ◌+◌, ◌-◌, ◌*◌, List, ◌∷◌, ◌++◌, length, take, drop, get_or, refl, sym, ◌∙◌, ap, subst, arith, append_assoc, length-append, length-drop, take-append-drop, Bool, true, false}
use Rattle.std.specs.Prelude.{Option, None, Some}
use Rattle.std.specs.List.{flat_map}
use Rattle.std.specs.Int.{to_be_bytes, w32, w64}
use Rattle.std.proofs.lemmas.List.{append-nil, drop-drop, drop_more, drop-take, length-take-le, take-take}
use Rattle.byteorder.specs.Endian.{big_number}
use Rattle.gate_journal.specs.declared.header.SideKind.TheVariants.{Cartridge}
use Rattle.gate_journal.specs.declared.heads.Copied.{Copied}
use Rattle.gate_journal.specs.Side.{Heading, IsHeading}
use Rattle.gate_journal.specs.Heads.{Head, IsHead, IsCopied, BeginsWithHead, ParsesHead, count_byte, spell_copied, spell_side_head}
use Rattle.gate_journal.specs.Inner.Heads.{is_copy, count_in, copied_in, head_as, heading_in}
use Rattle.gate_journal.specs.Inner.HeadsRead.{copied_size, head_is, length_head}
use Rattle.gate_journal.specs.Inner.Headings.{few_capacities}
use Rattle.gate_journal.specs.Inner.Reading.{numbers_of}
use Rattle.gate_journal.proofs.Numbers.{AreBytes, bytes_behind, bytes_in_front, eight_bytes, four_bytes, numbers_count, numbers_spelled}

-- the count of capacities fits the length of their bytes
pub counted : (bytes : List ℕ) (n : ℕ) → length bytes ≡ 17 + 8 * n → length (numbers_of (drop 17 bytes)) ≡ n
counted bytes n sized = numbers_count n (drop 17 bytes) (omega (arith, sized, length-drop 17 bytes))

-- what the first byte says
parse_plain : (copied : Option Copied) (n byte : ℕ) → byte ≡ count_byte copied n → byte < 128 →
    (is_copy copied ≡ false) × (byte ≡ n) × (copied_size copied ≡ 0)
parse_plain None n byte is few = (refl, is, refl)
parse_plain (Some copied) n byte is few = absurd (omega (arith, is, few))

parse_copy : (copied : Option Copied) (n byte : ℕ) → n ≤ 4 → byte ≡ count_byte copied n → 128 ≤ byte →
    (is_copy copied ≡ true) × (byte - 128 ≡ n) × (copied_size copied ≡ 12)
parse_copy None n byte short is many = absurd (omega (arith, is, many, short))
parse_copy (Some copied) n byte short is many = (refl, omega (arith, is), refl)

-- twelve bytes spell the epoch and the base that are read from them
twelve_bytes : (bytes : List ℕ) (copied : Copied) → 12 ≤ length bytes → AreBytes bytes →
    Some copied ≡ copied_in true bytes → take 12 bytes ≡ spell_copied (Some copied)
twelve_bytes bytes copied long fits is =
    let epoch : copied.epoch ≡ big_number 8 bytes = ap (λ (c : Option Copied). epoch_parsed c) is in
    let base : copied.base ≡ big_number 4 (drop 8 bytes) = ap (λ (c : Option Copied). base_parsed c) is in
    let rest : 4 ≤ length (drop 8 bytes) = omega (arith, long, length-drop 8 bytes) in
    sym (take-append-drop 8 (take 12 bytes))
    ∙ (λ i. take-take 8 12 bytes (omega arith) i ++ drop-take 8 4 bytes i)
    ∙ (λ i. sym (eight_bytes bytes (omega (arith, long)) fits) i ++ sym (four_bytes (drop 8 bytes) rest
    (bytes_behind 8 bytes fits)) i)
    ∙ (λ i. to_be_bytes w64 (sym epoch i) ++ to_be_bytes w32 (sym base i))
  where
    epoch_parsed : Option Copied → ℕ
    epoch_parsed None = 0
    epoch_parsed (Some c) = c.epoch

    base_parsed : Option Copied → ℕ
    base_parsed None = 0
    base_parsed (Some c) = c.base

module _ (bytes : List ℕ) where
  abbrev byte : ℕ
  byte = get_or bytes 0 0

  byte_is : (w : BeginsWithHead bytes) → byte ≡ count_byte w.0.copied (length w.0.heading.capacities)
  byte_is w = ap (λ (l : List ℕ). get_or l 0 0) w.4

  long : (w : BeginsWithHead bytes) → 17 + 8 * length w.0.heading.capacities + copied_size w.0.copied ≤ length bytes
  long w = omega (arith, length_head w.0 w.3, ap length w.4, length-append (spell_side_head w.0) w.1)

  pub none_there : length bytes ≡ 0 → BeginsWithHead bytes → ⊥
  none_there empty w = absurd (omega (arith, empty, long w))

  guess_is : (copy : Bool) (w : BeginsWithHead bytes) → is_copy w.0.copied ≡ copy → head_as Cartridge copy bytes ≡ w.0
  guess_is copy w kind = (let e = sym kind in λ i. head_as Cartridge (e i) (w.4 i)) ∙ head_is w.0 w.1 w.2 w.3

  -- what is read from the front
  front_is : (copy : Bool) (n : ℕ) → n ≡ count_in copy byte →
      heading_in (take (17 + 8 * n) bytes) ≡ (head_as Cartridge copy bytes).heading
  front_is copy n is =
      let name : take 16 (drop 1 (take (17 + 8 * n) bytes)) ≡ take 16 (drop 1 bytes) =
      (let e : 17 + 8 * n ≡ 1 + (16 + 8 * n) = omega arith in ap (λ (m : ℕ). take 16 (drop 1 (take m bytes))) e)
      ∙ ap (λ (l : List ℕ). take 16 l) (drop-take 1 (16 + 8 * n) bytes)
      ∙ take-take 16 (16 + 8 * n) (drop 1 bytes) (omega arith) in
      let numbers : numbers_of (drop 17 (take (17 + 8 * n) bytes))
      ≡ numbers_of (take (8 * count_in copy byte) (drop 17 bytes)) =
      ap numbers_of (drop-take 17 (8 * n) bytes) ∙ ap (λ (m : ℕ). numbers_of (take (8 * m) (drop 17 bytes))) is in
      λ i. record { kind = Cartridge; name = name i; capacities = numbers i }

  pub not_plain : byte < 128 → (17 + 8 * byte ≤ length bytes → IsHeading (heading_in (take (17 + 8 * byte) bytes)) →
      ⊥) →
      BeginsWithHead bytes → ⊥
  not_plain few never w =
      let parsed = parse_plain w.0.copied (length w.0.heading.capacities) byte (byte_is w) few in
      never (omega (arith, long w, parsed.1))
      (subst (λ (h : Heading). IsHeading h)
      (sym (front_is false byte refl ∙ ap (λ (h : Head). h.heading) (guess_is false w parsed.0))) w.3.heading)

  pub not_copy : 128 ≤ byte →
      (17 + 8 * (byte - 128) + 12 ≤ length bytes → IsHeading (heading_in (take (17 + 8 * (byte - 128)) bytes)) → ⊥) →
      BeginsWithHead bytes → ⊥
  not_copy many never w =
      let parsed = parse_copy w.0.copied (length w.0.heading.capacities) byte
      (few_capacities w.0.heading w.3.heading) (byte_is w) many in
      never (omega (arith, long w, parsed.1, parsed.2))
      (subst (λ (h : Heading). IsHeading h)
      (sym (front_is true (byte - 128) refl ∙ ap (λ (h : Head). h.heading) (guess_is true w parsed.0))) w.3.heading)

  module _ (fits : AreBytes bytes) where
    abbrev numbers_at : ℕ → List ℕ
    numbers_at n = take (8 * n) (drop 17 bytes)

    abbrev last_at : ℕ → List ℕ
    last_at n = drop (8 * n) (drop 17 bytes)

    many : (n : ℕ) → 17 + 8 * n ≤ length bytes → length (numbers_at n) ≡ 8 * n
    many n enough = length-take-le (8 * n) (drop 17 bytes) (omega (arith, enough, length-drop 17 bytes))

    -- the bytes up to the capacities
    spelled : (n : ℕ) → 17 + 8 * n ≤ length bytes →
        bytes ≡ byte ∷ take 16 (drop 1 bytes) ++ flat_map (to_be_bytes w64) (numbers_of (numbers_at n)) ++ last_at n
    spelled n enough =
        drop_more bytes 0 0 (omega (arith, enough))
        ∙ ap (λ (l : List ℕ). byte ∷ l) (sym (take-append-drop 16 (drop 1 bytes))
        ∙ ap (λ (l : List ℕ). take 16 (drop 1 bytes) ++ l) (drop-drop 16 1 bytes
        ∙ sym (take-append-drop (8 * n) (drop 17 bytes))
        ∙ ap (λ (l : List ℕ). l ++ last_at n) (sym (numbers_spelled n (numbers_at n) (many n enough)
        (bytes_in_front (8 * n) (drop 17 bytes) (bytes_behind 17 bytes fits)))))
        ∙ sym (append_assoc (take 16 (drop 1 bytes)) (flat_map (to_be_bytes w64) (numbers_of (numbers_at n)))
        (last_at n)))

    pub found_plain : byte < 128 → 17 + 8 * byte ≤ length bytes → IsHeading (heading_in (take (17 + 8 * byte) bytes)) →
        ParsesHead bytes (Some (record { copied = None; size = 17 + 8 * byte }))
    found_plain few enough ok =
        let count : length (numbers_of (numbers_at byte)) ≡ byte =
        numbers_count byte (numbers_at byte) (many byte enough) in
        let head : Head = head_as Cartridge false bytes in
        let well : IsHead head = record {
          heading = subst (λ (h : Heading). IsHeading h) (front_is false byte refl) ok;
          copied = tt;
        } in
        let whole : bytes ≡ spell_side_head head ++ last_at byte = spelled byte enough
        ∙ ap (λ (n : ℕ). n ∷ take 16 (drop 1 bytes) ++ flat_map (to_be_bytes w64) (numbers_of (numbers_at byte))
        ++ last_at byte) (sym count)
        ∙ ap (λ (l : List ℕ). l ++ last_at byte) (sym (append-nil (length (numbers_of (numbers_at byte)) ∷ take 16
        (drop 1 bytes) ++ flat_map (to_be_bytes w64) (numbers_of (numbers_at byte))))) in (
          head,
          last_at byte,
          refl,
          well,
          whole,
          (omega (arith, length_head head well, count), refl),
        )

    pub found_copy : (copied : Copied) → 128 ≤ byte → 17 + 8 * (byte - 128) + 12 ≤ length bytes →
        IsHeading (heading_in (take (17 + 8 * (byte - 128)) bytes)) →
        Some copied ≡ copied_in true (drop (17 + 8 * (byte - 128)) bytes) → IsCopied Cartridge (Some copied) →
        ParsesHead bytes (Some (record { copied = Some copied; size = 17 + 8 * (byte - 128) + 12 }))
    found_copy copied big enough ok is well =
        let n : ℕ = byte - 128 in
        let short : 17 + 8 * n ≤ length bytes = omega (arith, enough) in
        let count : length (numbers_of (numbers_at n)) ≡ n = numbers_count n (numbers_at n) (many n short) in
        let there : drop (17 + 8 * n) bytes ≡ last_at n =
        sym (drop-drop (8 * n) 17 bytes) in
        let parsed : Some copied ≡ copied_in true (last_at n) = is ∙ ap (λ (l : List ℕ). copied_in true l) there in
        let head : Head = record { heading = (head_as Cartridge true bytes).heading; copied = Some copied } in
        let right : IsHead head = record {
          heading = subst (λ (h : Heading). IsHeading h) (front_is true n refl) ok;
          copied = well;
        } in
        let fits' : AreBytes (last_at n) = bytes_behind (8 * n) (drop 17 bytes) (bytes_behind 17 bytes fits) in
        let room : 12 ≤ length (last_at n) =
        omega (arith, enough, length-drop 17 bytes, length-drop (8 * n) (drop 17 bytes)) in
        let twelve : last_at n ≡ spell_copied (Some copied) ++ drop 12 (last_at n) =
        sym (take-append-drop 12 (last_at n))
        ∙ ap (λ (l : List ℕ). l ++ drop 12 (last_at n)) (twelve_bytes (last_at n) copied room fits' parsed) in
        let marked : byte ≡ 128 + length (numbers_of (numbers_at n)) = omega (arith, big, count) in
        let front : List ℕ = (128 + length (numbers_of (numbers_at n))) ∷ take 16 (drop 1 bytes)
        ++ flat_map (to_be_bytes w64) (numbers_of (numbers_at n)) in
        let whole : bytes ≡ spell_side_head head ++ drop 12 (last_at n) = spelled n short
        ∙ ap (λ (m : ℕ). m ∷ take 16 (drop 1 bytes) ++ flat_map (to_be_bytes w64) (numbers_of (numbers_at n))
        ++ last_at n) marked
        ∙ ap (λ (l : List ℕ). front ++ l) twelve
        ∙ sym (append_assoc front (spell_copied (Some copied)) (drop 12 (last_at n))) in (
          head,
          drop 12 (last_at n),
          refl,
          right,
          whole,
          (omega (arith, length_head head right, count), refl),
        )
