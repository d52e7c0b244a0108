-- A head has one spelling, and whether bytes begin with one is decidable.
use Rattle.std.proofs.Common.{◌≡◌, ◌⊎◌, inl, inr, ⊎_elim, ℕ, ◌<◌, ◌≤◌, ◌+◌, ◌*◌, ◌^◌, List, ◌∷◌, ◌++◌, length, take, drop, get_or, refl, sym, ◌∙◌, ap, subst, arith, append_assoc, length-append, Bool, true, false}
use Rattle.std.specs.Prelude.{IsTrue, Option, None, Some, slice_index}
use Rattle.std.specs.List.{All, flat_map}
use Rattle.std.specs.Int.{to_be_bytes, w32, w64}
use Rattle.std.proofs.lemmas.List.{take_at, drop_at, append_cancel_left}
use Rattle.vtl_base.specs.Limits.{is_capacity}
use Rattle.byteorder.specs.Endian.{big_number}
use Rattle.byteorder.specs.Numbers.{big_number-reads_back}
use Rattle.gate_journal.specs.declared.header.SideKind.{SideKind}
use Rattle.gate_journal.specs.declared.header.SideKind.TheVariants.{Cartridge, Store}
use Rattle.gate_journal.specs.declared.heads.Copied.{Copied}
use Rattle.gate_journal.specs.Side.{IsHeading}
use Rattle.gate_journal.specs.Heads.{Head, IsHead, IsCopied, BeginsWithHead, count_byte, spell_copied, spell_side_head}
pub use Rattle.gate_journal.specs.Inner.Reading.{copied_size}
use Rattle.gate_journal.specs.Inner.Reading.{numbers_of}
use Rattle.gate_journal.specs.Inner.Deciding.{Decidable, both, decided_as, below, same}
use Rattle.gate_journal.specs.Inner.Headings.{length_name, length_capacities, numbers_again, decided_heading, few_capacities}
use Rattle.gate_journal.specs.Inner.Heads.{is_copy, count_in, copied_in, head_as}

abbrev Allowed : ℕ → Type 0
Allowed bytes = IsTrue (is_capacity bytes)

pub count_again : (copied : Option Copied) (n : ℕ) → count_in (is_copy copied) (count_byte copied n) ≡ n
count_again None n = refl
count_again (Some copied) n = omega arith

-- only a cartridge's side is a copy
of_cartridge : (kind : SideKind) (copied : Option Copied) → IsCopied kind copied → IsCopied Cartridge copied
of_cartridge kind None ok = tt
of_cartridge Cartridge (Some copied) ok = ok
of_cartridge Store (Some copied) ok = absurd ok

copied_again : (copied : Option Copied) (rest : List ℕ) → IsCopied Cartridge copied →
    copied_in (is_copy copied) (spell_copied copied ++ rest) ≡ copied
copied_again None rest ok = refl
copied_again (Some copied) rest (wide, narrow) =
    let first : big_number 8 (spell_copied (Some copied) ++ rest) ≡ copied.epoch =
    ap (λ (l : List ℕ). big_number 8 l) (append_assoc (to_be_bytes w64 copied.epoch) (to_be_bytes w32 copied.base) rest)
    ∙ big_number-reads_back 8 copied.epoch (to_be_bytes w32 copied.base ++ rest) wide in
    let second : big_number 4 (drop 8 (spell_copied (Some copied) ++ rest)) ≡ copied.base =
    ap (λ (l : List ℕ). big_number 4 (drop 8 l))
    (append_assoc (to_be_bytes w64 copied.epoch) (to_be_bytes w32 copied.base) rest)
    ∙ big_number-reads_back 4 copied.base rest narrow in
    λ i. Some (record { epoch = first i; base = second i })

module _ (name capacities : List ℕ) (copied : Option Copied) (rest : List ℕ) (named : length name ≡ 16)
    (ok : All Allowed capacities) (well : IsCopied Cartridge copied) where
  abbrev numbers : List ℕ
  numbers = flat_map (to_be_bytes w64) capacities

  abbrev last : List ℕ
  last = spell_copied copied ++ rest

  abbrev tail : List ℕ
  tail = name ++ numbers ++ spell_copied copied ++ rest

  regrouped : tail ≡ name ++ (numbers ++ last)
  regrouped = append_assoc (name ++ numbers) (spell_copied copied) rest ∙ append_assoc name numbers last

  behind_name : drop 16 tail ≡ numbers ++ last
  behind_name = ap (λ (l : List ℕ). drop 16 l) regrouped ∙ drop_at name (numbers ++ last) 16 named

  name_parsed : take 16 tail ≡ name
  name_parsed = ap (λ (l : List ℕ). take 16 l) regrouped ∙ take_at name (numbers ++ last) 16 named

  abbrev n : ℕ
  n = count_in (is_copy copied) (count_byte copied (length capacities))

  sized : length numbers ≡ 8 * n
  sized = omega (arith, length_capacities capacities, count_again copied (length capacities))

  capacities_parsed : numbers_of (take (8 * n) (drop 16 tail)) ≡ capacities
  capacities_parsed =
      ap (λ (l : List ℕ). numbers_of (take (8 * n) l)) behind_name
      ∙ ap numbers_of (take_at numbers last (8 * n) sized) ∙ numbers_again capacities ok

  copied_parsed : copied_in (is_copy copied) (drop (8 * n) (drop 16 tail)) ≡ copied
  copied_parsed =
      ap (λ (l : List ℕ). copied_in (is_copy copied) (drop (8 * n) l)) behind_name
      ∙ ap (λ (l : List ℕ). copied_in (is_copy copied) l) (drop_at numbers last (8 * n) sized)
      ∙ copied_again copied rest well

  again : (kind : SideKind) → head_as kind (is_copy copied) (count_byte copied (length capacities) ∷ tail) ≡ record {
    heading = record { kind = kind; name = name; capacities = capacities };
    copied = copied;
  }
  again kind = λ i. record {
    heading = record { kind = kind; name = name_parsed i; capacities = capacities_parsed i };
    copied = copied_parsed i;
  }

-- reading the spelling of a head gives the head, for any kind of side
pub any_head_is : (h : Head) (rest : List ℕ) → IsHead h →
    head_as h.heading.kind (is_copy h.copied) (spell_side_head h ++ rest) ≡ h
any_head_is h rest ok =
    again h.heading.name h.heading.capacities h.copied rest (length_name h.heading.kind h.heading.name ok.heading.name)
    ok.heading.capacities (of_cartridge h.heading.kind h.copied ok.copied) h.heading.kind

pub head_is : (h : Head) (rest : List ℕ) → h.heading.kind ≡ Cartridge → IsHead h →
    head_as Cartridge (is_copy h.copied) (spell_side_head h ++ rest) ≡ h
head_is h rest is ok =
    (λ i. head_as (sym is i) (is_copy h.copied) (spell_side_head h ++ rest)) ∙ any_head_is h rest ok

-- the byte of the count decides whether a head is that of a copy
pub parse_copy : (a b : Option Copied) (m n : ℕ) → m ≤ 4 → n ≤ 4 → count_byte a m ≡ count_byte b n →
    is_copy a ≡ is_copy b
parse_copy None None m n few less e = refl
parse_copy (Some a) (Some b) m n few less e = refl
parse_copy None (Some b) m n few less e = absurd (omega (arith, few, less, e))
parse_copy (Some a) None m n few less e = absurd (omega (arith, few, less, e))

-- bytes begin with at most one head
pub same_head : (h k : Head) (r s : List ℕ) → h.heading.kind ≡ Cartridge → k.heading.kind ≡ Cartridge → IsHead h →
    IsHead k → spell_side_head h ++ r ≡ spell_side_head k ++ s → (h ≡ k) × (r ≡ s)
same_head h k r s hc kc okh okk e =
    let copies = parse_copy h.copied k.copied (length h.heading.capacities) (length k.heading.capacities)
    (few_capacities h.heading okh.heading) (few_capacities k.heading okk.heading)
    (ap (λ (l : List ℕ). get_or l 0 0) e) in
    let one : h ≡ k = sym (head_is h r hc okh) ∙ (λ i. head_as Cartridge (copies i) (e i)) ∙ head_is k s kc okk in (
      one,
      append_cancel_left (spell_side_head k) r s (ap (λ (g : Head). spell_side_head g ++ r) (sym one) ∙ e),
    )

pub decided_copied : (kind : SideKind) (copied : Option Copied) → Decidable (IsCopied kind copied)
decided_copied kind None = inl tt
decided_copied Store (Some copied) = inr (λ never. never)
decided_copied Cartridge (Some copied) = decided_as
    (λ (w : (copied.epoch + 1 ≤ 2 ^ 64) × (copied.base + 1 ≤ 2 ^ 32)). (omega (arith, w.0), omega (arith, w.1)))
    (λ (w : (copied.epoch < 2 ^ 64) × (copied.base < 2 ^ 32)). (omega (arith, w.0), omega (arith, w.1)))
    (both (below (copied.epoch + 1) (2 ^ 64)) (below (copied.base + 1) (2 ^ 32)))

abbrev OfKind : Bool → List ℕ → Type 0
OfKind copy bytes =
    (h : Head) × (rest : List ℕ) × (h.heading.kind ≡ Cartridge) × IsHead h × (bytes ≡ spell_side_head h ++ rest)
    × (is_copy h.copied ≡ copy)

pub kind_again : (copy : Bool) (bytes : List ℕ) → is_copy (copied_in copy bytes) ≡ copy
kind_again false bytes = refl
kind_again true bytes = refl

module _ (copy : Bool) (bytes : List ℕ) where
  abbrev guess : Head
  guess = head_as Cartridge copy bytes

  abbrev behind : List ℕ
  behind = drop (length (spell_side_head guess)) bytes

  guessed : (w : OfKind copy bytes) → guess ≡ w.0
  guessed w = (let back : copy ≡ is_copy w.0.copied = sym w.5 in λ i. head_as Cartridge (back i) (w.4 i))
      ∙ head_is w.0 w.1 w.2 w.3

  spelled : (w : OfKind copy bytes) → spell_side_head guess ++ behind ≡ bytes
  spelled w =
      (λ i. spell_side_head (guessed w i) ++ drop (length (spell_side_head (guessed w i))) bytes)
      ∙ ap (λ (l : List ℕ). spell_side_head w.0 ++ drop (length (spell_side_head w.0)) l) w.4
      ∙ ap (λ (l : List ℕ). spell_side_head w.0 ++ l) (drop_at (spell_side_head w.0) w.1 (length
      (spell_side_head w.0)) refl)
      ∙ sym w.4

  decided_of_kind : Decidable (OfKind copy bytes)
  decided_of_kind =
      decided_as
      (λ (w : (IsHeading guess.heading × IsCopied Cartridge guess.copied)
      × (spell_side_head guess ++ behind ≡ bytes)). (
        guess,
        behind,
        refl,
        record { heading = w.0.0; copied = w.0.1 },
        sym w.1,
        kind_again copy (drop (8 * count_in copy (slice_index bytes 0)) (drop 17 bytes)),
      ))
      (λ (w : OfKind copy bytes). let ok : IsHead guess = subst IsHead (sym (guessed w)) w.3 in
      ((ok.heading, ok.copied), spelled w))
      (both (both (decided_heading guess.heading) (decided_copied Cartridge guess.copied))
      (same (spell_side_head guess ++ behind) bytes))

one_of_two : (bytes : List ℕ) → BeginsWithHead bytes → OfKind false bytes ⊎ OfKind true bytes
one_of_two bytes (h, rest, kind, ok, is) = go (is_copy h.copied) refl
  where
    go : (b : Bool) → is_copy h.copied ≡ b → OfKind false bytes ⊎ OfKind true bytes
    go false e = inl (h, rest, kind, ok, is, e)
    go true e = inr (h, rest, kind, ok, is, e)

-- it is decidable whether bytes begin with a head
pub decided_head : (bytes : List ℕ) → Decidable (BeginsWithHead bytes)
decided_head bytes = elim (decided_of_kind false bytes) [
  | inl w ↦ inl (w.0, w.1, w.2, w.3, w.4)
  | inr never ↦ elim (decided_of_kind true bytes) [
    | inl w ↦ inl (w.0, w.1, w.2, w.3, w.4)
    | inr nor ↦ inr (λ w. ⊎_elim never nor (one_of_two bytes w))
  ]
]

length_copied : (copied : Option Copied) → length (spell_copied copied) ≡ copied_size copied
length_copied None = refl
length_copied (Some copied) = refl

pub length_head : (h : Head) → IsHead h →
    length (spell_side_head h) ≡ 17 + 8 * length h.heading.capacities + copied_size h.copied
length_head h ok =
    let numbers = flat_map (to_be_bytes w64) h.heading.capacities in
    let byte = count_byte h.copied (length h.heading.capacities) in
    omega (
      arith,
      length_name h.heading.kind h.heading.name ok.heading.name,
      length_capacities h.heading.capacities,
      length_copied h.copied,
      length-append (byte ∷ h.heading.name ++ numbers) (spell_copied h.copied),
      length-append (byte ∷ h.heading.name) numbers,
    )

copied_short : (copied : Option Copied) → copied_size copied ≤ 12
copied_short None = omega arith
copied_short (Some copied) = omega arith

-- the longest head is that of a copy with four capacities
pub short_head : (h : Head) → IsHead h → length (spell_side_head h) ≤ 61
short_head h ok = omega (arith, length_head h ok, few_capacities h.heading ok.heading, copied_short h.copied)
