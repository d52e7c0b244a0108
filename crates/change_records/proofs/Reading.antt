-- The first ten bytes give a record, where they are bytes.
use Rattle.std.proofs.Common.{◌≡◌, inl, inr, ℕ, zero, suc, ◌<◌, ◌≤◌, ◌+◌, ◌-◌, ◌^◌, List, [], ◌∷◌, ◌++◌, length, get_or, take, drop, refl, sym, ◌∙◌, ap, subst, arith, take-append-drop, Some, None, false}
use Rattle.std.specs.Prelude.{if◌then◌else◌, slice_index, nat_lt, nat_le, ◌&&◌, ◌==◌}
use Rattle.std.specs.Int.{to_be_bytes, w32}
use Rattle.std.proofs.lemmas.Bool.{and_parts, cases_Bool, cond-true, cond-false, eqb-true, leb-true, le-ltb, lt-ltb}
use Rattle.std.proofs.lemmas.List.{drop-drop, length-take-le}
use Rattle.std.proofs.lemmas.Nat.{be_bytes_4}
use Rattle.std.proofs.lemmas.Option.{cond_some}
use Rattle.byteorder.specs.Endian.{big_number}
use Rattle.vtl_base.specs.declared.limits.TheConstants.{MAX_BLOCK, MAX_OBJECTS}
use Rattle.volume_core.specs.declared.changes.Change.TheVariants as Changes
use Rattle.change_records.specs.declared.records.Record.{Record}
use Rattle.change_records.specs.declared.records.Record.TheVariants.{Put, Marks, Erase}
use Rattle.change_records.specs.Records.{IsAtFront, BeginsWithRecord, record_of}
use Rattle.change_records.specs.Inner.Decoded.{decoded, kind_decoded, block_decoded, marks_decoded, erase_decoded}
use Rattle.change_records.specs.Inner.Spelled.{length-spell, decoded_again}

-- bytes that begin with a record give one
pub none_begins : (bytes : List ℕ) → decoded bytes ≡ None → BeginsWithRecord bytes → ⊥
none_begins bytes none w =
    let e : None ≡ Some (record_of w.0) = sym none ∙ ap decoded w.3 ∙ decoded_again w.0 w.1 w.2 in cc

-- the record of a head with these numbers
abbrev pub Decodes : ℕ → ℕ → ℕ → ℕ → ℕ → Record → Type 0
Decodes kind part at number there (Put p a n) =
    (kind ≡ 1) × (p ≡ part) × (a ≡ at) × (n ≡ number) × (1 ≤ n) × (n ≤ MAX_BLOCK) × (n ≤ there)
Decodes kind part at number there (Marks p a n) =
    (kind ≡ 2) × (p ≡ part) × (a ≡ at) × (n ≡ number) × (1 ≤ n) × (n ≤ MAX_OBJECTS)
Decodes kind part at number there (Erase p a) = (kind ≡ 3) × (p ≡ part) × (a ≡ at) × (number ≡ 0)

block_decodes : (part at number there : ℕ) (item : Record) → block_decoded part at number there ≡ Some item
    → Decodes 1 part at number there item
block_decodes part at number there item is =
    let found =
    cond_some (nat_le 1 number && nat_le number MAX_BLOCK && nat_le number there) (Put part at number) item is in
    let parts = and_parts (nat_le 1 number && nat_le number MAX_BLOCK) (nat_le number there) found.0 in
    let few = and_parts (nat_le 1 number) (nat_le number MAX_BLOCK) parts.0 in
    subst (λ (i : Record). Decodes 1 part at number there i) found.1 (
      refl,
      refl,
      refl,
      refl,
      leb-true 1 number few.0,
      leb-true number MAX_BLOCK few.1,
      leb-true number there parts.1,
    )

marks_decodes : (part at number there : ℕ) (item : Record) → marks_decoded part at number ≡ Some item
    → Decodes 2 part at number there item
marks_decodes part at number there item is =
    let found = cond_some (nat_le 1 number && nat_le number MAX_OBJECTS) (Marks part at number) item is in
    let few = and_parts (nat_le 1 number) (nat_le number MAX_OBJECTS) found.0 in
    subst (λ (i : Record). Decodes 2 part at number there i) found.1 (
      refl,
      refl,
      refl,
      refl,
      leb-true 1 number few.0,
      leb-true number MAX_OBJECTS few.1,
    )

erase_decodes : (part at number there : ℕ) (item : Record) → erase_decoded part at number ≡ Some item
    → Decodes 3 part at number there item
erase_decodes part at number there item is =
    let found = cond_some (number == 0) (Erase part at) item is in
    subst (λ (i : Record). Decodes 3 part at number there i) found.1 (refl, refl, refl, eqb-true number 0 found.0)

third : (kind part at number there : ℕ) (item : Record)
    → (if kind == 3 then erase_decoded part at number else None) ≡ Some item → Decodes kind part at number there item
third kind part at number there item is = elim (cases_Bool (kind == 3)) [
  | inl holds ↦ subst (λ (k : ℕ). Decodes k part at number there item) (sym (eqb-true kind 3 holds))
      (erase_decodes part at number there item
      (sym (cond-true (kind == 3) (erase_decoded part at number) None holds) ∙ is))
  | inr fails ↦
      let none : None ≡ Some item = sym (cond-false (kind == 3) (erase_decoded part at number) None fails) ∙ is in
      absurd (cc)
]

second : (kind part at number there : ℕ) (item : Record)
    → (if kind == 2 then marks_decoded part at number else (if kind == 3 then erase_decoded part at number else None))
    ≡ Some item
    → Decodes kind part at number there item
second kind part at number there item is = elim (cases_Bool (kind == 2)) [
  | inl holds ↦ subst (λ (k : ℕ). Decodes k part at number there item) (sym (eqb-true kind 2 holds))
      (marks_decodes part at number there item (sym (cond-true (kind == 2) (marks_decoded part at number)
      (if kind == 3 then erase_decoded part at number else None) holds) ∙ is))
  | inr fails ↦ third kind part at number there item (sym (cond-false (kind == 2) (marks_decoded part at number)
      (if kind == 3 then erase_decoded part at number else None) fails) ∙ is)
]

pub kind_decodes : (kind part at number there : ℕ) (item : Record) → kind_decoded kind part at number there ≡ Some item
    → Decodes kind part at number there item
kind_decodes kind part at number there item is = elim (cases_Bool (kind == 1)) [
  | inl holds ↦ subst (λ (k : ℕ). Decodes k part at number there item) (sym (eqb-true kind 1 holds))
      (block_decodes part at number there item (sym (cond-true (kind == 1) (block_decoded part at number there)
      (if kind == 2 then marks_decoded part at number else
      (if kind == 3 then erase_decoded part at number else None)) holds) ∙ is))
  | inr fails ↦ second kind part at number there item (sym (cond-false (kind == 1) (block_decoded part at number there)
      (if kind == 2 then marks_decoded part at number else
      (if kind == 3 then erase_decoded part at number else None)) fails) ∙ is)
]

four : (a b c d : ℕ) → a < 256 → b < 256 → c < 256 → d < 256
    → (i : ℕ) → get_or (a ∷ b ∷ c ∷ d ∷ []) i 0 < 256
four a b c d fa fb fc fd zero = fa
four a b c d fa fb fc fd (suc zero) = fb
four a b c d fa fb fc fd (suc (suc zero)) = fc
four a b c d fa fb fc fd (suc (suc (suc zero))) = fd
four a b c d fa fb fc fd (suc (suc (suc (suc i)))) = omega arith

-- ten bytes, and what follows
module _ (a b c d e f g h i j : ℕ) (tail : List ℕ) where
  abbrev cells : List ℕ
  cells = a ∷ b ∷ c ∷ d ∷ e ∷ f ∷ g ∷ h ∷ i ∷ j ∷ tail

  abbrev at : ℕ
  at = big_number 4 (drop 2 cells)

  abbrev number : ℕ
  number = big_number 4 (drop 6 cells)

  abbrev ten : List ℕ
  ten = a ∷ b ∷ c ∷ d ∷ e ∷ f ∷ g ∷ h ∷ i ∷ j ∷ []

  -- the first ten are bytes if all are
  first_ten : ((k : ℕ) → get_or cells k 0 < 256) → (k : ℕ) → get_or ten k 0 < 256
  first_ten fits zero = fits 0
  first_ten fits (suc zero) = fits 1
  first_ten fits (suc (suc zero)) = fits 2
  first_ten fits (suc (suc (suc zero))) = fits 3
  first_ten fits (suc (suc (suc (suc zero)))) = fits 4
  first_ten fits (suc (suc (suc (suc (suc zero))))) = fits 5
  first_ten fits (suc (suc (suc (suc (suc (suc zero)))))) = fits 6
  first_ten fits (suc (suc (suc (suc (suc (suc (suc zero))))))) = fits 7
  first_ten fits (suc (suc (suc (suc (suc (suc (suc (suc zero)))))))) = fits 8
  first_ten fits (suc (suc (suc (suc (suc (suc (suc (suc (suc zero))))))))) = fits 9
  first_ten fits (suc (suc (suc (suc (suc (suc (suc (suc (suc (suc k)))))))))) = omega arith

  module _ (fits : (k : ℕ) → get_or ten k 0 < 256) where
    at_bytes : (n : ℕ) → n ≡ at → c ∷ d ∷ e ∷ f ∷ [] ≡ to_be_bytes w32 n
    at_bytes n is = sym (be_bytes_4 (c ∷ d ∷ e ∷ f ∷ []) n refl (four c d e f (fits 2) (fits 3) (fits 4) (fits 5))
        (omega (arith, is)))

    number_bytes : (n : ℕ) → n ≡ number → g ∷ h ∷ i ∷ j ∷ [] ≡ to_be_bytes w32 n
    number_bytes n is = sym (be_bytes_4 (g ∷ h ∷ i ∷ j ∷ []) n refl (four g h i j (fits 6) (fits 7) (fits 8) (fits 9))
        (omega (arith, is)))

    at_fits : at < 2 ^ 32
    at_fits =
        let f2 = fits 2 in let f3 = fits 3 in let f4 = fits 4 in let f5 = fits 5 in
        omega (arith, f2, f3, f4, f5)

    pub found_cells : (item : Record) → Decodes a b at number (length tail) item → IsAtFront item cells
    found_cells (Put p n s) (kind, part, where_at, decoded, some, few, there) =
        let sized : length (take s tail) ≡ s = length-take-le s tail there in
        let rest : drop s tail ≡ drop (10 + s) cells = drop-drop s 10 cells in
        let part_fits : p < 2 ^ 8 = omega (arith, fits 1, part) in
        let place_fits : n < 2 ^ 32 = omega (arith, at_fits, where_at) in
        let part_is : b ≡ p = sym part in
        let atb = at_bytes n where_at in
        let numb = number_bytes (length (take s tail)) (sized ∙ decoded) in
        let behind : tail ≡ take s tail ++ drop (10 + s) cells =
        sym (take-append-drop s tail) ∙ ap (λ (l : List ℕ). take s tail ++ l) rest in
        record {
          valid = ((part_fits, place_fits), omega (arith, some, sized), omega (arith, few, sized));
          spelled = λ k. kind k ∷ (part_is k ∷ (atb k ++ (numb k ++ behind k)));
          sized = omega (arith, length-spell (Changes.Put p n (take s tail)), sized);
          within = omega (arith, there);
          of_it = ap (Put p n) sized;
        }
    found_cells (Marks p n s) (kind, part, where_at, decoded, some, few) =
        let part_fits : p < 2 ^ 8 = omega (arith, fits 1, part) in
        let place_fits : n < 2 ^ 32 = omega (arith, at_fits, where_at) in
        let part_is : b ≡ p = sym part in
        let atb = at_bytes n where_at in
        let numb = number_bytes s decoded in
        record {
          valid = ((part_fits, place_fits), some, few);
          spelled = λ k. kind k ∷ (part_is k ∷ (atb k ++ (numb k ++ tail)));
          sized = refl;
          within = omega arith;
          of_it = refl;
        }
    found_cells (Erase p n) (kind, part, where_at, none) =
        let part_fits : p < 2 ^ 8 = omega (arith, fits 1, part) in
        let place_fits : n < 2 ^ 32 = omega (arith, at_fits, where_at) in
        let part_is : b ≡ p = sym part in
        let atb = at_bytes n where_at in
        let numb = number_bytes 0 (sym none) in
        record {
          valid = (part_fits, place_fits);
          spelled = λ k. kind k ∷ (part_is k ∷ (atb k ++ (numb k ++ tail)));
          sized = refl;
          within = omega arith;
          of_it = refl;
        }

    decoded_cells : (item : Record) → decoded cells ≡ Some item → IsAtFront item cells
    decoded_cells item is =
        let long : nat_lt (length cells) 10 ≡ false = le-ltb (length cells) 10 (omega arith) in
        let left : length cells - 10 ≡ length tail = omega arith in
        found_cells item (kind_decodes a b at number (length tail) item (
        ap (kind_decoded a b at number) (sym left)
        ∙ sym (cond-false (nat_lt (length cells) 10) None (kind_decoded a b at number (length cells - 10)) long)
        ∙ is))

short_decodes : (bytes : List ℕ) (item : Record) → length bytes < 10 → decoded bytes ≡ Some item → IsAtFront item bytes
short_decodes bytes item short is =
    let none : None ≡ Some item =
    sym (cond-true (nat_lt (length bytes) 10) None
    (kind_decoded (slice_index bytes 0) (slice_index bytes 1) (big_number 4 (drop 2 bytes))
    (big_number 4 (drop 6 bytes))
    (length bytes - 10)) (lt-ltb (length bytes) 10 short)) ∙ is in
    absurd (cc)

-- the record that bytes give begins them
pub decoded_found : (bytes : List ℕ) → ((k : ℕ) → get_or bytes k 0 < 256) → (item : Record) → decoded bytes ≡ Some item
    → IsAtFront item bytes
decoded_found (a ∷ b ∷ c ∷ d ∷ e ∷ f ∷ g ∷ h ∷ i ∷ j ∷ tail) fits item is =
    decoded_cells a b c d e f g h i j tail (first_ten a b c d e f g h i j tail fits) item is
decoded_found [] fits item is = short_decodes [] item (omega arith) is
decoded_found (a ∷ []) fits item is = short_decodes (a ∷ []) item (omega arith) is
decoded_found (a ∷ b ∷ []) fits item is = short_decodes (a ∷ b ∷ []) item (omega arith) is
decoded_found (a ∷ b ∷ c ∷ []) fits item is = short_decodes (a ∷ b ∷ c ∷ []) item (omega arith) is
decoded_found (a ∷ b ∷ c ∷ d ∷ []) fits item is = short_decodes (a ∷ b ∷ c ∷ d ∷ []) item (omega arith) is
decoded_found (a ∷ b ∷ c ∷ d ∷ e ∷ []) fits item is = short_decodes (a ∷ b ∷ c ∷ d ∷ e ∷ []) item (omega arith) is
decoded_found (a ∷ b ∷ c ∷ d ∷ e ∷ f ∷ []) fits item is =
    short_decodes (a ∷ b ∷ c ∷ d ∷ e ∷ f ∷ []) item (omega arith) is
decoded_found (a ∷ b ∷ c ∷ d ∷ e ∷ f ∷ g ∷ []) fits item is =
    short_decodes (a ∷ b ∷ c ∷ d ∷ e ∷ f ∷ g ∷ []) item (omega arith) is
decoded_found (a ∷ b ∷ c ∷ d ∷ e ∷ f ∷ g ∷ h ∷ []) fits item is =
    short_decodes (a ∷ b ∷ c ∷ d ∷ e ∷ f ∷ g ∷ h ∷ []) item (omega arith) is
decoded_found (a ∷ b ∷ c ∷ d ∷ e ∷ f ∷ g ∷ h ∷ i ∷ []) fits item is =
    short_decodes (a ∷ b ∷ c ∷ d ∷ e ∷ f ∷ g ∷ h ∷ i ∷ []) item (omega arith) is
