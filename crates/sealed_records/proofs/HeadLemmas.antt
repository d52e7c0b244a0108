-- The eighteen bytes of a head give a record, if they sum, and if enough bytes for its block follow.
use Rattle.std.proofs.Common.{◌≡◌, inl, inr, ℕ, zero, suc, ◌<◌, ◌≤◌, ◌+◌, ◌/◌, ◌%◌, ◌^◌, List, [], ◌∷◌, ◌++◌, length, get_or, take, drop, refl, sym, ◌∙◌, ap, subst, arith, Some, None, append_assoc, length-append}
use Rattle.std.specs.Prelude.{Option, nat_le, ◌&&◌, ◌==◌}
use Rattle.std.specs.List.{All}
use Rattle.std.specs.Int.{byte_at, bytes_high_first, to_be_bytes, w32, w64}
use Rattle.std.proofs.lemmas.Bool.{and_from, le-leb, cases_Bool, cond-true, cond-false, eqb-true, eq-eqb}
use Rattle.std.proofs.lemmas.List.{drop_at, take_at, drop-drop}
use Rattle.std.proofs.Math.Nat.{mod-lt}
use Rattle.std.proofs.lemmas.List.Elements.{All-append, All-cons, All-nil}
use Rattle.std.proofs.lemmas.Nat.{be_bytes_4}
use Rattle.byteorder.specs.Endian.{big_number}
use Rattle.byteorder.specs.Numbers.{big_number-reads_back}
use Rattle.change_records.specs.Inner.Decoded.{kind_decoded}
use Rattle.crc32c.specs.Facts.{crc32c_lt}
use Rattle.vtl_base.specs.declared.limits.TheConstants.{MAX_BLOCK, MAX_OBJECTS}
use Rattle.volume_core.specs.declared.changes.Change.{Change}
use Rattle.volume_core.specs.declared.changes.Change.TheVariants as Changes
use Rattle.change_records.specs.declared.records.Record.{Record}
use Rattle.change_records.specs.declared.records.Record.TheVariants.{Put, Marks, Erase}
use Rattle.change_records.specs.Records.{IsAtFront, IsRecord, change_in, change_with, record_length, record_of, size_of, spell_change, spell_head}
use Rattle.change_records.specs.Readers.{IsHeadOf, head_item}
use Rattle.sealed_records.specs.Sealed.{BeginsWithLaid, IsLaid, IsSealedFront, IsSum, Laid, block_of, fields_laid, head_spelled, head_sum, item_with, laid_size, sealed_item, spell_laid, spell_sealed_head}
use Rattle.sealed_records.specs.Readers.{IsSealedHeadOf}

pub size_is : (item : Record) → size_of item ≡ 10 + record_length item
size_is (Put part at size) = refl
size_is (Marks part at count) = refl
size_is (Erase part at) = refl

pub ten_spelled : (change : Change) → length (head_spelled change) ≡ 10
ten_spelled (Changes.Put part place block) = refl
ten_spelled (Changes.Marks part place count) = refl
ten_spelled (Changes.Erase part place) = refl

pub head_then_block : (change : Change) → spell_change change ≡ head_spelled change ++ block_of change
head_then_block (Changes.Put part place block) = refl
head_then_block (Changes.Marks part place count) = refl
head_then_block (Changes.Erase part place) = refl

pub block_long : (change : Change) → length (block_of change) ≡ record_length (record_of change)
block_long (Changes.Put part place block) = refl
block_long (Changes.Marks part place count) = refl
block_long (Changes.Erase part place) = refl

pub fields_long : (laid : Laid) → length (fields_laid laid) ≡ 14
fields_long laid =
    omega (
      arith,
      length-append (head_spelled laid.change) (to_be_bytes w32 laid.sum),
      ten_spelled laid.change,
    )

pub head_long : (seed place : ℕ) (laid : Laid) → length (spell_sealed_head seed place laid) ≡ 18
head_long seed place laid =
    omega (
      arith,
      length-append (fields_laid laid) (to_be_bytes w32 (head_sum seed place (fields_laid laid))),
      fields_long laid,
    )

pub laid_long : (seed place : ℕ) (laid : Laid) → length (spell_laid seed place laid) ≡ laid_size laid
laid_long seed place laid =
    omega (
      arith,
      length-append (spell_sealed_head seed place laid) (block_of laid.change),
      head_long seed place laid,
    )

-- a record that the sum of its block lets through
with_parts : (sum : ℕ) (plain : Option Record) (item : Record) → item_with sum plain ≡ Some item
    → (plain ≡ Some item) × ((block : List ℕ) → sum < 2 ^ 32 → IsSum (change_with item block) sum)
with_parts sum None item is = absurd (cc)
with_parts sum (Some (Put part at size)) item is =
    let same : Put part at size ≡ item = cc in (
      is,
      subst (λ (i : Record). (block : List ℕ) → sum < 2 ^ 32 → IsSum (change_with i block) sum) same
          (λ block lt. lt),
    )
with_parts sum (Some (Marks part at count)) item is = elim (cases_Bool (sum == 0)) [
  | inl holds ↦
      let same : Some (Marks part at count) ≡ Some item =
      sym (cond-true (sum == 0) (Some (Marks part at count)) None holds) ∙ is in
      let items : Marks part at count ≡ item = cc in (
        same,
        subst (λ (i : Record). (block : List ℕ) → sum < 2 ^ 32 → IsSum (change_with i block) sum) items
            (λ block lt. eqb-true sum 0 holds),
      )
  | inr fails ↦
      let none : None ≡ Some item = sym (cond-false (sum == 0) (Some (Marks part at count)) None fails) ∙ is in
      absurd (cc)
]
with_parts sum (Some (Erase part at)) item is = elim (cases_Bool (sum == 0)) [
  | inl holds ↦
      let same : Some (Erase part at) ≡ Some item =
      sym (cond-true (sum == 0) (Some (Erase part at)) None holds) ∙ is in
      let items : Erase part at ≡ item = cc in (
        same,
        subst (λ (i : Record). (block : List ℕ) → sum < 2 ^ 32 → IsSum (change_with i block) sum) items
            (λ block lt. eqb-true sum 0 holds),
      )
  | inr fails ↦
      let none : None ≡ Some item = sym (cond-false (sum == 0) (Some (Erase part at)) None fails) ∙ is in
      absurd (cc)
]

four : (a b c d : ℕ) → a < 256 → b < 256 → c < 256 → d < 256
    → (i : ℕ) → get_or (a ∷ b ∷ c ∷ d ∷ []) i 0 < 256
four a b c d fa fb fc fd zero = fa
four a b c d fa fb fc fd (suc zero) = fb
four a b c d fa fb fc fd (suc (suc zero)) = fc
four a b c d fa fb fc fd (suc (suc (suc zero))) = fd
four a b c d fa fb fc fd (suc (suc (suc (suc i)))) = omega arith

-- a change that begins the ten bytes' record, in two parts
tail_parts : (item : Record) (ten tail : List ℕ) → length ten ≡ 10 → IsAtFront item (ten ++ tail)
    → (ten ≡ head_spelled (change_in item (ten ++ tail)))
    × (tail ≡ block_of (change_in item (ten ++ tail)) ++ drop (record_length item) tail)
tail_parts item ten tail long front =
    let change = change_in item (ten ++ tail) in
    let behind : drop (size_of item) (ten ++ tail) ≡ drop (record_length item) tail =
    ap (λ (n : ℕ). drop n (ten ++ tail)) (size_is item)
    ∙ sym (drop-drop (record_length item) 10 (ten ++ tail))
    ∙ ap (drop (record_length item)) (drop_at ten tail 10 long) in
    let whole : ten ++ tail ≡ head_spelled change ++ (block_of change ++ drop (record_length item) tail) =
    front.spelled
    ∙ (λ i. head_then_block change i ++ behind i)
    ∙ append_assoc (head_spelled change) (block_of change) (drop (record_length item) tail) in (
      sym (take_at ten tail 10 long) ∙ ap (take 10) whole
          ∙ take_at (head_spelled change) (block_of change ++ drop (record_length item) tail) 10 (ten_spelled change),
      sym (drop_at ten tail 10 long) ∙ ap (drop 10) whole
          ∙ drop_at (head_spelled change) (block_of change ++ drop (record_length item) tail) 10 (ten_spelled change),
    )

-- eighteen bytes
module _ (seed place : ℕ) (a b c d e f g h i j k l m n o p q r : ℕ) where
  abbrev ten : List ℕ
  ten = a ∷ b ∷ c ∷ d ∷ e ∷ f ∷ g ∷ h ∷ i ∷ j ∷ []

  abbrev fields : List ℕ
  fields = a ∷ b ∷ c ∷ d ∷ e ∷ f ∷ g ∷ h ∷ i ∷ j ∷ k ∷ l ∷ m ∷ n ∷ []

  abbrev head : List ℕ
  head = a ∷ b ∷ c ∷ d ∷ e ∷ f ∷ g ∷ h ∷ i ∷ j ∷ k ∷ l ∷ m ∷ n ∷ o ∷ p ∷ q ∷ r ∷ []

  abbrev sum : ℕ
  sum = big_number 4 (k ∷ l ∷ m ∷ n ∷ [])

  abbrev own : ℕ
  own = big_number 4 (o ∷ p ∷ q ∷ r ∷ [])

  module _ (fits : (z : ℕ) → get_or head z 0 < 256) (item : Record)
      (plain : (other : Record) → head_item ten ≡ Some other → IsHeadOf other ten)
      (is : sealed_item seed place head ≡ Some item) where
    sums : (own ≡ head_sum seed place fields) × (item_with sum (head_item ten) ≡ Some item)
    sums = elim (cases_Bool (own == head_sum seed place fields)) [
      | inl holds ↦ (
        eqb-true own (head_sum seed place fields) holds,
        sym (cond-true (own == head_sum seed place fields) (item_with sum (head_item ten)) None holds) ∙ is,
      )
      | inr fails ↦
          let none : None ≡ Some item =
          sym (cond-false (own == head_sum seed place fields) (item_with sum (head_item ten)) None fails) ∙ is in
          absurd (cc)
    ]

    parts : (head_item ten ≡ Some item) × ((block : List ℕ) → sum < 2 ^ 32 → IsSum (change_with item block) sum)
    parts = with_parts sum (head_item ten) item sums.1

    sum_bytes : to_be_bytes w32 sum ≡ k ∷ l ∷ m ∷ n ∷ []
    sum_bytes = be_bytes_4 (k ∷ l ∷ m ∷ n ∷ []) sum refl
        (four k l m n (fits 10) (fits 11) (fits 12) (fits 13)) (omega arith)

    own_bytes : to_be_bytes w32 own ≡ o ∷ p ∷ q ∷ r ∷ []
    own_bytes = be_bytes_4 (o ∷ p ∷ q ∷ r ∷ []) own refl
        (four o p q r (fits 14) (fits 15) (fits 16) (fits 17)) (omega arith)

    sum_fits : sum < 2 ^ 32
    sum_fits =
        let f0 = fits 10 in let f1 = fits 11 in let f2 = fits 12 in let f3 = fits 13 in
        omega (arith, f0, f1, f2, f3)

    module _ (tail : List ℕ) (enough : record_length item ≤ length tail) where
      abbrev block : List ℕ
      block = take (record_length item) tail

      abbrev change : Change
      change = change_with item block

      front : IsAtFront item (ten ++ tail)
      front = plain item parts.0 tail enough

      abbrev behind : List ℕ
      behind = drop (18 + record_length item) (head ++ tail)

      abbrev laid : Laid
      laid = record { change = change; sum = sum }

      two : (ten ≡ head_spelled change) × (tail ≡ block_of change ++ drop (record_length item) tail)
      two = tail_parts item ten tail refl front

      fields_are : fields_laid laid ≡ fields
      fields_are = λ z. sym two.0 z ++ sum_bytes z

      head_is : spell_sealed_head seed place laid ≡ head
      head_is =
          ap (λ (f : List ℕ). f ++ to_be_bytes w32 (head_sum seed place f)) fields_are
          ∙ ap (λ (s : ℕ). fields ++ to_be_bytes w32 s) (sym sums.0)
          ∙ ap (λ (b : List ℕ). fields ++ b) own_bytes

      spelled : spell_laid seed place laid ++ behind ≡ head ++ tail
      spelled =
          ap (λ (z : List ℕ). (z ++ block_of change) ++ behind) head_is
          ∙ append_assoc head (block_of change) behind
          ∙ ap (λ (z : List ℕ). head ++ (block_of change ++ z)) (sym (drop-drop (record_length item) 18 (head ++ tail)))
          ∙ ap (λ (z : List ℕ). head ++ z) (sym two.1)

      front_here : IsSealedFront seed place item (head ++ tail)
      front_here = record {
        valid = record { change = front.valid; sum = parts.1 block sum_fits };
        spelled = sym spelled;
        within = omega (arith, enough);
        of_it = front.of_it;
      }

-- the eighteen bytes of a head, each a byte
pub head_found : (seed place : ℕ) (head : List ℕ) → length head ≡ 18 → ((z : ℕ) → get_or head z 0 < 256)
    → (item : Record) → ((other : Record) → head_item (take 10 head) ≡ Some other → IsHeadOf other (take 10 head))
    → sealed_item seed place head ≡ Some item → IsSealedHeadOf seed place item head
head_found seed place (a ∷ b ∷ c ∷ d ∷ e ∷ f ∷ g ∷ h ∷ i ∷ j ∷ k ∷ l ∷ m ∷ n ∷ o ∷ p ∷ q ∷ r ∷ []) long fits item plain
    is =
    front_here seed place a b c d e f g h i j k l m n o p q r fits item plain is
head_found seed place xs long fits item plain is = absurd (omega (arith, long))

byte_lt : (k x : ℕ) → byte_at k x < 2 ^ 8
byte_lt zero x = mod-lt x (omega arith)
byte_lt (suc k) x = mod-lt (x / 256 ^ suc k) (omega arith)

-- the bytes of a number are bytes
number_bytes : (n x : ℕ) → All (λ b. b < 2 ^ 8) (bytes_high_first n x)
number_bytes zero x = All-nil (λ b. b < 2 ^ 8)
number_bytes (suc n) x =
    All-cons (λ b. b < 2 ^ 8) (byte_at n x) (bytes_high_first n x) (byte_lt n x) (number_bytes n x)

-- every byte of the fields is one
fields_bytes : (laid : Laid) → IsLaid laid → All (λ b. b < 2 ^ 8) (fields_laid laid)
fields_bytes laid ok =
    All-append (λ b. b < 2 ^ 8) (head_spelled laid.change) (to_be_bytes w32 laid.sum) (heads laid.change ok.change)
    (number_bytes 4 laid.sum)
  where
    spelled : (kind part at number : ℕ) → kind < 2 ^ 8 → part < 2 ^ 8
        → All (λ b. b < 2 ^ 8) (spell_head kind part at number)
    spelled kind part at number k p =
        All-cons (λ b. b < 2 ^ 8) kind (part ∷ to_be_bytes w32 at ++ to_be_bytes w32 number) k
        (All-cons (λ b. b < 2 ^ 8) part (to_be_bytes w32 at ++ to_be_bytes w32 number) p
        (All-append (λ b. b < 2 ^ 8) (to_be_bytes w32 at) (to_be_bytes w32 number) (number_bytes 4 at)
        (number_bytes 4 number)))

    heads : (change : Change) → IsRecord change → All (λ b. b < 2 ^ 8) (head_spelled change)
    heads (Changes.Put part at block) ok = spelled 1 part at (length block) (omega arith) ok.0.0
    heads (Changes.Marks part at count) ok = spelled 2 part at count (omega arith) ok.0.0
    heads (Changes.Erase part at) ok = spelled 3 part at 0 (omega arith) ok.0

own_fits : (seed place : ℕ) (laid : Laid) → IsLaid laid → head_sum seed place (fields_laid laid) < 2 ^ 32
own_fits seed place laid ok =
    crc32c_lt (to_be_bytes w64 seed ++ to_be_bytes w64 place ++ fields_laid laid)
    (All-append (λ b. b < 2 ^ 8) (to_be_bytes w64 seed ++ to_be_bytes w64 place) (fields_laid laid)
    (All-append (λ b. b < 2 ^ 8) (to_be_bytes w64 seed) (to_be_bytes w64 place) (number_bytes 8 seed)
    (number_bytes 8 place)) (fields_bytes laid ok))

pub sum_fits_of : (change : Change) (sum : ℕ) → IsSum change sum → sum < 2 ^ 32
sum_fits_of (Changes.Put part at block) sum is = is
sum_fits_of (Changes.Marks part at count) sum is = omega (arith, is)
sum_fits_of (Changes.Erase part at) sum is = omega (arith, is)

with_again : (change : Change) (sum : ℕ) → IsSum change sum
    → item_with sum (Some (record_of change)) ≡ Some (record_of change)
with_again (Changes.Put part at block) sum is = refl
with_again (Changes.Marks part at count) sum is =
    cond-true (sum == 0) (Some (Marks part at count)) None (eq-eqb sum 0 is)
with_again (Changes.Erase part at) sum is = cond-true (sum == 0) (Some (Erase part at)) None (eq-eqb sum 0 is)

head_decoded : (kind part at number : ℕ) → at < 2 ^ 32 → number < 2 ^ 32
    → head_item (spell_head kind part at number) ≡ kind_decoded kind part at number MAX_BLOCK
head_decoded kind part at number at_fits number_fits =
    λ i. kind_decoded kind part (big_number-reads_back 4 at (to_be_bytes w32 number) at_fits i)
    (big_number-reads_back 4 number [] number_fits i) MAX_BLOCK

-- the ten bytes of a change's spelling give its record
plain_again : (change : Change) → IsRecord change → head_item (head_spelled change) ≡ Some (record_of change)
plain_again (Changes.Put part place block) ok =
    head_decoded 1 part place (length block) ok.0.1 (omega (arith, ok.2))
    ∙ cond-true
    (nat_le 1 (length block) && nat_le (length block) MAX_BLOCK && nat_le (length block) MAX_BLOCK)
    (Some (Put part place (length block))) None
    (and_from _ _ (and_from _ _ (le-leb 1 (length block) ok.1) (le-leb (length block) MAX_BLOCK ok.2))
    (le-leb (length block) MAX_BLOCK ok.2))
plain_again (Changes.Marks part place count) ok =
    head_decoded 2 part place count ok.0.1 (omega (arith, ok.2))
    ∙ cond-true (nat_le 1 count && nat_le count MAX_OBJECTS) (Some (Marks part place count)) None
    (and_from _ _ (le-leb 1 count ok.1) (le-leb count MAX_OBJECTS ok.2))
plain_again (Changes.Erase part place) ok = head_decoded 3 part place 0 ok.1 (omega arith)

-- the head of a record gives the record
module _ (seed place : ℕ) (laid : Laid) (ok : IsLaid laid) where
  abbrev its : List ℕ
  its = fields_laid laid

  abbrev its_sum : ℕ
  its_sum = head_sum seed place its

  abbrev its_head : List ℕ
  its_head = spell_sealed_head seed place laid

  fields_there : take 14 its_head ≡ its
  fields_there = take_at its (to_be_bytes w32 its_sum) 14 (fields_long laid)

  ten_there : take 10 its_head ≡ head_spelled laid.change
  ten_there =
      ap (take 10) (append_assoc (head_spelled laid.change) (to_be_bytes w32 laid.sum) (to_be_bytes w32 its_sum))
      ∙ take_at (head_spelled laid.change) (to_be_bytes w32 laid.sum ++ to_be_bytes w32 its_sum) 10
      (ten_spelled laid.change)

  own_there : big_number 4 (drop 14 its_head) ≡ its_sum
  own_there =
      ap (big_number 4) (drop_at its (to_be_bytes w32 its_sum) 14 (fields_long laid))
      ∙ big_number-reads_back 4 its_sum [] (own_fits seed place laid ok)

  sum_there : big_number 4 (drop 10 its_head) ≡ laid.sum
  sum_there =
      ap (λ (l : List ℕ). big_number 4 (drop 10 l))
      (append_assoc (head_spelled laid.change) (to_be_bytes w32 laid.sum) (to_be_bytes w32 its_sum))
      ∙ ap (big_number 4) (drop_at (head_spelled laid.change) (to_be_bytes w32 laid.sum ++ to_be_bytes w32 its_sum) 10
      (ten_spelled laid.change))
      ∙ big_number-reads_back 4 laid.sum (to_be_bytes w32 its_sum) (sum_fits_of laid.change laid.sum ok.sum)

  pub head_again : sealed_item seed place its_head ≡ Some (record_of laid.change)
  head_again =
      cond-true (big_number 4 (drop 14 its_head) == head_sum seed place (take 14 its_head))
      (item_with (big_number 4 (drop 10 its_head)) (head_item (take 10 its_head))) None
      (eq-eqb (big_number 4 (drop 14 its_head)) (head_sum seed place (take 14 its_head))
      (own_there ∙ sym (ap (head_sum seed place) fields_there)))
      ∙ (λ i. item_with (sum_there i) ((ap head_item ten_there ∙ plain_again laid.change ok.change) i))
      ∙ with_again laid.change laid.sum ok.sum

-- bytes that begin with a record have its head first, and then the bytes of its block
pub begins_item : (seed place : ℕ) (head tail : List ℕ) → length head ≡ 18
    → (w : BeginsWithLaid seed place (head ++ tail))
    → (sealed_item seed place head ≡ Some (record_of w.0.change))
    × (record_length (record_of w.0.change) ≤ length tail)
begins_item seed place head tail long w =
    let spelled = spell_sealed_head seed place w.0 in
    let block = block_of w.0.change in
    let whole : head ++ tail ≡ spelled ++ (block ++ w.1) = w.3 ∙ append_assoc spelled block w.1 in
    let eighteen : length spelled ≡ 18 = head_long seed place w.0 in
    let same : head ≡ spelled =
    sym (take_at head tail 18 long) ∙ ap (take 18) whole ∙ take_at spelled (block ++ w.1) 18 eighteen in
    let others : tail ≡ block ++ w.1 =
    sym (drop_at head tail 18 long) ∙ ap (drop 18) whole ∙ drop_at spelled (block ++ w.1) 18 eighteen in (
      ap (sealed_item seed place) same ∙ head_again seed place w.0 w.2,
      omega (arith, ap length others, length-append block w.1, block_long w.0.change),
    )

-- less than eighteen bytes begin with no record
pub none_short : (seed place : ℕ) (bytes : List ℕ) → length bytes < 18 → BeginsWithLaid seed place bytes → ⊥
none_short seed place bytes short w =
    omega (
      arith,
      ap length w.3,
      length-append (spell_laid seed place w.0) w.1,
      laid_long seed place w.0,
    )
