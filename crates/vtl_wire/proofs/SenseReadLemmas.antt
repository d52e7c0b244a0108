-- Sense data that are read from their bytes.
use Rattle.std.proofs.Common.{◌≡◌, ℕ, ◌+◌, ◌*◌, ◌<◌, ◌≤◌, ◌^◌, ◌%◌, ◌==◌, List, [], ◌∷◌, ◌++◌, Option, None, Some, IfSome, IfNone, Bool, true, false, refl, sym, ap, ◌∙◌, arith, slice_index, drop, length}
use Rattle.std.specs.Prelude.{◌≢◌, if◌then◌else◌, is_some, nat_le, unwrap_or, replicate}
use Rattle.std.proofs.lemmas.Bool.{le-leb, lt-leb}
use Rattle.byteorder.specs.Endian.{big_number}
use Rattle.byteorder.specs.Numbers.{big_number-reads_back}
use Rattle.scsi_sense.specs.declared.sense_data.SenseKey.{SenseKey}
use Rattle.scsi_sense.specs.declared.sense_data.SenseKey.TheVariants.{NoSense, NotReady, MediumError, HardwareError, IllegalRequest, UnitAttention, BlankCheck, AbortedCommand, VolumeOverflow}
use Rattle.scsi_sense.specs.declared.sense_data.Sense.{Sense}
use Rattle.scsi_sense.specs.SenseData.{bit_if, key_byte, key_number, response_byte, sense_bytes}
use Rattle.vtl_wire.specs.Answers.{IsSense}
use Rattle.vtl_wire.specs.Inner.Sensed.{key_with, sense_by, sense_like, sense_with}
use Rattle.vtl_wire.proofs.SenseLemmas.{bit, bit_small, key_is, key_small, response_is}

-- the key of its number
key_found : (key : SenseKey) → key_with (key_number key) ≡ Some key
key_found NoSense = refl
key_found NotReady = refl
key_found MediumError = refl
key_found HardwareError = refl
key_found IllegalRequest = refl
key_found UnitAttention = refl
key_found BlankCheck = refl
key_found AbortedCommand = refl
key_found VolumeOverflow = refl

-- a test that tells a bit
tells : (a : Bool) (m n : ℕ) → (1 ≤ bit a → m ≤ n) → (bit a ≤ 0 → n < m) → nat_le m n ≡ a
unfolding bit
tells true m n is_set is_clear = le-leb m n (is_set (omega arith))
tells false m n is_set is_clear = lt-leb m n (is_clear (omega arith))

-- the bits of a byte, and the number below them
module _ (f e i : Bool) (k : ℕ) (small : k < 16) where
  abbrev byte : ℕ
  byte = 128 * bit f + 64 * bit e + 32 * bit i + k

  high : nat_le 0x80 byte ≡ f
  high = tells f 0x80 byte (λ is_set. omega arith) (λ is_clear. omega (arith, bit_small e, bit_small i))

  next : nat_le 0x40 (byte % 0x80) ≡ e
  next = tells e 0x40 (byte % 0x80) (λ is_set. omega (arith, bit_small f, bit_small i, bit_small e))
      (λ is_clear. omega (arith, bit_small f, bit_small i))

  third : nat_le 0x20 (byte % 0x40) ≡ i
  third = tells i 0x20 (byte % 0x40) (λ is_set. omega (arith, bit_small f, bit_small e, bit_small i))
      (λ is_clear. omega (arith, bit_small f, bit_small e))

  below : byte % 0x20 ≡ k
  below = omega (arith, bit_small f, bit_small e, bit_small i)

-- the first byte tells whether they are deferred
deferred_again : (deferred there : Bool)
    → ((if deferred then 0x71 else 0x70) + bit_if there 0x80) % 0x80 == 0x71 ≡ deferred
deferred_again false false = refl
deferred_again false true = refl
deferred_again true false = refl
deferred_again true true = refl

-- and whether there is information
information_again : (deferred : Bool) (there : Option ℕ) (number : ℕ) → number ≡ unwrap_or there 0
    → (if nat_le 0x80 ((if deferred then 0x71 else 0x70) + bit_if (is_some there) 0x80) then Some number else None)
    ≡ there
information_again false None number same = refl
information_again true None number same = refl
information_again false (Some n) number same = ap Some same
information_again true (Some n) number same = ap Some same

information_small : (there : Option ℕ) → IfSome there (λ n. n < 2 ^ 32) → unwrap_or there 0 < 2 ^ 32
information_small None fits = omega arith
information_small (Some n) fits = fits

module _ (sense : Sense) (valid : IsSense sense) where
  abbrev bytes : List ℕ
  bytes = sense_bytes sense

  number_again : big_number 4 (drop 3 bytes) ≡ unwrap_or sense.information 0
  number_again =
      big_number-reads_back 4 (unwrap_or sense.information 0)
      (0x0a ∷ 0 ∷ 0 ∷ 0 ∷ 0 ∷ sense.code ∷ sense.qualifier ∷ replicate 4 0)
      (information_small sense.information valid)

  -- what has their bytes is read as them
  pub sense_again : sense_like bytes ≡ Some sense
  sense_again =
      let small = key_small sense.key in
      let f = sense.filemark in
      let e = sense.end_of_medium in
      let i = sense.incorrect_length in
      let k = key_number sense.key in
      let is = key_is sense in
      let key : key_with (key_byte sense % 0x20) ≡ Some sense.key =
      ap (λ (b : ℕ). key_with (b % 0x20)) is ∙ ap key_with (below f e i k small) ∙ key_found sense.key in
      let filemark : nat_le 0x80 (key_byte sense) ≡ f = ap (nat_le 0x80) is ∙ high f e i k small in
      let end_of_medium : nat_le 0x40 (key_byte sense % 0x80) ≡ e =
      ap (λ (b : ℕ). nat_le 0x40 (b % 0x80)) is ∙ next f e i k small in
      let incorrect_length : nat_le 0x20 (key_byte sense % 0x40) ≡ i =
      ap (λ (b : ℕ). nat_le 0x20 (b % 0x40)) is ∙ third f e i k small in
      let deferred = deferred_again sense.deferred (is_some sense.information) in
      let information = information_again sense.deferred sense.information (big_number 4 (drop 3 bytes)) number_again in
      ap (sense_by bytes) key
      ∙ (λ j. Some (record {
        key = sense.key;
        code = sense.code;
        qualifier = sense.qualifier;
        filemark = filemark j;
        end_of_medium = end_of_medium j;
        incorrect_length = incorrect_length j;
        information = information j;
        deferred = deferred j;
      }))

-- so sense data of no such bytes are none
pub no_sense : (bytes : List ℕ) → sense_like bytes ≡ None → (sense : Sense) → IsSense sense
    → bytes ≡ sense_bytes sense → ⊥
no_sense bytes none sense valid same =
    let e : None ≡ Some sense = sym none ∙ ap sense_like same ∙ sense_again sense valid in cc

-- and sense data that are read from such bytes have them, if any has
pub sense_back : (bytes : List ℕ) (found : Sense) → sense_like bytes ≡ Some found → (sense : Sense) → IsSense sense
    → bytes ≡ sense_bytes sense → bytes ≡ sense_bytes found
sense_back bytes found is sense valid same =
    let e : Some found ≡ Some sense = sym is ∙ ap sense_like same ∙ sense_again sense valid in
    let one : sense ≡ found = cc in
    same ∙ ap sense_bytes one

-- sense data have 18 bytes
pub sense_long : (bytes : List ℕ) → length bytes ≢ 18 → (sense : Sense) → IsSense sense → bytes ≡ sense_bytes sense
    → ⊥
sense_long bytes other sense valid same = other (ap length same)
