-- The bytes determine the sense data.
use Rattle.std.proofs.Common.{◌≡◌, ℕ, ◌+◌, ◌*◌, ◌<◌, ◌≤◌, ◌^◌, ◌==◌, List, Option, None, Some, IfSome, Bool, true, false, refl, sym, ap, ◌∙◌, arith, slice_index, take, drop}
use Rattle.std.specs.Prelude.{if◌then◌else◌, is_some, unwrap_or}
use Rattle.std.specs.Int.{from_be_bytes, to_be_bytes, w32}
use Rattle.std.proofs.lemmas.Nat.{from_be_bytes-to_be_bytes_4}
use Rattle.scsi_sense.specs.declared.sense_data.SenseKey.{SenseKey}
use Rattle.scsi_sense.specs.declared.sense_data.SenseKey.TheVariants.{NoSense, NotReady, MediumError, HardwareError, IllegalRequest, UnitAttention, BlankCheck, AbortedCommand, VolumeOverflow}
use Rattle.scsi_sense.specs.declared.sense_data.Sense.{Sense}
use Rattle.scsi_sense.specs.SenseData.{bit_if, key_byte, key_number, response_byte, sense_bytes}

-- the key of a number
key_of : ℕ → SenseKey
key_of number =
    if number == 0x2 then NotReady else (if number == 0x3 then MediumError else (if number == 0x4 then HardwareError
    else (if number == 0x5 then IllegalRequest else (if number == 0x6 then UnitAttention else (if number == 0x8
    then BlankCheck else (if number == 0xb then AbortedCommand else (if number == 0xd then VolumeOverflow
    else NoSense)))))))

key_again : (key : SenseKey) → key_of (key_number key) ≡ key
unfolding key_of
key_again NoSense = refl
key_again NotReady = refl
key_again MediumError = refl
key_again HardwareError = refl
key_again IllegalRequest = refl
key_again UnitAttention = refl
key_again BlankCheck = refl
key_again AbortedCommand = refl
key_again VolumeOverflow = refl

pub key_small : (key : SenseKey) → key_number key < 16
key_small NoSense = omega arith
key_small NotReady = omega arith
key_small MediumError = omega arith
key_small HardwareError = omega arith
key_small IllegalRequest = omega arith
key_small UnitAttention = omega arith
key_small BlankCheck = omega arith
key_small AbortedCommand = omega arith
key_small VolumeOverflow = omega arith

-- a bit as a number
unfoldable pub bit : Bool → ℕ
bit false = 0
bit true = 1

bit_again : (a b : Bool) → bit a ≡ bit b → a ≡ b
unfolding bit
bit_again false false e = refl
bit_again false true e = absurd (omega (arith, e))
bit_again true false e = absurd (omega (arith, e))
bit_again true true e = refl

pub bit_small : (a : Bool) → bit a ≤ 1
unfolding bit
bit_small false = omega arith
bit_small true = omega arith

bit_high : (a : Bool) → bit_if a 0x80 ≡ 128 * bit a
unfolding bit
bit_high false = refl
bit_high true = refl

bit_next : (a : Bool) → bit_if a 0x40 ≡ 64 * bit a
unfolding bit
bit_next false = refl
bit_next true = refl

bit_third : (a : Bool) → bit_if a 0x20 ≡ 32 * bit a
unfolding bit
bit_third false = refl
bit_third true = refl

response_bits : (deferred : Bool) → (if deferred then 0x71 else 0x70) ≡ 0x70 + bit deferred
unfolding bit
response_bits false = refl
response_bits true = refl

-- the first byte shows whether it is deferred, and whether there is information
pub response_is : (sense : Sense)
    → response_byte sense ≡ 0x70 + bit sense.deferred + 128 * bit (is_some sense.information)
response_is sense =
    (λ i. response_bits sense.deferred i + bit_high (is_some sense.information) i)

pub key_is : (sense : Sense) → key_byte sense
    ≡ 128 * bit sense.filemark + 64 * bit sense.end_of_medium + 32 * bit sense.incorrect_length + key_number sense.key
key_is sense = λ i. bit_high sense.filemark i + bit_next sense.end_of_medium i + bit_third sense.incorrect_length i
    + key_number sense.key

one_response : (a b : Sense) → response_byte a ≡ response_byte b
    → (a.deferred ≡ b.deferred) × (is_some a.information ≡ is_some b.information)
one_response a b same =
    let e = sym (response_is a) ∙ same ∙ response_is b in
    let da = bit_small a.deferred in
    let db = bit_small b.deferred in
    let ia = bit_small (is_some a.information) in
    let ib = bit_small (is_some b.information) in (
      bit_again a.deferred b.deferred (omega (arith, e, da, db, ia, ib)),
      bit_again (is_some a.information) (is_some b.information) (omega (arith, e, da, db, ia, ib)),
    )

-- the key byte holds the key and three bits
pub record SameKey (a b : Sense) : Type 0 where
  pub filemark : a.filemark ≡ b.filemark
  pub end_of_medium : a.end_of_medium ≡ b.end_of_medium
  pub incorrect_length : a.incorrect_length ≡ b.incorrect_length
  pub key : a.key ≡ b.key

one_key : (a b : Sense) → key_byte a ≡ key_byte b → SameKey a b
one_key a b same =
    let e = sym (key_is a) ∙ same ∙ key_is b in
    let fa = bit_small a.filemark in let fb = bit_small b.filemark in
    let ea = bit_small a.end_of_medium in let eb = bit_small b.end_of_medium in
    let ia = bit_small a.incorrect_length in let ib = bit_small b.incorrect_length in
    let ka = key_small a.key in let kb = key_small b.key in record {
      filemark = bit_again a.filemark b.filemark (omega (arith, e, fa, fb, ea, eb, ia, ib, ka, kb));
      end_of_medium = bit_again a.end_of_medium b.end_of_medium (omega (arith, e, fa, fb, ea, eb, ia, ib, ka, kb));
      incorrect_length =
          bit_again a.incorrect_length b.incorrect_length (omega (arith, e, fa, fb, ea, eb, ia, ib, ka, kb));
      key =
          let n : key_number a.key ≡ key_number b.key = omega (arith, e, fa, fb, ea, eb, ia, ib, ka, kb) in
          sym (key_again a.key) ∙ ap key_of n ∙ key_again b.key;
    }

-- the bytes determine the number in information, where there is one
one_information : (a b : Option ℕ) → IfSome a (λ n. n < 2 ^ 32) → IfSome b (λ n. n < 2 ^ 32)
    → is_some a ≡ is_some b → to_be_bytes w32 (unwrap_or a 0) ≡ to_be_bytes w32 (unwrap_or b 0) → a ≡ b
one_information None None fits fits' there same = refl
one_information None (Some n) fits fits' there same = absurd (cc)
one_information (Some n) None fits fits' there same = absurd (cc)
one_information (Some n) (Some m) fits fits' there same =
    let e : n ≡ m = sym (from_be_bytes-to_be_bytes_4 n fits) ∙ ap (from_be_bytes w32) same
    ∙ from_be_bytes-to_be_bytes_4 m fits' in ap Some e

at_place : (n : ℕ) (a b : List ℕ) → a ≡ b → slice_index a n ≡ slice_index b n
at_place n a b same = ap (λ (l : List ℕ). slice_index l n) same

-- sense data with the same bytes are the same, where information is a number of four bytes
pub one_sense : (a b : Sense) → IfSome a.information (λ n. n < 2 ^ 32) → IfSome b.information (λ n. n < 2 ^ 32)
    → sense_bytes a ≡ sense_bytes b → a ≡ b
one_sense a b fits fits' same =
    let response = one_response a b (at_place 0 (sense_bytes a) (sense_bytes b) same) in
    let key = one_key a b (at_place 2 (sense_bytes a) (sense_bytes b) same) in
    let code : a.code ≡ b.code = at_place 12 (sense_bytes a) (sense_bytes b) same in
    let qualifier : a.qualifier ≡ b.qualifier = at_place 13 (sense_bytes a) (sense_bytes b) same in
    let information : a.information ≡ b.information =
    one_information a.information b.information fits fits' response.1
    (ap (λ (l : List ℕ). take 4 (drop 3 l)) same) in
    λ i. record {
      key = key.key i;
      code = code i;
      qualifier = qualifier i;
      filemark = key.filemark i;
      end_of_medium = key.end_of_medium i;
      incorrect_length = key.incorrect_length i;
      information = information i;
      deferred = response.0 i;
    }
