-- The bytes at the start decide the record: no spelling begins another.
use Rattle.std.proofs.Common.{◌≡◌, ℕ, ◌<◌, ◌+◌, ◌-◌, ◌^◌, List, ◌++◌, length, drop, refl, sym, ◌∙◌, ap, arith, length-append}
use Rattle.std.specs.Prelude.{None, Some, nat_lt, nat_le, ◌&&◌}
use Rattle.std.specs.Int.{to_be_bytes, w32}
use Rattle.std.proofs.lemmas.Bool.{and_from, le-leb, le-ltb, cond-true, cond-false}
use Rattle.std.proofs.lemmas.List.{take_at, drop_at}
use Rattle.byteorder.specs.Endian.{big_number}
use Rattle.byteorder.specs.Numbers.{big_number-reads_back}
use Rattle.vtl_base.specs.declared.limits.TheConstants.{MAX_BLOCK, MAX_OBJECTS}
use Rattle.volume_core.specs.declared.changes.Change.{Change}
use Rattle.volume_core.specs.declared.changes.Change.TheVariants.{Put, Marks, Erase}
use Rattle.change_records.specs.declared.records.Record.TheVariants as Records
use Rattle.change_records.specs.Records.{IsRecord, spell_change, spell_head, record_of, size_of, change_in}
use Rattle.change_records.specs.Inner.Decoded.{decoded, kind_decoded}

-- the first ten bytes as four numbers
module _ (kind part at number : ℕ) (behind : List ℕ) (at_fits : at < 2 ^ 32) (number_fits : number < 2 ^ 32) where
  pub decoded_head : decoded (spell_head kind part at number ++ behind)
      ≡ kind_decoded kind part at number (length behind)
  decoded_head =
      let bytes = spell_head kind part at number ++ behind in
      let long : length bytes ≡ 10 + length behind = omega arith in
      let left : length bytes - 10 ≡ length behind = omega arith in
      cond-false (nat_lt (length bytes) 10) None
      (kind_decoded kind part (big_number 4 (drop 2 bytes)) (big_number 4 (drop 6 bytes)) (length bytes - 10))
      (le-ltb (length bytes) 10 (omega arith))
      ∙ (λ i. kind_decoded kind part
      (big_number-reads_back 4 at (to_be_bytes w32 number ++ behind) at_fits i)
      (big_number-reads_back 4 number behind number_fits i) (left i))

-- the spelling of a change gives its record, whatever follows
pub decoded_again : (change : Change) (rest : List ℕ) → IsRecord change → decoded (spell_change change ++ rest)
    ≡ Some (record_of change)
decoded_again (Put part at block) rest ok =
    decoded_head 1 part at (length block) (block ++ rest) ok.0.1 (omega (arith, ok.2))
    ∙ cond-true
    (nat_le 1 (length block) && nat_le (length block) MAX_BLOCK && nat_le (length block) (length (block ++ rest)))
    (Some (Records.Put part at (length block))) None
    (and_from _ _ (and_from _ _ (le-leb 1 (length block) ok.1) (le-leb (length block) MAX_BLOCK ok.2))
    (le-leb (length block) (length (block ++ rest)) (omega (arith, length-append block rest))))
decoded_again (Marks part at count) rest ok =
    decoded_head 2 part at count rest ok.0.1 (omega (arith, ok.2))
    ∙ cond-true (nat_le 1 count && nat_le count MAX_OBJECTS) (Some (Records.Marks part at count)) None
    (and_from _ _ (le-leb 1 count ok.1) (le-leb count MAX_OBJECTS ok.2))
decoded_again (Erase part at) rest ok = decoded_head 3 part at 0 rest ok.1 (omega arith)

pub length-spell : (change : Change) → length (spell_change change) ≡ size_of (record_of change)
length-spell (Put part at block) = omega arith
length-spell (Marks part at count) = refl
length-spell (Erase part at) = refl

-- a change, read back from its record and the bytes behind the record's head
pub change_again : (change : Change) (rest : List ℕ) → change_in (record_of change) (spell_change change ++ rest) ≡
    change
change_again (Put part at block) rest = ap (Put part at) (take_at block rest (length block) refl)
change_again (Marks part at count) rest = refl
change_again (Erase part at) rest = refl

pub rest_again : (change : Change) (rest : List ℕ) → drop (size_of (record_of change)) (spell_change change ++ rest)
    ≡ rest
rest_again change rest = drop_at (spell_change change) rest (size_of (record_of change)) (length-spell change)

same_some : {A : Type 0} (x y : A) → Some x ≡ Some y → x ≡ y
same_some x y e = cc

-- the spelling of a change does not begin that of another
pub one_front : (change other : Change) (x y : List ℕ) → IsRecord change → IsRecord other
    → spell_change change ++ x ≡ spell_change other ++ y → (change ≡ other) × (x ≡ y)
one_front change other x y ok also same =
    let items : record_of change ≡ record_of other =
    same_some _ _ (sym (decoded_again change x ok) ∙ ap decoded same ∙ decoded_again other y also) in (
      sym (change_again change x) ∙ (λ i. change_in (items i) (same i)) ∙ change_again other y,
      sym (rest_again change x) ∙ (λ i. drop (size_of (items i)) (same i)) ∙ rest_again other y,
    )
