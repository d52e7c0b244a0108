-- Many steps at once: a register is the sum of its bits, and the steps of each bit are known.
use Rattle.std.proofs.Common.{◌≡◌, ℕ, zero, suc, ◌+◌, ◌*◌, ◌/◌, ◌%◌, ◌^◌, ◌<◌, ◌≤◌, List, [], ◌∷◌, map, slice_index, bit_xor, refl, ap, ap₂, sym, ◌∙◌, arith, add-one}
use Rattle.std.specs.List.{range_with_len}
use Rattle.std.proofs.lemmas.List.FromFn.{get_or-map-range_with_len}
use Rattle.std.proofs.lemmas.Nat.{mod-pow-add, pow_below, pow_pos, xor_comm}
use Rattle.std.specs.Int.Bits.{xor_assoc, xor_shifted}
use Rattle.std.proofs.Math.Nat.{add-mul, mod-lt, mod-eq_of_lt, mod-one, mul_assoc, pow-succ'}
use Rattle.crc32c.specs.Crc.{step, steps}
use Rattle.crc32c.specs.Facts.{steps_lt}
use Rattle.crc32c.proofs.StepLemmas.{steps_more, steps_xor}
use Rattle.crc32c.specs.declared.far_tables.TheConstants.{FAR_0, FAR_1, FAR_2, FAR_3}

-- the powers of two from this one on
abbrev powers : ℕ → ℕ → List ℕ
powers i zero = []
powers i (suc count) = 2 ^ i ∷ powers (suc i) count

-- the numbers of these columns at whose places a bit stands, added
unfoldable applied : List ℕ → ℕ → ℕ
applied [] x = 0
applied (column ∷ columns) x = bit_xor (x % 2 * column) (applied columns (x / 2))

steps_zero : (n : ℕ) → steps n 0 ≡ 0
unfolding steps step
steps_zero zero = refl
steps_zero (suc n) = steps_zero n

bit_times : (n x p : ℕ) → x < 2 → x * steps n p ≡ steps n (x * p)
bit_times n zero p lt =
    let none : 0 * steps n p ≡ 0 = omega arith in
    let also : 0 * p ≡ 0 = omega arith in
    none ∙ sym (ap (steps n) also ∙ steps_zero n)
bit_times n (suc zero) p lt =
    let one : 1 * steps n p ≡ steps n p = omega arith in
    let same : p ≡ 1 * p = omega arith in
    one ∙ ap (steps n) same
bit_times n (suc (suc x)) p lt = absurd (omega arith)

-- a number in its lowest bit and the bits above it, at another place
bits_above : (x i count : ℕ)
    → x / 2 % 2 ^ count * 2 ^ suc i + x % 2 * 2 ^ i ≡ x % 2 ^ suc count * 2 ^ i
bits_above x i count =
    let parts : x % 2 ^ suc count ≡ x / 2 % 2 ^ count * 2 + x % 2 =
    ap (λ (k : ℕ). x % 2 ^ k) (sym (add-one count)) ∙ mod-pow-add x count 1 in
    ap (λ (p : ℕ). x / 2 % 2 ^ count * p + x % 2 * 2 ^ i) (pow-succ' 2 i)
    ∙ ap (λ (q : ℕ). q + x % 2 * 2 ^ i) (sym (mul_assoc (x / 2 % 2 ^ count) 2 (2 ^ i)))
    ∙ sym (add-mul (x / 2 % 2 ^ count * 2) (x % 2) (2 ^ i))
    ∙ ap (λ (q : ℕ). q * 2 ^ i) (sym parts)

-- the columns of `n` steps make `n` steps
made : (n i count x : ℕ) → applied (map (steps n) (powers i count)) x ≡ steps n (x % 2 ^ count * 2 ^ i)
unfolding applied
made n i zero x =
    let none : x % 1 ≡ 0 = mod-one x in
    let also : 0 * 2 ^ i ≡ 0 = omega arith in
    sym (ap (λ (y : ℕ). steps n (y * 2 ^ i)) none ∙ ap (steps n) also ∙ steps_zero n)
made n i (suc count) x =
    let low = x % 2 * 2 ^ i in
    let high = x / 2 % 2 ^ count in
    let two : x % 2 < 2 = mod-lt x (omega arith) in
    let below : low < 2 ^ suc i = small (x % 2) (2 ^ i) (2 ^ suc i) two (pow_pos i) (pow-succ' 2 i) in
    ap₂ bit_xor (bit_times n (x % 2) (2 ^ i) two) (made n (suc i) count (x / 2))
    ∙ sym (steps_xor n low (high * 2 ^ suc i))
    ∙ ap (steps n) (xor_comm low (high * 2 ^ suc i) ∙ xor_shifted high (suc i) low below ∙ bits_above x i count)
  where
    small : (x p q : ℕ) → x < 2 → 0 < p → q ≡ 2 * p → x * p < q
    small zero p q lt some e = let z : 0 * p ≡ 0 = omega arith in omega (arith, z)
    small (suc zero) p q lt some e = let z : 1 * p ≡ p = omega arith in omega (arith, z)
    small (suc (suc x)) p q lt some e = absurd (omega arith)

-- the columns of all bits make the steps of a register
made_all : (n x : ℕ) → x < 2 ^ 32 → applied (map (steps n) (powers 0 32)) x ≡ steps n x
made_all n x lt =
    let same : x % 2 ^ 32 * 2 ^ 0 ≡ x % 2 ^ 32 = omega arith in
    made n 0 32 x ∙ ap (steps n) (same ∙ mod-eq_of_lt lt)

-- the columns of twice as many steps
abbrev doubled : List ℕ → List ℕ
doubled columns = map (applied columns) columns

twice : (n m : ℕ) → n + n ≡ m → (i count : ℕ) → i + count ≤ 32
    → map (applied (map (steps n) (powers 0 32))) (map (steps n) (powers i count)) ≡ map (steps m) (powers i count)
twice n m e i zero le = refl
twice n m e i (suc count) le =
    let one : 2 ^ i < 2 ^ 32 = pow_below i 32 (omega arith) in
    let first : applied (map (steps n) (powers 0 32)) (steps n (2 ^ i)) ≡ steps m (2 ^ i) =
    made_all n (steps n (2 ^ i)) (steps_lt n (2 ^ i) one) ∙ sym (steps_more n n (2 ^ i))
    ∙ ap (λ (k : ℕ). steps k (2 ^ i)) e in
    λ z. first z ∷ twice n m e (suc i) count (omega arith) z

-- the columns of 8 steps, doubled so many times
columns : ℕ → List ℕ
columns zero = map (steps 8) (powers 0 32)
columns (suc k) = doubled (columns k)

columns_are : (k n : ℕ) → 8 * 2 ^ k ≡ n → columns k ≡ map (steps n) (powers 0 32)
unfolding columns
columns_are zero n e = ap (λ (m : ℕ). map (steps m) (powers 0 32)) e
columns_are (suc k) n e =
    let half : 8 * 2 ^ k + 8 * 2 ^ k ≡ n = omega (arith, e, pow-succ' 2 k) in
    ap doubled (columns_are k (8 * 2 ^ k) refl) ∙ twice (8 * 2 ^ k) n half 0 32 (omega arith)

-- those of 8,192 steps
abbrev COLUMNS : List ℕ
COLUMNS =
    0xfe314258 ∷ 0xf98ef241 ∷ 0xf6f19273 ∷ 0xe80f5217 ∷ 0xd5f2d2df ∷ 0xae09d34f ∷ 0x59ffd06f ∷ 0xb3ffa0de ∷
    0x6213374d ∷ 0xc4266e9a ∷ 0x8da0abc5 ∷ 0x1ead217b ∷ 0x3d5a42f6 ∷ 0x7ab485ec ∷ 0xf5690bd8 ∷ 0xef3e6141 ∷
    0xdb90b473 ∷ 0xb2cd1e17 ∷ 0x60764adf ∷ 0xc0ec95be ∷ 0x84355d8d ∷ 0x0d86cdeb ∷ 0x1b0d9bd6 ∷ 0x361b37ac ∷
    0x6c366f58 ∷ 0xd86cdeb0 ∷ 0xb535cb91 ∷ 0x6f87e1d3 ∷ 0xdf0fc3a6 ∷ 0xbbf3f1bd ∷ 0x720b958b ∷ 0xe4172b16 ∷ []

far_columns : COLUMNS ≡ columns 10
unfolding columns applied steps step
far_columns = refl

far_made : (x : ℕ) → x < 2 ^ 32 → applied COLUMNS x ≡ steps 8192 x
far_made x lt =
    ap (λ (l : List ℕ). applied l x) (far_columns ∙ columns_are 10 8192 refl) ∙ made_all 8192 x lt

entry : (shift i : ℕ) (table : List ℕ)
    → table ≡ map (λ b. applied COLUMNS (b * shift)) (range_with_len 0 256) → i < 256 → i * shift < 2 ^ 32
    → slice_index table i ≡ steps 8192 (i * shift)
entry shift i table e lt fits =
    ap (λ (t : List ℕ). slice_index t i) e
    ∙ get_or-map-range_with_len (λ (b : ℕ). applied COLUMNS (b * shift)) 0 256 i i 0 lt (omega arith)
    ∙ far_made (i * shift) fits

table_0 : FAR_0 ≡ map (λ b. applied COLUMNS (b * 2 ^ 0)) (range_with_len 0 256)
unfolding applied
table_0 = refl

pub entry_0 : (i : ℕ) → i < 256 → slice_index FAR_0 i ≡ steps 8192 (i * 2 ^ 0)
entry_0 i lt = entry (2 ^ 0) i FAR_0 table_0 lt (omega arith)

table_1 : FAR_1 ≡ map (λ b. applied COLUMNS (b * 2 ^ 8)) (range_with_len 0 256)
unfolding applied
table_1 = refl

pub entry_1 : (i : ℕ) → i < 256 → slice_index FAR_1 i ≡ steps 8192 (i * 2 ^ 8)
entry_1 i lt = entry (2 ^ 8) i FAR_1 table_1 lt (omega arith)

table_2 : FAR_2 ≡ map (λ b. applied COLUMNS (b * 2 ^ 16)) (range_with_len 0 256)
unfolding applied
table_2 = refl

pub entry_2 : (i : ℕ) → i < 256 → slice_index FAR_2 i ≡ steps 8192 (i * 2 ^ 16)
entry_2 i lt = entry (2 ^ 16) i FAR_2 table_2 lt (omega arith)

table_3 : FAR_3 ≡ map (λ b. applied COLUMNS (b * 2 ^ 24)) (range_with_len 0 256)
unfolding applied
table_3 = refl

pub entry_3 : (i : ℕ) → i < 256 → slice_index FAR_3 i ≡ steps 8192 (i * 2 ^ 24)
entry_3 i lt = entry (2 ^ 24) i FAR_3 table_3 lt (omega arith)

-- a register, byte by byte
pub far_bytes : (w : ℕ) → steps 8192 w
    ≡ bit_xor (bit_xor (bit_xor (steps 8192 (w % 2 ^ 8 * 2 ^ 0)) (steps 8192 (w / 2 ^ 8 % 2 ^ 8 * 2 ^ 8)))
    (steps 8192 (w / 2 ^ 16 % 2 ^ 8 * 2 ^ 16))) (steps 8192 (w / 2 ^ 24 * 2 ^ 24))
far_bytes w =
    let first : w ≡ bit_xor (w / 2 ^ 8 * 2 ^ 8) (w % 2 ^ 8 * 2 ^ 0) =
    apart w (w / 2 ^ 8) (w % 2 ^ 8) 0 8 (omega arith) (omega arith) in
    let second : w / 2 ^ 8 * 2 ^ 8 ≡ bit_xor (w / 2 ^ 16 * 2 ^ 16) (w / 2 ^ 8 % 2 ^ 8 * 2 ^ 8) =
    apart (w / 2 ^ 8 * 2 ^ 8) (w / 2 ^ 16) (w / 2 ^ 8 % 2 ^ 8) 8 16 (omega arith) (omega arith) in
    let third : w / 2 ^ 16 * 2 ^ 16 ≡ bit_xor (w / 2 ^ 24 * 2 ^ 24) (w / 2 ^ 16 % 2 ^ 8 * 2 ^ 16) =
    apart (w / 2 ^ 16 * 2 ^ 16) (w / 2 ^ 24) (w / 2 ^ 16 % 2 ^ 8) 16 24 (omega arith) (omega arith) in
    let a = steps 8192 (w % 2 ^ 8 * 2 ^ 0) in
    let b = steps 8192 (w / 2 ^ 8 % 2 ^ 8 * 2 ^ 8) in
    let c = steps 8192 (w / 2 ^ 16 % 2 ^ 8 * 2 ^ 16) in
    let d = steps 8192 (w / 2 ^ 24 * 2 ^ 24) in
    peel w (w / 2 ^ 8 * 2 ^ 8) (w % 2 ^ 8 * 2 ^ 0) first
    ∙ ap (bit_xor a) (peel (w / 2 ^ 8 * 2 ^ 8) (w / 2 ^ 16 * 2 ^ 16) (w / 2 ^ 8 % 2 ^ 8 * 2 ^ 8) second
    ∙ ap (bit_xor b) (peel (w / 2 ^ 16 * 2 ^ 16) (w / 2 ^ 24 * 2 ^ 24) (w / 2 ^ 16 % 2 ^ 8 * 2 ^ 16) third))
    ∙ sym (xor_assoc a b (bit_xor c d)) ∙ sym (xor_assoc (bit_xor a b) c d)
  where
    apart : (w high low k j : ℕ) → low * 2 ^ k < 2 ^ j → w ≡ high * 2 ^ j + low * 2 ^ k
        → w ≡ bit_xor (high * 2 ^ j) (low * 2 ^ k)
    apart w high low k j below e = e ∙ sym (xor_shifted high j (low * 2 ^ k) below)

    peel : (w high low : ℕ) → w ≡ bit_xor high low
        → steps 8192 w ≡ bit_xor (steps 8192 low) (steps 8192 high)
    peel w high low e = ap (steps 8192) (e ∙ xor_comm high low) ∙ steps_xor 8192 low high
