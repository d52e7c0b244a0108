-- The register after bytes in pieces, and after a word of them.
use Rattle.std.proofs.Common.{◌≡◌, ℕ, suc, ◌+◌, ◌*◌, ◌/◌, ◌%◌, ◌^◌, ◌<◌, List, [], ◌∷◌, ◌++◌, length, bit_xor, refl, ap, sym, ◌∙◌, arith}
use Rattle.std.specs.List.{All}
use Rattle.std.proofs.lemmas.Nat.{xor_comm, pow-add}
use Rattle.std.specs.Int.Bits.{xor_zero_r, xor_assoc, xor_shifted}
use Rattle.std.proofs.Math.Nat.{div-div-eq-div-mul}
use Rattle.crc32c.specs.Crc.{steps, fed}
use Rattle.crc32c.specs.Remainder.{low_first}
use Rattle.crc32c.proofs.StepLemmas.{steps_byte, steps_more, steps_shifted, steps_split, steps_xor}

pub fed-append : (r : ℕ) (xs ys : List ℕ) → fed r (xs ++ ys) ≡ fed (fed r xs) ys
unfolding fed
fed-append r [] ys = refl
fed-append r (x ∷ xs) ys = fed-append (steps 8 (bit_xor r x)) xs ys

-- the register, and bytes above it, by eight steps
first_byte : (r b word : ℕ) → b < 2 ^ 8
    → steps 8 (bit_xor r (word * 2 ^ 8 + b)) ≡ bit_xor (steps 8 (bit_xor r b)) word
first_byte r b word lt =
    let parts : bit_xor r (word * 2 ^ 8 + b) ≡ bit_xor (bit_xor r b) (word * 2 ^ 8) =
    ap (bit_xor r) (sym (xor_shifted word 8 b lt) ∙ xor_comm (word * 2 ^ 8) b) ∙ sym (xor_assoc r b (word * 2 ^ 8)) in
    ap (steps 8) parts ∙ steps_xor 8 (bit_xor r b) (word * 2 ^ 8)
    ∙ ap (bit_xor (steps 8 (bit_xor r b))) (steps_shifted 8 word)

-- bytes one after another are a word at once
pub fed_word : (r : ℕ) (bytes : List ℕ) → All (λ b. b < 2 ^ 8) bytes
    → fed r bytes ≡ steps (8 * length bytes) (bit_xor r (low_first bytes))
unfolding fed steps
fed_word r [] all = sym (xor_zero_r r)
fed_word r (b ∷ bytes) all =
    let e : 8 * length (b ∷ bytes) ≡ 8 + 8 * length bytes = omega arith in
    let first : b < 2 ^ 8 = all 0 0 (omega arith) in
    fed_word (steps 8 (bit_xor r b)) bytes (λ k d lt. all (suc k) d (omega arith))
    ∙ ap (steps (8 * length bytes)) (sym (first_byte r b (low_first bytes) first))
    ∙ sym (steps_more 8 (8 * length bytes) (bit_xor r (low_first bytes * 2 ^ 8 + b)))
    ∙ ap (λ (n : ℕ). steps n (bit_xor r (low_first bytes * 2 ^ 8 + b))) (sym e)

-- a byte of a word, by the bytes below it
shifted : (w k j : ℕ) → k + 8 ≡ j → w / 2 ^ k / 2 ^ 8 ≡ w / 2 ^ j
shifted w k j e =
    div-div-eq-div-mul w (2 ^ k) (2 ^ 8) ∙ ap (λ (x : ℕ). w / x) (sym (pow-add 2 k 8) ∙ ap (λ (x : ℕ). 2 ^ x) e)

-- the steps of a word above place `k` are those of its next byte, and those of the word above that
byte_at : (w m k j : ℕ) → k + 8 ≡ j
    → steps (8 + m) (w / 2 ^ k) ≡ bit_xor (steps (8 + m) (w / 2 ^ k % 2 ^ 8)) (steps m (w / 2 ^ j))
byte_at w m k j e =
    steps_byte m (w / 2 ^ k)
    ∙ xor_comm (steps m (w / 2 ^ k / 2 ^ 8)) (steps (8 + m) (w / 2 ^ k % 2 ^ 8))
    ∙ ap (λ (x : ℕ). bit_xor (steps (8 + m) (w / 2 ^ k % 2 ^ 8)) (steps m x)) (shifted w k j e)

-- the steps of a word of eight bytes, one after another
pub steps_word : (w : ℕ) → steps 64 w
    ≡ bit_xor (steps 64 (w % 2 ^ 8)) (bit_xor (steps 56 (w / 2 ^ 8 % 2 ^ 8)) (bit_xor (steps 48 (w / 2 ^ 16 % 2 ^ 8))
    (bit_xor (steps 40 (w / 2 ^ 24 % 2 ^ 8)) (bit_xor (steps 32 (w / 2 ^ 32 % 2 ^ 8))
    (bit_xor (steps 24 (w / 2 ^ 40 % 2 ^ 8)) (bit_xor (steps 16 (w / 2 ^ 48 % 2 ^ 8)) (steps 8 (w / 2 ^ 56))))))))
steps_word w =
    steps_byte 56 w ∙ xor_comm (steps 56 (w / 2 ^ 8)) (steps 64 (w % 2 ^ 8))
    ∙ ap (bit_xor (steps 64 (w % 2 ^ 8))) (byte_at w 48 8 16 refl
    ∙ ap (bit_xor (steps 56 (w / 2 ^ 8 % 2 ^ 8))) (byte_at w 40 16 24 refl
    ∙ ap (bit_xor (steps 48 (w / 2 ^ 16 % 2 ^ 8))) (byte_at w 32 24 32 refl
    ∙ ap (bit_xor (steps 40 (w / 2 ^ 24 % 2 ^ 8))) (byte_at w 24 32 40 refl
    ∙ ap (bit_xor (steps 32 (w / 2 ^ 32 % 2 ^ 8))) (byte_at w 16 40 48 refl
    ∙ ap (bit_xor (steps 24 (w / 2 ^ 40 % 2 ^ 8))) (byte_at w 8 48 56 refl))))))

-- seven exclusive-ors, grouped from the left
pub left_seven : (a b c d e f g h : ℕ)
    → bit_xor (bit_xor (bit_xor (bit_xor (bit_xor (bit_xor (bit_xor a b) c) d) e) f) g) h
    ≡ bit_xor a (bit_xor b (bit_xor c (bit_xor d (bit_xor e (bit_xor f (bit_xor g h))))))
left_seven a b c d e f g h =
    xor_assoc (bit_xor (bit_xor (bit_xor (bit_xor (bit_xor a b) c) d) e) f) g h
    ∙ xor_assoc (bit_xor (bit_xor (bit_xor (bit_xor a b) c) d) e) f (bit_xor g h)
    ∙ xor_assoc (bit_xor (bit_xor (bit_xor a b) c) d) e (bit_xor f (bit_xor g h))
    ∙ xor_assoc (bit_xor (bit_xor a b) c) d (bit_xor e (bit_xor f (bit_xor g h)))
    ∙ xor_assoc (bit_xor a b) c (bit_xor d (bit_xor e (bit_xor f (bit_xor g h))))
    ∙ xor_assoc a b (bit_xor c (bit_xor d (bit_xor e (bit_xor f (bit_xor g h)))))

-- the register after one byte
pub one_byte : (r b : ℕ)
    → bit_xor (bit_xor r b / 2 ^ 8) (steps 8 (bit_xor r b % 2 ^ 8)) ≡ steps 8 (bit_xor r b)
one_byte r b = sym (steps_split 8 (bit_xor r b))

-- after eight bytes
pub eight_bytes : (r word : ℕ) (bytes : List ℕ) → length bytes ≡ 8 → All (λ b. b < 2 ^ 8) bytes
    → word ≡ low_first bytes → steps 64 (bit_xor word r) ≡ fed r bytes
eight_bytes r word bytes len all e =
    let n : 8 * length bytes ≡ 64 = omega arith in
    ap (steps 64) (xor_comm word r ∙ ap (bit_xor r) e)
    ∙ ap (λ (k : ℕ). steps k (bit_xor r (low_first bytes))) (sym n)
    ∙ sym (fed_word r bytes all)
