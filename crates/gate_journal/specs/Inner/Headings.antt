-- Which headings can be spelled, how long they are, and that this is decidable.
use Rattle.std.proofs.Common.{◌≡◌, ℕ, ◌<◌, ◌≤◌, ◌+◌, ◌-◌, ◌*◌, ◌^◌, List, [], ◌∷◌, ◌++◌, length, take, replicate, refl, sym, ◌∙◌, ap, subst, arith, length-append, true, false, cond, nat_lt}
use Rattle.std.specs.Prelude.{codes, Bool, IsTrue, nat_le, ◌&&◌}
use Rattle.std.specs.List.{All, flat_map}
use Rattle.std.specs.Int.{to_be_bytes, w64}
use Rattle.std.proofs.lemmas.List.{take_at, length-replicate}
use Rattle.std.proofs.lemmas.List.Elements.{All-head, All-tail}
use Rattle.std.proofs.lemmas.Bool.{cases_eq, leb-true, false≢true}
use Rattle.vtl_base.specs.Barcode.{IsBarcode, is_symbol}
use Rattle.vtl_base.specs.Limits.{is_capacity}
use Rattle.gate_journal.specs.declared.header.SideKind.{SideKind}
use Rattle.gate_journal.specs.declared.header.SideKind.TheVariants.{Cartridge, Store}
use Rattle.gate_journal.specs.Side.{Heading, padded, digits, drive_name, IsName, IsCount, IsHeading}
use Rattle.gate_journal.specs.Inner.Reading.{numbers_of}
use Rattle.byteorder.specs.Numbers.{big_number-reads_back}
use Rattle.gate_journal.specs.Inner.Deciding.{Decidable, both, decided_as, below, is_true, all, some_below, same}

length_padded : (text : List ℕ) → length text ≤ 16 → length (padded text) ≡ 16
length_padded text short = omega
    (arith, short, length-append text (replicate (16 - length text) 32), length-replicate {A = ℕ} (16 - length text) 32)

short_digits : (n : ℕ) → length (codes "DRIVE" ++ digits n) ≤ 16
short_digits n = elim (nat_lt n 10) as
    (λ b. length (codes "DRIVE" ++ cond b ((48 + n) ∷ []) (49 ∷ (38 + n) ∷ [])) ≤ 16)
    [ true ↦ omega arith | false ↦ omega arith ]

pub length_name : (kind : SideKind) (name : List ℕ) → IsName kind name → length name ≡ 16
length_name Cartridge name (text, ok, is) = ap length is ∙ length_padded text ok.short
length_name Store name (n, low, high, is) = ap length is ∙ length_padded (codes "DRIVE" ++ digits n) (short_digits n)

pub length_capacities : (capacities : List ℕ) → length (flat_map (to_be_bytes w64) capacities) ≡ 8 * length capacities
length_capacities [] = refl
length_capacities (w ∷ ws) = omega
    (arith, length_capacities ws, length-append (to_be_bytes w64 w) (flat_map (to_be_bytes w64) ws))

second_true : (x y : Bool) → (x && y) ≡ true → y ≡ true
second_true true y e = e
second_true false y e = absurd (false≢true e)

abbrev Allowed : ℕ → Type 0
Allowed bytes = IsTrue (is_capacity bytes)

pub numbers_again : (capacities : List ℕ) → All Allowed capacities →
    numbers_of (flat_map (to_be_bytes w64) capacities) ≡ capacities
numbers_again [] ok = refl
numbers_again (w ∷ ws) ok =
    let below : w ≤ 1099511627776 =
    leb-true w 1099511627776 (second_true (nat_le 4096 w) _ (All-head Allowed w ws ok)) in
    let fits : w < 2 ^ 64 = omega (arith, below) in
    λ i. big_number-reads_back 8 w [] fits i ∷ numbers_again ws (All-tail Allowed w ws ok) i

-- it is decidable whether a heading can be spelled
decided_barcode : (bytes : List ℕ) → Decidable (IsBarcode bytes)
decided_barcode bytes =
    decided_as (λ w. record { some = w.0.0; short = w.0.1; symbols = w.1 }) (λ b. ((b.some, b.short), b.symbols))
    (both (both (below 1 (length bytes)) (below (length bytes) 16))
    (all (λ byte. is_symbol byte ≡ true) (λ byte. is_true (is_symbol byte)) bytes))

decided_name : (kind : SideKind) (name : List ℕ) → Decidable (IsName kind name)
decided_name Cartridge name =
    decided_as
    (λ (w : (n : ℕ) × (n < 17) × (IsBarcode (take n name) × (name ≡ padded (take n name)))).
    (take w.0 name, w.2.0, w.2.1))
    (λ (t : (text : List ℕ) × IsBarcode text × (name ≡ padded text)).
    let front : take (length t.0) name ≡ t.0 =
    ap (λ (l : List ℕ). take (length t.0) l) t.2 ∙ take_at t.0 (replicate (16 - length t.0) 32) (length t.0) refl in (
      length t.0,
      omega (arith, t.1.short),
      (subst (λ (l : List ℕ). IsBarcode l) (sym front) t.1, t.2 ∙ ap padded (sym front)),
    ))
    (some_below (λ n. IsBarcode (take n name) × (name ≡ padded (take n name)))
    (λ n. both (decided_barcode (take n name)) (same name (padded (take n name)))) 17)
decided_name Store name =
    decided_as
    (λ (w : (n : ℕ) × (n < 17) × ((1 ≤ n) × (name ≡ drive_name n))).
    (w.0, w.2.0, (let l : w.0 ≤ 16 = omega (arith, w.1) in l), w.2.1))
    (λ (w : (n : ℕ) × (1 ≤ n) × (n ≤ 16) × (name ≡ drive_name n)). (w.0, omega (arith, w.2), (w.1, w.3)))
    (some_below (λ n. (1 ≤ n) × (name ≡ drive_name n)) (λ n. both (below 1 n) (same name (drive_name n))) 17)

decided_count : (kind : SideKind) (n : ℕ) → Decidable (IsCount kind n)
decided_count Cartridge n = both (below 1 n) (below n 4)
decided_count Store n = cases_eq n 0

pub decided_heading : (h : Heading) → Decidable (IsHeading h)
decided_heading h =
    decided_as (λ w. record { name = w.0.0; count = w.0.1; capacities = w.1 }) (λ b. ((b.name, b.count), b.capacities))
    (both (both (decided_name h.kind h.name) (decided_count h.kind (length h.capacities)))
    (all Allowed (λ n. is_true (is_capacity n)) h.capacities))

few : (kind : SideKind) (n : ℕ) → IsCount kind n → n ≤ 4
few Cartridge n count = count.1
few Store n count = omega (arith, count)

pub few_capacities : (h : Heading) → IsHeading h → length h.capacities ≤ 4
few_capacities h ok = few h.kind (length h.capacities) ok.count
