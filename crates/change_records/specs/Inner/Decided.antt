-- Bytes spell one list of changes, or are bad at one place.
use Rattle.std.proofs.Common.{◌≡◌, ◌⊎◌, inl, inr, ℕ, zero, suc, ◌<◌, ◌≤◌, ◌^◌, List, [], ◌∷◌, ◌++◌, length, drop, refl, sym, ◌∙◌, ap, subst, arith, append_assoc, length-append}
use Rattle.std.specs.Prelude.{Option, None, Some}
use Rattle.std.specs.List.{All}
use Rattle.std.proofs.lemmas.List.{append-nil}
use Rattle.std.proofs.lemmas.List.Elements.{All-nil, All-cons, All-head, All-tail}
use Rattle.vtl_base.specs.declared.limits.TheConstants.{MAX_BLOCK, MAX_OBJECTS}
use Rattle.volume_core.specs.declared.changes.Change.{Change}
use Rattle.volume_core.specs.declared.changes.Change.TheVariants.{Put, Marks, Erase}
use Rattle.change_records.specs.declared.records.Record.{Record}
use Rattle.change_records.specs.declared.records.Record.TheVariants as Records
use Rattle.change_records.specs.Records.{IsRecord, IsBadAt, BeginsWithRecord, SpellsAll, change_in, record_of, size_of, spell_change, spell_all}
use Rattle.change_records.specs.Inner.Deciding.{Decidable, both, both3, below, less, same}
use Rattle.change_records.specs.Inner.Spelled.{change_again, length-spell, one_front, rest_again, decoded_again}
use Rattle.change_records.specs.Inner.Decoded.{decoded}

-- the bytes spell a list of changes, or are bad at a place (own)
abbrev pub DecidesBody : List ℕ → Type 0
DecidesBody bytes = ((changes : List Change) × SpellsAll bytes changes) ⊎ ((at : ℕ) × IsBadAt bytes at)

ten_at_least : (item : Record) → 10 ≤ size_of item
ten_at_least (Records.Put part at size) = omega arith
ten_at_least (Records.Marks part at count) = omega arith
ten_at_least (Records.Erase part at) = omega arith

-- each record has a byte
pub some_byte : (change : Change) (rest : List ℕ) → spell_change change ++ rest ≡ [] → ⊥
some_byte (Put part at block) rest e = cc
some_byte (Marks part at count) rest e = cc
some_byte (Erase part at) rest e = cc

pub nothing_begins : BeginsWithRecord [] → ⊥
nothing_begins w = some_byte w.0 w.1 (sym w.3)

is_record : (change : Change) → Decidable (IsRecord change)
is_record (Put part at block) =
    both3 (both (less part (2 ^ 8)) (less at (2 ^ 32))) (below 1 (length block)) (below (length block) MAX_BLOCK)
is_record (Marks part at count) =
    both3 (both (less part (2 ^ 8)) (less at (2 ^ 32))) (below 1 count) (below count MAX_OBJECTS)
is_record (Erase part at) = both (less part (2 ^ 8)) (less at (2 ^ 32))

-- it is decidable whether bytes begin with a record
pub begins : (bytes : List ℕ) → Decidable (BeginsWithRecord bytes)
begins bytes = by (decoded bytes) refl
  where
    decoded_by : (w : BeginsWithRecord bytes) → decoded bytes ≡ Some (record_of w.0)
    decoded_by w = ap decoded w.3 ∙ decoded_again w.0 w.1 w.2

    by : (item : Option Record) → decoded bytes ≡ item → Decidable (BeginsWithRecord bytes)
    by None none = inr (λ w. let e : None ≡ Some (record_of w.0) = sym none ∙ decoded_by w in cc)
    by (Some item) some = elim (both (is_record (change_in item bytes))
        (same bytes (spell_change (change_in item bytes) ++ drop (size_of item) bytes))) [
          | inl w ↦ inl (change_in item bytes, drop (size_of item) bytes, w.0, w.1)
          | inr never ↦ inr (λ w. never (found item some w))
        ]
      where
        found : (item : Record) → decoded bytes ≡ Some item → (w : BeginsWithRecord bytes)
            → IsRecord (change_in item bytes) × (bytes ≡ spell_change (change_in item bytes) ++ drop (size_of item)
            bytes)
        found item some w =
            let items : item ≡ record_of w.0 =
            (let e : Some item ≡ Some (record_of w.0) = sym some ∙ decoded_by w in cc) in
            let change : w.0 ≡ change_in item bytes =
            sym (change_again w.0 w.1) ∙ (λ i. change_in (sym items i) (sym w.3 i)) in
            let rest : w.1 ≡ drop (size_of item) bytes =
            sym (rest_again w.0 w.1) ∙ (λ i. drop (size_of (sym items i)) (sym w.3 i)) in (
              subst (λ (c : Change). IsRecord c) change w.2,
              w.3 ∙ (λ i. spell_change (change i) ++ rest i),
            )

-- records, and then bytes that begin with none (own)
abbrev pub Split : List ℕ → Type 0
Split bytes =
    (changes : List Change) × (rest : List ℕ) × All IsRecord changes × (bytes ≡ spell_all changes ++ rest)
    × (BeginsWithRecord rest → ⊥)

one_more : (bytes : List ℕ) (w : BeginsWithRecord bytes) → Split w.1 → Split bytes
one_more bytes w s = (
  w.0 ∷ s.0,
  s.1,
  All-cons IsRecord w.0 s.0 w.2 s.2,
  w.3 ∙ ap (λ (l : List ℕ). spell_change w.0 ++ l) s.3 ∙ sym (append_assoc (spell_change w.0) (spell_all s.0) s.1),
  s.4,
)

shorter : (bytes : List ℕ) (w : BeginsWithRecord bytes) → length w.1 < length bytes
shorter bytes w =
    omega (arith, ap length w.3, length-append (spell_change w.0) w.1, length-spell w.0, ten_at_least (record_of w.0))

split_within : (n : ℕ) (bytes : List ℕ) → length bytes ≤ n → Split bytes
split_within zero bytes short = elim (begins bytes) [
  | inr never ↦ ([], bytes, All-nil IsRecord, refl, never)
  | inl w ↦ absurd (omega (arith, short, shorter bytes w))
]
split_within (suc n) bytes short = elim (begins bytes) [
  | inr never ↦ ([], bytes, All-nil IsRecord, refl, never)
  | inl w ↦ one_more bytes w (split_within n w.1 (omega (arith, short, shorter bytes w)))
]

decide : (bytes : List ℕ) → Split bytes → DecidesBody bytes
decide bytes (changes, [], ok, is, never) = inl (changes, (ok, is ∙ append-nil (spell_all changes)))
decide bytes (changes, x ∷ rest, ok, is, never) = inr (
  length (spell_all changes),
  record {
    changes = changes;
    rest = x ∷ rest;
    spelled = ok;
    begins = is;
    at_is = refl;
    some = λ e. cc;
    bad = never;
  },
)

pub decided : (bytes : List ℕ) → DecidesBody bytes
decided bytes = decide bytes (split_within (length bytes) bytes (omega arith))

-- the records at the start of bytes are one list, where the rest begins with none
pub one_end : (changes others : List Change) (r s : List ℕ) → All IsRecord changes → All IsRecord others
    → spell_all changes ++ r ≡ spell_all others ++ s → (BeginsWithRecord r → ⊥) → (BeginsWithRecord s → ⊥)
    → (changes ≡ others) × (r ≡ s)
one_end [] [] r s okc oko is noner nones = (refl, is)
one_end (c ∷ cs) [] r s okc oko is noner nones =
    absurd (nones (
      c,
      spell_all cs ++ r,
      All-head IsRecord c cs okc,
      sym is ∙ append_assoc (spell_change c)
          (spell_all cs) r,
    ))
one_end [] (d ∷ ds) r s okc oko is noner nones =
    absurd (noner (
      d,
      spell_all ds ++ s,
      All-head IsRecord d ds oko,
      is ∙ append_assoc (spell_change d) (spell_all
          ds) s,
    ))
one_end (c ∷ cs) (d ∷ ds) r s okc oko is noner nones =
    let first =
    one_front c d (spell_all cs ++ r) (spell_all ds ++ s) (All-head IsRecord c cs okc) (All-head IsRecord d ds oko)
    (sym (append_assoc (spell_change c) (spell_all cs) r) ∙ is ∙ append_assoc (spell_change d) (spell_all ds) s) in
    let others = one_end cs ds r s (All-tail IsRecord c cs okc) (All-tail IsRecord d ds oko) first.1 noner nones in
    (λ i. first.0 i ∷ others.0 i, others.1)

-- a spelled list is its records, without a rest
ends : (bytes : List ℕ) (changes : List Change) → SpellsAll bytes changes → bytes ≡ spell_all changes ++ []
ends bytes changes spells = spells.1 ∙ sym (append-nil (spell_all changes))

pub same_list : (bytes : List ℕ) (changes others : List Change)
    → SpellsAll bytes changes → SpellsAll bytes others → changes ≡ others
same_list bytes changes others one two =
    (one_end changes others [] [] one.0 two.0 (sym (ends bytes changes one) ∙ ends bytes others two) nothing_begins
    nothing_begins).0

pub bad_is_one : (bytes : List ℕ) (a b : ℕ) → IsBadAt bytes a → IsBadAt bytes b → a ≡ b
bad_is_one bytes a b one two =
    let lists = one_end one.changes two.changes one.rest two.rest one.spelled two.spelled (sym one.begins ∙ two.begins)
    one.bad two.bad in
    one.at_is ∙ ap (λ (l : List Change). length (spell_all l)) lists.0 ∙ sym two.at_is

pub never_both : (bytes : List ℕ) (changes : List Change) (at : ℕ) → SpellsAll bytes changes → IsBadAt bytes at → ⊥
never_both bytes changes at spells bad =
    bad.some (sym (one_end changes bad.changes [] bad.rest spells.0 bad.spelled
    (sym (ends bytes changes spells) ∙ bad.begins) nothing_begins bad.bad).1)
