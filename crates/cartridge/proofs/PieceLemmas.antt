-- The bytes of a body come in pieces, and its records are carried out as they are whole.
use Rattle.std.proofs.Common.{◌≡◌, ℕ, zero, suc, ◌≤◌, ◌+◌, ◌-◌, List, [], ◌∷◌, ◌++◌, length, take, drop, Bool, true, false, Result, Ok, Err, refl, sym, ◌∙◌, ap, subst, arith, append_assoc, length-append}
use Rattle.std.specs.Prelude.{is_err}
use Rattle.std.proofs.lemmas.List.{append-nil, length-drop, take-append-drop, take_all}
use Rattle.volume_core.specs.declared.changes.Change.{Change}
use Rattle.change_records.specs.declared.records.Record.{Record}
use Rattle.change_records.specs.declared.records.RecordError.{RecordError}
use Rattle.change_records.specs.declared.records.RecordError.TheVariants.{BadRecord, NoMemory}
use Rattle.object_index.specs.Indexes.{indexes_by}
use Rattle.object_index.specs.Places.{PlacedPart}
use Rattle.change_records.specs.Readers.{Ends, Finds, IsAfter, ReaderState}
use Rattle.change_records.specs.Records.{IsAtFront, IsBadAt, IsRecord, SpellsAll, change_in, record_of, size_of, spell_all, spell_change}
use Rattle.change_records.specs.Inner.Decided.{never_both}
use Rattle.change_records.specs.Inner.Spelled.{change_again, length-spell, rest_again}
use Rattle.cartridge.specs.Lying.{LiesIn}
use Rattle.cartridge.specs.Inner.Reading.{BehindEach, EntersAt, IsBadBody, IsBodyWalked, WalkedTo, Walks, WalksTo}
use Rattle.cartridge.proofs.OpenLemmas.{lies_in_more}
use Rattle.cartridge.proofs.WalkingLemmas.{lies_next, some_bytes_of, spell_more, walk_end, walk_none, walk_on, walk_refused}

drop_front : (n : ℕ) (xs ys : List ℕ) → n ≤ length xs → drop n (xs ++ ys) ≡ drop n xs ++ ys
drop_front zero xs ys inside = refl
drop_front (suc n) [] ys inside = absurd (omega (arith, inside))
drop_front (suc n) (x ∷ xs) ys inside = drop_front n xs ys (omega (arith, inside))

take_parts : (from count : ℕ) (xs : List ℕ) → take from xs ++ take count (drop from xs) ≡ take (from + count) xs
take_parts zero count xs = ap (λ (n : ℕ). take n xs) (omega arith)
take_parts (suc from) count [] = take_all count [] (omega arith) ∙ sym (take_all (suc from + count) [] (omega arith))
take_parts (suc from) count (x ∷ xs) =
    let sum : suc (from + count) ≡ suc from + count = omega arith in
    ap (λ (l : List ℕ). x ∷ l) (take_parts from count xs) ∙ ap (λ (n : ℕ). take n (x ∷ xs)) sum

-- what is left of a piece, as the code slices it
pub rest_is : (piece : List ℕ) (from : ℕ) → take (length piece - from) (drop from piece) ≡ drop from piece
rest_is piece from = take_all (length piece - from) (drop from piece) (omega (arith, length-drop from piece))

-- the next part of a piece, behind what came before
pub part_next : (before piece : List ℕ) (from count : ℕ)
    → (before ++ take from piece) ++ take count (take (length piece - from) (drop from piece))
    ≡ before ++ take (from + count) piece
part_next before piece from count =
    append_assoc before (take from piece) (take count (take (length piece - from) (drop from piece)))
    ∙ ap (λ (l : List ℕ). before ++ l)
    (ap (λ (l : List ℕ). take from piece ++ take count l) (rest_is piece from) ∙ take_parts from count piece)

-- all that is left
pub part_last : (before piece : List ℕ) (from : ℕ)
    → (before ++ take from piece) ++ take (length piece - from) (drop from piece) ≡ before ++ piece
part_last before piece from =
    append_assoc before (take from piece) (take (length piece - from) (drop from piece))
    ∙ ap (λ (l : List ℕ). before ++ l)
    (ap (λ (l : List ℕ). take from piece ++ l) (rest_is piece from) ∙ take-append-drop from piece)

-- a spelled change stands at the front as its record
front_of : (change : Change) (rest : List ℕ) → IsRecord change
    → IsAtFront (record_of change) (spell_change change ++ rest)
front_of change rest is =
    let again = change_again change rest in
    record {
      valid = subst IsRecord (sym again) is;
      spelled = λ i. spell_change (sym again i) ++ sym (rest_again change rest) i;
      sized = ap (λ (c : Change). length (spell_change c)) again ∙ length-spell change;
      within = omega (arith, length-spell change, length-append (spell_change change) rest);
      of_it = ap record_of again;
    }

-- and stands there whatever follows
front_more : (item : Record) (bytes more : List ℕ) → IsAtFront item bytes → IsAtFront item (bytes ++ more)
front_more item bytes more front =
    let change = change_in item bytes in
    let rest = drop (size_of item) bytes in
    subst (λ (x : Record × List ℕ). IsAtFront x.0 x.1)
    (λ i. (
      front.of_it i,
      (sym (append_assoc (spell_change change) rest more) ∙ ap (λ (l : List ℕ). l ++ more) (sym front.spelled)) i,
    ))
    (front_of change (rest ++ more) front.valid)

-- a body of which nothing came
pub walked_none : (start : List PlacedPart) (place : ℕ) (index : List PlacedPart) (reader : ReaderState)
    → index ≡ start → IsAfter [] [] reader → IsBodyWalked start place [] index reader
walked_none start place index reader same after = record {
  changes = [];
  after = after;
  walked = λ more volume bodies extents as_many lies.
      let P = LiesIn (bodies ++ more ∷ []) (extents ++ (place, length more) ∷ []) in
      subst (λ (x : ℕ × List PlacedPart). WalkedTo x.0 more volume P x.1)
      (λ i. (sym after.stands.begin_is i, sym same i))
      (walk_none more volume P start
      (indexes_by (LiesIn bodies extents) P volume start (lies_in_more bodies extents more (place, length more) as_many)
      lies));
}

-- a body that is bad by its first bytes is bad
pub walks_bad : (start : List PlacedPart) (place : ℕ) (bytes rest whole : List ℕ) (index index' : List PlacedPart)
    (reader reader' : ReaderState) → bytes ++ rest ≡ whole → Walks false start place bytes index reader
    → Walks false start place whole index' reader'
walks_bad start place bytes rest whole index index' reader reader' is bad = λ more.
    subst (λ (l : List ℕ). BehindEach place l start (λ volume P. IsBadBody volume l))
    (sym (append_assoc bytes rest more) ∙ ap (λ (l : List ℕ). l ++ more) is) (bad (rest ++ more))

module _ (start : List PlacedPart) (place : ℕ) (so_far bytes : List ℕ) (index : List PlacedPart)
    (reader reader' : ReaderState) (had : IsBodyWalked start place so_far index reader) where
  abbrev whole : List ℕ
  whole = so_far ++ bytes

  walked_there : (more : List ℕ)
      → BehindEach place (whole ++ more) start (λ volume P. WalkedTo reader.begin (whole ++ more) volume P index)
  walked_there more =
      subst (λ (l : List ℕ). BehindEach place l start (λ volume P. WalkedTo reader.begin l volume P index))
      (sym (append_assoc so_far bytes more)) (had.walked (bytes ++ more))

  -- bytes that end no record
  pub walked_more : IsAfter whole had.changes reader' → IsBodyWalked start place whole index reader'
  walked_more after = record {
    changes = had.changes;
    after = after;
    walked = λ more volume bodies extents as_many lies.
        let body = whole ++ more in
        subst
        (λ (n : ℕ). WalkedTo n body volume (LiesIn (bodies ++ body ∷ []) (extents ++ (place, length body) ∷ [])) index)
        (had.after.stands.begin_is ∙ sym after.stands.begin_is)
        (walked_there more volume bodies extents as_many lies);
  }

  -- bytes behind which no record begins
  pub walked_bad : (at : ℕ) → ((more : List ℕ) → IsBadAt (whole ++ more) at)
      → Walks false start place whole index reader'
  walked_bad at bad = λ more volume bodies extents as_many lies changes records is apply.
      never_both (whole ++ more) changes at (records, is) (bad more)

  module _ (item : Record) (begin : ℕ) (finds : Finds whole had.changes item begin reader') where
    pub found_inside : begin + size_of item ≤ length whole
    found_inside =
        omega (arith, finds.front.within, length-drop begin whole, some_bytes_of item)

    front_there : (more : List ℕ) → IsAtFront item (drop begin (whole ++ more))
    front_there more =
        subst (IsAtFront item)
        (sym (drop_front begin whole more (omega (arith, found_inside))))
        (front_more item (drop begin whole) more finds.front)

    begins_next : begin + size_of item ≡ reader'.begin
    begins_next =
        let change = change_in item (drop begin whole) in
        omega (
          arith,
          finds.after.stands.begin_is,
          ap (λ (l : List ℕ). length l) (spell_more had.changes change),
          length-append (spell_all had.changes) (spell_change change),
          finds.front.sized,
          finds.place,
        )

    -- the bytes end a record, which is carried out or refused
    pub walked_found : (index' : List PlacedPart) (good : Bool) → EntersAt good item (place + begin) index index'
        → Walks good start place whole index' reader'
    walked_found index' true enters = record {
      changes = had.changes ++ change_in item (drop begin whole) ∷ [];
      after = finds.after;
      walked = λ more volume bodies extents as_many lies.
          let body = whole ++ more in
          let P = LiesIn (bodies ++ body ∷ []) (extents ++ (place, length body) ∷ []) in
          let before = subst (λ (n : ℕ). WalkedTo n body volume P index)
          (had.after.stands.begin_is ∙ sym finds.place) (walked_there more volume bodies extents as_many lies) in
          subst (λ (n : ℕ). WalkedTo n body volume P index') begins_next
          (walk_on body volume P begin index before item (front_there more) index' enters.1.0 enters.1.1 enters.0
          enters.1.2
          (lies_next bodies body extents place begin item enters.1.0 as_many (front_there more) enters.1.3));
    }
    walked_found index' false enters = λ more volume bodies extents as_many lies.
        let body = whole ++ more in
        let P = LiesIn (bodies ++ body ∷ []) (extents ++ (place, length body) ∷ []) in
        let before = subst (λ (n : ℕ). WalkedTo n body volume P index)
        (had.after.stands.begin_is ∙ sym finds.place) (walked_there more volume bodies extents as_many lies) in
        walk_refused body volume P begin index before item (front_there more) enters.0 (some_bytes_of item) enters.1

module _ (start : List PlacedPart) (place : ℕ) (body : List ℕ) (index : List PlacedPart) (reader : ReaderState)
    (had : IsBodyWalked start place body index reader) (result : Result Unit RecordError)
    (ends : Ends result body had.changes) where
  -- the body is whole
  pub walked_whole : is_err result ≡ false
      → BehindEach place body start (λ volume P. WalksTo true body volume P index)
  walked_whole fine = by result ends fine
    where
      all : SpellsAll body had.changes → BehindEach place body start (λ volume P. WalksTo true body volume P index)
      all spells volume bodies extents as_many lies =
          let P = LiesIn (bodies ++ body ∷ []) (extents ++ (place, length body) ∷ []) in
          let there =
          subst (λ (l : List ℕ). BehindEach place l start (λ volume P. WalkedTo reader.begin l volume P index))
          (append-nil body) (had.walked []) in
          walk_end body volume P reader.begin index (there volume bodies extents as_many lies)
          (omega (arith, had.after.stands.begin_is, ap (λ (l : List ℕ). length l) spells.1))

      by : (r : Result Unit RecordError) → Ends r body had.changes → is_err r ≡ false
          → BehindEach place body start (λ volume P. WalksTo true body volume P index)
      by (Ok done) spells e = all spells
      by (Err error) spells e = absurd (cc)

  -- its last record is not
  pub walked_badly : is_err result ≡ true
      → BehindEach place body start (λ volume P. WalksTo false body volume P index)
  walked_badly bad = by result ends bad
    where
      by : (r : Result Unit RecordError) → Ends r body had.changes → is_err r ≡ true
          → BehindEach place body start (λ volume P. WalksTo false body volume P index)
      by (Ok done) spells e = absurd (cc)
      by (Err (BadRecord at)) there e = λ volume bodies extents as_many lies changes records is apply.
          never_both body changes at (records, is) there
      by (Err NoMemory) there e = absurd there
