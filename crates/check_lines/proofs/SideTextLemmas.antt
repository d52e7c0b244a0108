-- The lines of a side.
use Rattle.std.proofs.Common.{◌≡◌, ◌≢◌, ℕ, ◌+◌, ◌-◌, ◌≤◌, ◌<◌, ◌==◌, nat_lt, cond, Bool, true, false, List, [], ◌∷◌, ◌++◌, length, map, take, replicate, Option, Some, None, is_some, flat_map, filter, count_by, position, codes, decimal, refl, sym, ap, ◌∙◌, subst, arith, append_assoc, Result, Ok, Err, IfOk, MatchResult, string_bytes, String, Global, zero, suc, add-one}
use Rattle.std.specs.declared.alloc.AllocError.{AllocError}
use Rattle.std.specs.Prelude.{IsTrue}
use Rattle.std.specs.List.{All, position_or_len, range_with_len}
use Rattle.std.proofs.lemmas.Bool.{false≢true, ne_eqb}
use Rattle.std.proofs.lemmas.Bool.Decides.{nat_tests}
use Rattle.std.proofs.lemmas.List.{append-nil, ext_get_or, flat_map_more, length-append, take_all}
use Rattle.std.proofs.lemmas.List.Elements.{All-from_recursion, All-head, All-tail, All-weaker}
use Rattle.std.proofs.lemmas.List.FromFn.{length-map-range_with_len, get_or-map-range_with_len}
use Rattle.std.proofs.lemmas.List.Sums.{length-filter, sum_by-cons}
use Rattle.std.proofs.Math.Seq.{take-append_seam}
use Rattle.vtl_base.specs.Barcode.{IsBarcode, is_symbol}
use Rattle.vtl_base.specs.declared.limits.TheConstants.{NEXUSES}
use Rattle.volume_core.specs.Volume.{Part, count_of, objects_of, used_of, used_up_to}
use Rattle.gate_journal.specs.declared.header.SideKind.TheVariants.{Store}
use Rattle.gate_journal.specs.Side.{Heading, IsName, digits, padded}
use Rattle.pr_core.specs.declared.states.PrState.{PrState}
use Rattle.pr_core.specs.Sets.{nexuses}
use Rattle.pr_core.specs.States.{key_of, power_loss}
use Rattle.aptpl_store.specs.Contents.{latest}
use Rattle.vtl_faults.specs.declared.faults.VtlFault.{VtlFault}
use Rattle.check_lines.specs.SideText.{PrintsStates, cartridge_line, partition_line, registrations_in, store_line}

-- a text without spaces
abbrev pub HasNoSpace : List ℕ → Type 0
HasNoSpace text = All (λ byte. byte ≢ 32) text

-- no symbol of a barcode is a space
pub symbols_no_space : (barcode : List ℕ) → IsBarcode barcode → HasNoSpace barcode
symbols_no_space barcode is =
    All-weaker (λ byte. IsTrue (is_symbol byte)) (λ byte. byte ≢ 32)
    (λ byte symbol e. false≢true (sym (ap is_symbol e) ∙ symbol)) barcode is.symbols

drive_no_space : (n : ℕ) (few : Bool)
    → HasNoSpace (codes "DRIVE" ++ cond few ((48 + n) ∷ []) (49 ∷ (38 + n) ∷ []))
drive_no_space n true =
    All-from_recursion (λ byte. byte ≢ 32) (codes "DRIVE" ++ (48 + n) ∷ []) (
      λ e. omega (arith, e),
      (
        λ e. omega (arith, e),
        (
          λ e. omega (arith, e),
          (
            λ e. omega (arith, e),
            (λ e. omega (arith, e), (λ e. omega (arith, e), tt)),
          ),
        ),
      ),
    )
drive_no_space n false =
    All-from_recursion (λ byte. byte ≢ 32) (codes "DRIVE" ++ 49 ∷ (38 + n) ∷ []) (
      λ e. omega (arith, e),
      (
        λ e. omega (arith, e),
        (
          λ e. omega (arith, e),
          (
            λ e. omega (arith, e),
            (λ e. omega (arith, e), (λ e. omega (arith, e), (λ e. omega (arith, e), tt))),
          ),
        ),
      ),
    )

-- the text of a drive's name has no space
pub drive_text_no_space : (n : ℕ) → HasNoSpace (codes "DRIVE" ++ digits n)
drive_text_no_space n = drive_no_space n (nat_lt n 10)

-- the first of some spaces stands at their start
spaces_first : (n : ℕ) → position_or_len (λ byte. byte == 32) (replicate n 32) ≡ 0
spaces_first zero = refl
spaces_first (suc n) = refl

-- the first space behind a text without one stands at its end
first_space : (text : List ℕ) (n : ℕ) → HasNoSpace text
    → position_or_len (λ byte. byte == 32) (text ++ replicate n 32) ≡ length text
first_space [] n all = spaces_first n
first_space (byte ∷ text) n all =
    let e = ne_eqb byte 32 (All-head (λ byte. byte ≢ 32) byte text all) in
    let h = first_space text n (All-tail (λ byte. byte ≢ 32) byte text all) in
    rw e (omega (arith, h))

some_is : (b : Bool) (m n : ℕ) → cond b (Some m) None ≡ Some n → m ≡ n
some_is true m n h = cc
some_is false m n h = absurd (cc)

none_is : (b : Bool) (m : ℕ) → cond b (Some m) None ≡ None → b ≡ false
none_is true m h = absurd (cc)
none_is false m h = refl

no_spaces : (text : List ℕ) (n : ℕ) → length (text ++ replicate n 32) ≤ length text → text ++ replicate n 32 ≡ text
no_spaces text zero h = append-nil text
no_spaces text (suc n) h = absurd (omega (arith, h, length-append text (replicate (suc n) 32)))

module _ (name text : List ℕ) (is : HasNoSpace text) (padded_is : name ≡ padded text) where
  pub at_end : position_or_len (λ byte. byte == 32) name ≡ length text
  at_end = ap (position_or_len (λ byte. byte == 32)) padded_is ∙ first_space text (16 - length text) is

  -- the bytes before the first space of a name are its text
  pub text_before : (count : ℕ) → position (λ byte. byte == 32) name ≡ Some count → take count name ≡ text
  text_before count h =
      let at : position_or_len (λ byte. byte == 32) name ≡ count =
      some_is (nat_lt (position_or_len (λ byte. byte == 32) name) (length name))
      (position_or_len (λ byte. byte == 32) name) count h in
      ap (λ (n : ℕ). take n name) (sym at ∙ at_end) ∙ ap (take (length text)) padded_is
      ∙ take-append_seam text (replicate (16 - length text) 32)

  -- a name with no space is its text
  pub text_whole : position (λ byte. byte == 32) name ≡ None → name ≡ text
  text_whole h =
      let past : nat_lt (position_or_len (λ byte. byte == 32) name) (length name) ≡ false =
      none_is (nat_lt (position_or_len (λ byte. byte == 32) name) (length name))
      (position_or_len (λ byte. byte == 32) name) h in
      let long : length name ≤ length text = grind (arith, nat_tests, past, at_end) in
      padded_is ∙ no_spaces text (16 - length text) (rw (← padded_is) long)

-- the line of a cartridge, put together
pub cartridge_line_is : (old barcode counts : List ℕ) (partitions frames : ℕ)
    → counts ≡ codes " partitions " ++ (decimal partitions ++ (codes " frames " ++ (decimal frames ++ 10 ∷ [])))
    → ((old ++ codes "cartridge ") ++ barcode) ++ counts ≡ old ++ cartridge_line barcode partitions frames
cartridge_line_is old barcode counts partitions frames e = rw e (simp append_assoc)

-- the line of a partition, put together
pub partition_line_is : (volume : List Part) (number count used : ℕ) (line : List ℕ) → count ≡ count_of volume number
    → used ≡ used_up_to volume number count
    → line ≡ codes "partition " ++ (decimal number ++ (codes " objects " ++ (decimal count
    ++ (codes " used " ++ (decimal used ++ 10 ∷ [])))))
    → line ≡ partition_line volume number
partition_line_is volume number count used line many cost e =
    let all : used ≡ used_of (objects_of volume number) =
    cost ∙ ap (λ (n : ℕ). used_up_to volume number n) many
    ∙ ap used_of (take_all (length (objects_of volume number)) (objects_of volume number) (omega arith)) in
    rw (e, many, all) (simp append_assoc)

range_more : (from n : ℕ) → range_with_len from (suc n) ≡ range_with_len from n ++ (from + n) ∷ []
range_more from zero = let e : from ≡ from + 0 = omega arith in ap (λ (k : ℕ). k ∷ []) e
range_more from (suc n) =
    let e : from + 1 + n ≡ from + suc n = omega arith in
    ap (λ (xs : List ℕ). from ∷ xs)
    (range_more (from + 1) n ∙ ap (λ (k : ℕ). range_with_len (from + 1) n ++ k ∷ []) e)

next_number : (n : ℕ) → range_with_len 0 (n + 1) ≡ range_with_len 0 n ++ n ∷ []
next_number n = let e : 0 + n ≡ n = omega arith in
    rw add-one (range_more 0 n ∙ ap (λ (k : ℕ). range_with_len 0 n ++ k ∷ []) e)

-- the lines with that of one partition more
pub partition_more : (volume : List Part) (old text line : List ℕ) (number : ℕ)
    → text ≡ old ++ flat_map (partition_line volume) (range_with_len 0 number) → line ≡ partition_line volume number
    → text ++ line ≡ old ++ flat_map (partition_line volume) (range_with_len 0 (number + 1))
partition_more volume old text line number so is =
    ap (λ (xs : List ℕ). xs ++ line) so
    ∙ ap (λ (xs : List ℕ). (old ++ flat_map (partition_line volume) (range_with_len 0 number)) ++ xs) is
    ∙ flat_map_more (partition_line volume) old (range_with_len 0 number) number
    ∙ ap (λ (xs : List ℕ). old ++ flat_map (partition_line volume) xs) (sym (next_number number))

-- the bytes of a line that there was memory for
pub line_shown : (lines : Result (List ℕ) VtlFault) (line : Result (String Global) AllocError) (text : List ℕ)
    → IfOk line (λ known. string_bytes known ≡ text)
    → IfOk lines (λ printed. MatchResult line (λ known. printed ≡ string_bytes known) (λ error. ⊥))
    → IfOk lines (λ printed. printed ≡ text)
line_shown (Ok printed) (Ok known) text is so = so ∙ is
line_shown (Ok printed) (Err error) text is so = absurd so
line_shown (Err fault) line text is so = tt

-- the line of a store, put together
pub store_line_is : (old name counts : List ℕ) (frames registrations : ℕ)
    → counts ≡ codes " frames " ++ (decimal frames ++ (codes " registrations " ++ (decimal registrations ++ 10 ∷ [])))
    → ((old ++ codes "reservations ") ++ name) ++ counts ≡ old ++ store_line name frames registrations
store_line_is old name counts frames registrations e = rw e (simp append_assoc)

counted : (entry : ℕ → Option ℕ) (numbers : List ℕ)
    → count_by is_some (map entry numbers) ≡ count_by (λ number. is_some (entry number)) numbers
counted entry [] = refl
counted entry (number ∷ numbers) =
    sum_by-cons (λ found. cond (is_some found) 1 0) (entry number) (map entry numbers)
    ∙ ap (λ (n : ℕ). cond (is_some (entry number)) 1 0 + n) (counted entry numbers)
    ∙ sym (sum_by-cons (λ n. cond (is_some (entry n)) 1 0) number numbers)

-- the keys of a state are those of all nexuses
keys_are : (state : PrState) → length state.keys ≡ NEXUSES → map (key_of state) nexuses ≡ state.keys
keys_are state long =
    ext_get_or None (map (key_of state) (range_with_len 1 64)) state.keys
    (length-map-range_with_len (key_of state) 1 64 ∙ sym long)
    (λ place within.
    let inside : place < 64 =
    subst (λ (n : ℕ). place < n) (length-map-range_with_len (key_of state) 1 64) within in
    get_or-map-range_with_len (key_of state) 1 64 place (place + 1) None inside (omega arith)
    ∙ (rw add-one refl))

-- there are as many keys as registrations
pub keys_counted : (state : PrState) → length state.keys ≡ NEXUSES
    → length (filter is_some state.keys) ≡ registrations_in state
unfolding registrations_in
keys_counted state long =
    length-filter is_some state.keys
    ∙ ap (λ (keys : List (Option ℕ)). count_by is_some keys) (sym (keys_are state long))
    ∙ counted (key_of state) nexuses

-- the text of an open store shows its states
pub states_shown : (heading : Heading) (states : List PrState) (left : PrState) (name text : List ℕ)
    (frames registered : ℕ) → ((found : List ℕ) → HasNoSpace found → heading.name ≡ padded found → name ≡ found)
    → frames ≡ length states → registered ≡ registrations_in left → text ≡ store_line name frames registered
    → IsName Store heading.name → left ≡ power_loss (latest states) → PrintsStates heading states text
states_shown heading states left name text frames registered trimmed many are is named left_is =
    let drive = codes "DRIVE" ++ digits named.0 in
    let no_space = drive_text_no_space named.0 in record {
      name = drive;
      has_no_space = no_space;
      named = named.3;
      line =
          is ∙ (λ i. store_line (trimmed drive no_space named.3 i) (many i) ((are ∙ ap registrations_in left_is) i));
    }
