-- Both files of a cartridge, and those of entries before.
use Rattle.std.proofs.Common.{◌≡◌, ◌≢◌, ◌⊎◌, ◌+◌, ◌-◌, ◌<◌, ℕ, zero, suc, Bool, true, false, Option, None, Some, MatchOption, Bor, List, [], ◌∷◌, ◌++◌, length, get_or, map, drop, take, inl, inr, arith, refl, sym, ap, subst, ◌∙◌, ◌||◌, codes, length-append}
use Rattle.std.proofs.lemmas.Bool.{cases_Bool, or_left, or_right, false_from_ne_true}
use Rattle.std.proofs.lemmas.Bool.Decides.{same_from_decides}
use Rattle.std.proofs.lemmas.List.{append_cancel_right}
use Rattle.std.proofs.lemmas.List.Elements.{Contains-append_left, Contains-append_right, Contains-append_cases}
use Rattle.std.proofs.lemmas.Slice.Eq.{bytes_eq-Decides}
use Rattle.std.specs.List.{Contains, list_any}
use Rattle.std.specs.Str.{bytes_eq}
use Rattle.vtl_config.specs.Entries.{cartridge_files, second_files, both_files}
use Rattle.vtl_config.specs.FileNames.{second_name, both_names, is_of_both, Meets}
use Rattle.vtl_config.specs.declared.entries.CartridgeEntry.{CartridgeEntry}
use Rattle.vtl_config.proofs.ListLemmas.{contains_first, contains_later}

-- a test of each entry that is true only where it has one of xs
pub any_meets :
    {D A : Type 0} (f : D → A) (same : A → Bool) (xs : List A) → ((a : A) → same a ≡ true → Contains xs a)
    → (ds : List D) → list_any (λ d. same (f d)) ds ≡ true → Meets xs (map f ds)
any_meets f same xs sound [] found = cc
any_meets f same xs sound (d ∷ ds) found =
    elim (cases_Bool (same (f d))) [
      | inl same_here ↦ (f d, sound (f d) same_here, contains_first (f d) (map f ds) (f d) refl)
      | inr other ↦
          let more = any_meets f same xs sound ds (rw other at found) in
          (more.0, more.1, contains_later (f d) (map f ds) more.0 more.2)
    ]

meets_any_go :
    {D A : Type 0} (f : D → A) (same : A → Bool) (x : A) → same x ≡ true → (ds : List D)
    → (k : ℕ) → k < length (map f ds) → get_or (map f ds) k x ≡ x → list_any (λ d. same (f d)) ds ≡ true
meets_any_go f same x right [] k below here = absurd (omega arith)
meets_any_go f same x right (d ∷ ds) zero below here =
    or_left _ _ (subst (λ a. same a ≡ true) (sym here) right)
meets_any_go f same x right (d ∷ ds) (suc k) below here =
    or_right _ _ (meets_any_go f same x right ds k (omega arith) here)

-- and where one is there, the test is true
pub meets_any :
    {D A : Type 0} (f : D → A) (same : A → Bool) (xs : List A) → ((a : A) → Contains xs a → same a ≡ true)
    → (ds : List D) → Meets xs (map f ds) → list_any (λ d. same (f d)) ds ≡ true
meets_any f same xs complete ds meets =
    meets_any_go f same meets.0 (complete meets.0 meets.1) ds meets.2.0 meets.2.1 meets.2.2

-- the test of both names is true just of them
pub both_sound : (file name : List ℕ) → is_of_both file name ≡ true → Contains (both_names file) name
both_sound file name found =
    elim (cases_Bool (bytes_eq name file)) [
      | inl first ↦ (0, omega arith, sym ((bytes_eq-Decides name file).0 first))
      | inr other ↦
          let second : bytes_eq name (second_name file) ≡ true = rw other at found in
          (1, omega arith, sym ((bytes_eq-Decides name (second_name file)).0 second))
    ]

both_complete_go :
    (file name : List ℕ) (k : ℕ) → k < 2 → get_or (both_names file) k name ≡ name → is_of_both file name ≡ true
both_complete_go file name zero below here = or_left _ _ ((bytes_eq-Decides name file).1 (sym here))
both_complete_go file name (suc zero) below here =
    or_right _ _ ((bytes_eq-Decides name (second_name file)).1 (sym here))
both_complete_go file name (suc (suc k)) below here = absurd (omega arith)

pub both_complete : (file name : List ℕ) → Contains (both_names file) name → is_of_both file name ≡ true
both_complete file name has = both_complete_go file name has.0 has.1 has.2

-- one of both files of some cartridges is the first of one, or the second
pub both_files_cases :
    (cartridges : List CartridgeEntry) (x : List ℕ) → Contains (both_files cartridges) x
    → Contains (cartridge_files cartridges) x ⊎ Contains (second_files cartridges) x
both_files_cases [] x has = absurd (omega (arith, has.1))
both_files_cases (c ∷ cs) x (zero, below, here) = inl (contains_first c.file (cartridge_files cs) x here)
both_files_cases (c ∷ cs) x (suc zero, below, here) = inr (contains_first c.second_file (second_files cs) x here)
both_files_cases (c ∷ cs) x (suc (suc k), below, here) =
    elim (both_files_cases cs x (k, omega arith, here)) [
      | inl first ↦ inl (contains_later c.file (cartridge_files cs) x first)
      | inr second ↦ inr (contains_later c.second_file (second_files cs) x second)
    ]

first_go :
    (cartridges : List CartridgeEntry) (x : List ℕ) (k : ℕ) → k < length (cartridge_files cartridges)
    → get_or (cartridge_files cartridges) k x ≡ x → Contains (both_files cartridges) x
first_go [] x k below here = absurd (omega arith)
first_go (c ∷ cs) x zero below here = (0, omega arith, here)
first_go (c ∷ cs) x (suc k) below here =
    contains_later c.file (c.second_file ∷ both_files cs) x
    (contains_later c.second_file (both_files cs) x (first_go cs x k (omega arith) here))

second_go :
    (cartridges : List CartridgeEntry) (x : List ℕ) (k : ℕ) → k < length (second_files cartridges)
    → get_or (second_files cartridges) k x ≡ x → Contains (both_files cartridges) x
second_go [] x k below here = absurd (omega arith)
second_go (c ∷ cs) x zero below here = (1, omega arith, here)
second_go (c ∷ cs) x (suc k) below here =
    contains_later c.file (c.second_file ∷ both_files cs) x
    (contains_later c.second_file (both_files cs) x (second_go cs x k (omega arith) here))

-- what meets one of the lists meets all of them
pub meets_drives :
    (names drives : List (List ℕ)) (before : List CartridgeEntry) → Meets names drives
    → Meets names (drives ++ both_files before)
meets_drives names drives before meets =
    (meets.0, meets.1, Contains-append_left drives (both_files before) meets.0 meets.2)

pub meets_firsts :
    (names drives : List (List ℕ)) (before : List CartridgeEntry) → Meets names (cartridge_files before)
    → Meets names (drives ++ both_files before)
meets_firsts names drives before meets =
    let has = first_go before meets.0 meets.2.0 meets.2.1 meets.2.2 in
    (meets.0, meets.1, Contains-append_right drives (both_files before) meets.0 has)

pub meets_seconds :
    (names drives : List (List ℕ)) (before : List CartridgeEntry) → Meets names (second_files before)
    → Meets names (drives ++ both_files before)
meets_seconds names drives before meets =
    let has = second_go before meets.0 meets.2.0 meets.2.1 meets.2.2 in
    (meets.0, meets.1, Contains-append_right drives (both_files before) meets.0 has)

-- and what meets all of them meets one
pub meets_cases :
    (names drives : List (List ℕ)) (before : List CartridgeEntry) → Meets names (drives ++ both_files before)
    → Meets names drives ⊎ (Meets names (cartridge_files before) ⊎ Meets names (second_files before))
meets_cases names drives before meets =
    elim (Contains-append_cases drives (both_files before) meets.0 meets.2) [
      | inl of_drive ↦ inl (meets.0, meets.1, of_drive)
      | inr of_cartridge ↦ elim (both_files_cases before meets.0 of_cartridge) [
        | inl first ↦ inr (inl (meets.0, meets.1, first))
        | inr second ↦ inr (inr (meets.0, meets.1, second))
      ]
    ]

-- a second file has another name than its first
pub second_differs : (file : List ℕ) → file ≢ second_name file
second_differs file same =
    let longer : length file ≡ length file + 2 = ap length same ∙ length-append file (codes ".2") in
    absurd (omega (arith, longer))

-- a name that ends so is a second file's just where what stands before is the first's
pub second_found :
    (name file suffix first : List ℕ) → suffix ≡ codes ".2" → name ≡ first ++ suffix → (r : Bool)
    → r ≡ bytes_eq first file → r ≡ bytes_eq name (second_name file)
second_found name file suffix first two split r tests =
    same_from_decides {P = name ≡ second_name file} r (bytes_eq name (second_name file)) (
      (λ yes.
          let same : first ≡ file = (bytes_eq-Decides first file).0 (sym tests ∙ yes) in
          split ∙ (ap (λ (t : List ℕ). first ++ t) two ∙ ap (λ (t : List ℕ). t ++ codes ".2") same)),
      (λ whole.
          let both : first ++ codes ".2" ≡ file ++ codes ".2" =
          ap (λ (t : List ℕ). first ++ t) (sym two) ∙ (sym split ∙ whole) in
          tests ∙ (bytes_eq-Decides first file).1 (append_cancel_right first file (codes ".2") both)),
    )
    (bytes_eq-Decides name (second_name file))

-- and one that does not end so is none
pub second_missed :
    (name file suffix : List ℕ) → suffix ≡ codes ".2" → ((front : List ℕ) → name ≢ front ++ suffix)
    → false ≡ bytes_eq name (second_name file)
second_missed name file suffix two none =
    sym (false_from_ne_true (bytes_eq name (second_name file))
    (λ yes.
    none file
    ((bytes_eq-Decides name (second_name file)).0 yes ∙ ap (λ (t : List ℕ). file ++ t) (sym two))))
