-- Files that are checked one after another.
use Rattle.std.proofs.Common.{◌≡◌, ◌⊎◌, ℕ, true, inl, inr, List, [], ◌∷◌, ◌++◌, map, length, Option, Result, Ok, Err, OnErr, OnOk, IfErr, refl, sym, ap, ◌∙◌, append_assoc, take}
use Rattle.std.proofs.lemmas.List.{append-nil, length-append, map-append}
use Rattle.std.proofs.Math.Seq.{take-append-add}
use Rattle.std.proofs.KnownBytes.{Appends-nil, Appends-trans}
use Rattle.std.specs.Io.{StartsWith}
use Rattle.std.specs.Io.KnownBytes.{Appends}
use Rattle.vtl_base.specs.declared.faults.DevFault.{DevFault}
use Rattle.tape_disk.specs.Disk.{DiskCall, DiskState}
use Rattle.file_disk.specs.declared.error.FileError.{FileError}
use Rattle.vtl_script.specs.Text.{AppendsPart}
use Rattle.vtl_files.specs.Checks.{GivesLines}
use Rattle.vtl_files.specs.ConfigChecks.{AreChecked, AreCutShort, ChecksAll, ChecksConfig, ChecksNamed, IsChecked, end_for, first_end, name_line, path_of, check_report, word_of}
use Rattle.vtl_files.specs.Creating.{SideFile, label_of}
use Rattle.vtl_faults.specs.declared.faults.Verdict.{Verdict}
use Rattle.vtl_faults.specs.declared.faults.Verdict.TheVariants.{Done, Refused}
use Rattle.vtl_faults.specs.declared.faults.VtlFault.{VtlFault}
use Rattle.vtl_faults.specs.declared.faults.VtlFault.TheVariants.{Device, NoMemory}

-- a beginning of a text, behind another one
starts_more : (front text part : List ℕ) → StartsWith text part → StartsWith (front ++ text) (front ++ part)
starts_more front text part starts =
    ap (λ (n : ℕ). take n (front ++ text)) (length-append front part) ∙ take-append-add front text (length part)
    ∙ ap (λ (xs : List ℕ). front ++ xs) starts

-- the first of three ends that is not done
first_of_three : (a b c : Result Verdict VtlFault) → first_end (first_end a b) c ≡ first_end a (first_end b c)
first_of_three (Ok Done) b c = refl
first_of_three (Ok Refused) b c = refl
first_of_three (Err fault) b c = refl

-- an end with nothing behind it
alone : (end : Result Verdict VtlFault) → end ≡ first_end end (Ok Done)
alone (Ok Done) = refl
alone (Ok Refused) = refl
alone (Err fault) = refl

-- the end of some files, and then of others
abbrev pub joined :
    Result Verdict VtlFault → Result (Result Verdict VtlFault) VtlFault → Result (Result Verdict VtlFault) VtlFault
joined end (Ok next) = Ok (first_end end next)
joined end (Err fault) = Err fault

module _ {D : Type 0} (state : D → DiskState) (effect : DiskCall → Result Unit DevFault → D → D → Type 0)
    (opens : List ℕ → Result D FileError → Type 0) (closes : List ℕ → D → Type 0) where
  all_on : (first second : List SideFile) (a b : List ℕ) (e f : Result Verdict VtlFault)
      → AreChecked state effect opens closes first a e → AreChecked state effect opens closes second b f
      → AreChecked state effect opens closes (first ++ second) (a ++ b) (first_end e f)
  all_on [] second a b e f checked more = rw (checked.0, checked.1) more
  all_on (file ∷ first) second a b e f checked more = (
    checked.0,
    checked.1,
    checked.2,
    (
      checked.3.0 ++ b,
      first_end checked.3.1 f,
      all_on first second checked.3.0 b checked.3.1 f checked.3.2 more,
      ap (λ (xs : List ℕ). xs ++ b) checked.3.3 ∙ append_assoc checked.0 checked.3.0 b,
      ap (λ (x : Result Verdict VtlFault). first_end x f) checked.3.4 ∙ first_of_three checked.1 checked.3.1 f,
    ),
  )

  some_on : (first second : List SideFile) (fault : VtlFault) (a b : List ℕ) (e : Result Verdict VtlFault)
      → AreChecked state effect opens closes first a e → AreCutShort state effect opens closes second fault b
      → AreCutShort state effect opens closes (first ++ second) fault (a ++ b)
  some_on first second fault a b e checked more = record {
    before = first ++ more.before;
    file = more.file;
    behind = more.behind;
    are = ap (λ (xs : List SideFile). first ++ xs) more.are
        ∙ sym (append_assoc first more.before (more.file ∷ more.behind));
    lines = a ++ more.lines;
    end = first_end e more.end;
    checked = all_on first more.before a more.lines e more.end checked more.checked;
    part = more.part;
    fails = more.fails;
    is = ap (λ (xs : List ℕ). a ++ xs) more.is ∙ sym (append_assoc a more.lines more.part);
  }

  some_of : (first second : List SideFile) (fault : VtlFault) (a : List ℕ)
      → AreCutShort state effect opens closes first fault a
      → AreCutShort state effect opens closes (first ++ second) fault a
  some_of first second fault a so = record {
    before = so.before;
    file = so.file;
    behind = so.behind ++ second;
    are = ap (λ (xs : List SideFile). xs ++ second) so.are ∙ append_assoc so.before (so.file ∷ so.behind) second;
    lines = so.lines;
    end = so.end;
    checked = so.checked;
    part = so.part;
    fails = so.fails;
    is = so.is;
  }

  pub checks_none : (known : Option (List ℕ)) → ChecksAll state effect opens closes [] known known (Ok (Ok Done))
  checks_none known = ([], (refl, refl), Appends-nil known)

  pub checks_on : (first second : List SideFile) (before mid now : Option (List ℕ)) (e : Result Verdict VtlFault)
      (result : Result (Result Verdict VtlFault) VtlFault) → ChecksAll state effect opens closes first before mid (Ok e)
      → ChecksAll state effect opens closes second mid now result
      → ChecksAll state effect opens closes (first ++ second) before now (joined e result)
  checks_on first second before mid now e (Ok f) checked more = (
    checked.0 ++ more.0,
    all_on first second checked.0 more.0 e f checked.1 more.1,
    Appends-trans before mid now checked.0 more.0 checked.2 more.2,
  )
  checks_on first second before mid now e (Err fault) checked more = (
    checked.0 ++ more.0,
    some_on first second fault checked.0 more.0 e checked.1 more.1,
    Appends-trans before mid now checked.0 more.0 checked.2 more.2,
  )

  pub checks_of : (first second : List SideFile) (before now : Option (List ℕ)) (fault : VtlFault)
      → ChecksAll state effect opens closes first before now (Err fault)
      → ChecksAll state effect opens closes (first ++ second) before now (Err fault)
  checks_of first second before now fault checked =
      (checked.0, some_of first second fault checked.0 checked.1, checked.2)

  -- the check of one file
  pub checks_one : (file : SideFile) (before now : Option (List ℕ)) (result : Result (Result Verdict VtlFault) VtlFault)
      → ChecksNamed state effect opens closes (word_of file) (label_of file) (path_of file) before now result
      → ChecksAll state effect opens closes (file ∷ []) before now result
  checks_one file before now (Ok end) checked = (
    checked.0,
    (checked.0, end, checked.1, ([], Ok Done, (refl, refl), sym (append-nil checked.0), alone end)),
    checked.2,
  )
  checks_one file before now (Err fault) cut = (
    cut.0,
    record {
      before = [];
      file = file;
      behind = [];
      are = refl;
      lines = [];
      end = Ok Done;
      checked = (refl, refl);
      part = cut.0;
      fails = cut.1;
      is = refl;
    },
    cut.2,
  )

  -- the files of the first of some entries, one more, and all
  module _ {A : Type 0} (file : A → SideFile) (taken : List A) where
    pub checks_more : (entry : A) (before mid now : Option (List ℕ)) (e : Result Verdict VtlFault)
        (result : Result (Result Verdict VtlFault) VtlFault)
        → ChecksAll state effect opens closes (map file taken) before mid (Ok e)
        → ChecksAll state effect opens closes (file entry ∷ []) mid now result
        → ChecksAll state effect opens closes (map file (taken ++ entry ∷ [])) before now (joined e result)
    checks_more entry before mid now e result checked more =
        rw (map-append file taken (entry ∷ []))
        (checks_on (map file taken) (file entry ∷ []) before mid now e result checked more)

    pub checks_first : (entries behind : List A) (before now : Option (List ℕ)) (fault : VtlFault)
        → entries ≡ taken ++ behind → ChecksAll state effect opens closes (map file taken) before now (Err fault)
        → ChecksAll state effect opens closes (map file entries) before now (Err fault)
    checks_first entries behind before now fault are checked =
        rw (are, map-append file taken behind) (checks_of (map file taken) (map file behind) before now fault checked)

  -- memory ran out before the name of a file
  pub no_name : (word label path : List ℕ) (known : Option (List ℕ))
      → ChecksNamed state effect opens closes word label path known known (Err NoMemory)
  no_name word label path known = ([], inl (refl, inl refl), Appends-nil known)

  -- what is written of one file
  module _ (word label path : List ℕ) (name : List ℕ) (named : name ≡ name_line label path) where
    -- its name is not out
    pub part_of_name : (fault : VtlFault) (before now : Option (List ℕ)) → fault ≡ Device
        → AppendsPart before now name → ChecksNamed state effect opens closes word label path before now (Err fault)
    part_of_name fault before now is part =
        (part.0, inr (is, inl (rw (← named) part.1)), part.2)

    -- memory ran out behind its name
    pub only_name : (before now : Option (List ℕ)) → Appends before now name
        → ChecksNamed state effect opens closes word label path before now (Err NoMemory)
    only_name before now written = (name, inl (refl, inr named), written)

    module _ (lines : Result (List ℕ) VtlFault) (gives : GivesLines state effect opens closes path true lines)
        (report : List ℕ) (reported : report ≡ check_report word label lines) where
      checked : IsChecked state effect opens closes word label path (name ++ report) (end_for word lines)
      checked = (lines, gives, rw (named, reported) refl, refl)

      -- all is written
      pub whole_report : (before mid now : Option (List ℕ)) → Appends before mid name → Appends mid now report
          → ChecksNamed state effect opens closes word label path before now (Ok (end_for word lines))
      whole_report before mid now first then_ =
          (name ++ report, checked, Appends-trans before mid now name report first then_)

      -- what stands behind its name is not out
      pub part_of_report : (fault : VtlFault) (before mid now : Option (List ℕ)) → fault ≡ Device
          → Appends before mid name → AppendsPart mid now report
          → ChecksNamed state effect opens closes word label path before now (Err fault)
      part_of_report fault before mid now is first part = (
        name ++ part.0,
        inr (is, inr (name ++ report, end_for word lines, checked, starts_more name report part.0 part.1)),
        Appends-trans before mid now name part.0 first part.2,
      )
