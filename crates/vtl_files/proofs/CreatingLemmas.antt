-- Files that are made one after another.
use Rattle.std.proofs.Common.{◌≡◌, ℕ, inl, inr, List, [], ◌∷◌, ◌++◌, map, Option, Result, Ok, Err, OnOk, IfErr, refl, sym, ap, ◌∙◌, append_assoc}
use Rattle.std.proofs.lemmas.List.{append-nil, map-append}
use Rattle.std.proofs.KnownBytes.{Appends-kept, Appends-nil, Appends-trans}
use Rattle.std.specs.Io.KnownBytes.{Appends}
use Rattle.tape_disk.specs.Disk.{DiskState}
use Rattle.vtl_files.specs.declared.creating.Fate.{Fate}
use Rattle.vtl_faults.specs.declared.faults.VtlFault.{VtlFault}
use Rattle.vtl_faults.specs.declared.faults.VtlFault.TheVariants.{Words, Config, Script, Frame, Device, NoMemory}
use Rattle.vtl_files.specs.Creating.{FailsAt, IsMadeOrKept, IsNotMade, IsNotOut, MakeAnswers, SideFile, PrintsAll, PrintsFiles, PrintsSome, fate_line, label_of}

module _ {D : Type 0} (state : D → DiskState) (made : MakeAnswers D) where
  all_on : (first second : List SideFile) (a b : List ℕ)
      → PrintsAll state made first a → PrintsAll state made second b
      → PrintsAll state made (first ++ second) (a ++ b)
  all_on [] second a b printed more = rw printed more
  all_on (file ∷ first) second a b printed more = (
    printed.0,
    printed.1,
    (
      printed.2.0 ++ b,
      ap (λ (xs : List ℕ). xs ++ b) printed.2.1 ∙ append_assoc (fate_line (label_of file) printed.0) printed.2.0 b,
      all_on first second printed.2.0 b printed.2.2 more,
    ),
  )

  some_on : (first second : List SideFile) (fault : VtlFault) (a b : List ℕ)
      → PrintsAll state made first a → PrintsSome state made second fault b
      → PrintsSome state made (first ++ second) fault (a ++ b)
  some_on first second fault a b printed more = record {
    before = first ++ more.before;
    file = more.file;
    behind = more.behind;
    are = ap (λ (xs : List SideFile). first ++ xs) more.are
        ∙ sym (append_assoc first more.before (more.file ∷ more.behind));
    lines = a ++ more.lines;
    printed = all_on first more.before a more.lines printed more.printed;
    part = more.part;
    fails = more.fails;
    is = ap (λ (xs : List ℕ). a ++ xs) more.is ∙ sym (append_assoc a more.lines more.part);
  }

  some_of : (first second : List SideFile) (fault : VtlFault) (a : List ℕ)
      → PrintsSome state made first fault a
      → PrintsSome state made (first ++ second) fault a
  some_of first second fault a so = record {
    before = so.before;
    file = so.file;
    behind = so.behind ++ second;
    are = ap (λ (xs : List SideFile). xs ++ second) so.are
        ∙ append_assoc so.before (so.file ∷ so.behind) second;
    lines = so.lines;
    printed = so.printed;
    part = so.part;
    fails = so.fails;
    is = so.is;
  }

  pub files_none : (known : Option (List ℕ)) → PrintsFiles state made [] known known (Ok tt)
  files_none known = ([], refl, Appends-nil known)

  pub files_on : (first second : List SideFile) (before mid now : Option (List ℕ))
      (result : Result (Unit {0}) VtlFault) → PrintsFiles state made first before mid (Ok tt)
      → PrintsFiles state made second mid now result
      → PrintsFiles state made (first ++ second) before now result
  files_on first second before mid now (Ok done) printed more = (
    printed.0 ++ more.0,
    all_on first second printed.0 more.0 printed.1 more.1,
    Appends-trans before mid now printed.0 more.0 printed.2 more.2,
  )
  files_on first second before mid now (Err fault) printed more = (
    printed.0 ++ more.0,
    some_on first second fault printed.0 more.0 printed.1 more.1,
    Appends-trans before mid now printed.0 more.0 printed.2 more.2,
  )

  pub files_of : (first second : List SideFile) (before now : Option (List ℕ)) (fault : VtlFault)
      → PrintsFiles state made first before now (Err fault)
      → PrintsFiles state made (first ++ second) before now (Err fault)
  files_of first second before now fault printed =
      (printed.0, some_of first second fault printed.0 printed.1, printed.2)

  -- a fault came at a file, with this much of its line written
  part_shown : (file : SideFile) (before now : Option (List ℕ)) (fault : VtlFault) (part : List ℕ)
      → FailsAt state made file fault part → Appends before now part
      → PrintsFiles state made (file ∷ []) before now (Err fault)
  part_shown file before now fault part fails written = (
    part,
    record {
      before = [];
      file = file;
      behind = [];
      are = refl;
      lines = [];
      printed = refl;
      part = part;
      fails = fails;
      is = refl;
    },
    written,
  )

  -- the line of a file was printed, or it is not out
  pub file_result : (file : SideFile) (fate : Fate) (before now : Option (List ℕ))
      (result : Result (Unit {0}) VtlFault) → IsMadeOrKept state made file fate
      → OnOk result (Appends before now (fate_line (label_of file) fate))
      → IfErr result (IsNotOut (fate_line (label_of file) fate) before now)
      → PrintsFiles state made (file ∷ []) before now result
  file_result file fate before now (Ok done) became written out = (
    fate_line (label_of file) fate,
    (fate, became, ([], sym (append-nil (fate_line (label_of file) fate)), refl)),
    written,
  )
  file_result file fate before now (Err NoMemory) became written out =
      part_shown file before now NoMemory [] (inr (fate, became, inl (refl, refl)))
      (Appends-kept before before now [] (Appends-nil before) out)
  file_result file fate before now (Err Device) became written out =
      part_shown file before now Device out.0 (inr (fate, became, inr (refl, out.1))) out.2
  file_result file fate before now (Err Words) became written out = absurd out
  file_result file fate before now (Err Config) became written out = absurd out
  file_result file fate before now (Err (Script number)) became written out = absurd out
  file_result file fate before now (Err (Frame number)) became written out = absurd out

  -- a file was not made
  pub none_made : (file : SideFile) (known : Option (List ℕ)) (fault : VtlFault)
      → IsNotMade state made file fault
      → PrintsFiles state made (file ∷ []) known known (Err fault)
  none_made file known fault why = part_shown file known known fault [] (inl (why, refl)) (Appends-nil known)

  -- memory ran out before the line of a file
  pub none_shown : (file : SideFile) (fate : Fate) (known : Option (List ℕ))
      → IsMadeOrKept state made file fate
      → PrintsFiles state made (file ∷ []) known known (Err NoMemory)
  none_shown file fate known became =
      part_shown file known known NoMemory [] (inr (fate, became, inl (refl, refl))) (Appends-nil known)

  -- the files of the first of some entries, one more, and all
  module _ {A : Type 0} (file : A → SideFile) (taken : List A) where
    pub files_more : (entry : A) (before mid now : Option (List ℕ)) (result : Result (Unit {0}) VtlFault)
        → PrintsFiles state made (map file taken) before mid (Ok tt)
        → PrintsFiles state made (file entry ∷ []) mid now result
        → PrintsFiles state made (map file (taken ++ entry ∷ [])) before now result
    files_more entry before mid now result printed more =
        rw (map-append file taken (entry ∷ []))
        (files_on (map file taken) (file entry ∷ []) before mid now result printed more)

    pub files_first : (entries behind : List A) (before now : Option (List ℕ)) (fault : VtlFault)
        → entries ≡ taken ++ behind
        → PrintsFiles state made (map file taken) before now (Err fault)
        → PrintsFiles state made (map file entries) before now (Err fault)
    files_first entries behind before now fault are printed =
        rw (are, map-append file taken behind) (files_of (map file taken) (map file behind) before now fault printed)
