-- What a call of a staged file does, by what it does to the log of the disk below.
use Rattle.std.proofs.Common.{◌≡◌, ◌⊎◌, inl, inr, ℕ, ◌+◌, ◌<◌, ◌≤◌, List, ◌++◌, length, length-append, take, drop, refl, sym, ap, ◌∙◌, subst, arith, Ok, Err, take-append-drop}
use Rattle.std.proofs.lemmas.Bool.{cases_lt}
use Rattle.std.proofs.lemmas.List.{length-drop, length-take, length-take-le, take_all}
use Rattle.tape_disk.specs.CallLog.{CallLog, idled, logged, log_state}
use Rattle.tape_disk.specs.Disk.{WriteAt, overwritten}
use Rattle.file_disk.specs.declared.raw.CallFailed.{CallFailed}
use Rattle.file_disk.specs.declared.raw.Stop.{Stop}
use Rattle.file_disk.specs.RawFile.{CutsFile, WritesSomeBytes}
use Rattle.file_disk.specs.Smears.{smeared_same, smeared_wider}

module _ (log mid new : CallLog) (same : mid ≡ log) where
  -- the first of the bytes were written
  pub staged_wrote : (at count : ℕ) (bytes : List ℕ) → new ≡ logged (WriteAt at (take count bytes)) mid
      → WritesSomeBytes at bytes (Ok count) (log_state log 0) (log_state new 0)
  staged_wrote at count bytes is =
      let size : length (take count bytes) ≤ length bytes = omega (arith, length-take count bytes) in
      subst (λ (l : CallLog). WritesSomeBytes at bytes (Ok count) (log_state log 0) (log_state l 0))
      (sym (is ∙ ap (λ (l : CallLog). logged (WriteAt at (take count bytes)) l) same)) (record {
        written = refl;
        none = tt;
        smeared = tt;
        crash = λ image left. (
          left.0,
          left.1,
          smeared_wider at (length bytes) at (length (take count bytes)) (omega arith) (omega (arith, size))
              left.0 image left.2,
        );
        keeps = λ image left. (image, left, smeared_same at (length (take count bytes)) image);
      })

  -- all bytes were written
  pub staged_wrote_all : (at : ℕ) (bytes : List ℕ) → new ≡ logged (WriteAt at bytes) mid
      → WritesSomeBytes at bytes (Ok (length bytes)) (log_state log 0) (log_state new 0)
  staged_wrote_all at bytes is = staged_wrote at (length bytes) bytes
      (is ∙ ap (λ (l : List ℕ). logged (WriteAt at l) mid) (sym (take_all (length bytes) bytes (omega arith))))

  -- nothing was written
  pub staged_stopped : (at : ℕ) (bytes : List ℕ) (stop : Stop) → new ≡ idled mid
      → WritesSomeBytes at bytes (Err stop) (log_state log 0) (log_state new 0)
  staged_stopped at bytes stop is =
      subst (λ (l : CallLog). WritesSomeBytes at bytes (Err stop) (log_state log 0) (log_state l 0))
      (sym (is ∙ ap idled same)) (record {
        written = tt;
        none = λ interrupted. refl;
        smeared = smeared_same at (length bytes) (log_state log 0).seen;
        crash = λ image left. (image, left, smeared_same at (length bytes) image);
        keeps = λ image left. left;
      })

  -- nothing was cut
  pub staged_not_cut : (len : ℕ) (failed : CallFailed) → new ≡ idled mid
      → CutsFile len (Err failed) (log_state log 0) (log_state new 0)
  staged_not_cut len failed is =
      subst (λ (l : CallLog). CutsFile len (Err failed) (log_state log 0) (log_state l 0))
      (sym (is ∙ ap idled same)) (record {
        done = tt;
        smeared = (drop len (log_state log 0).seen, sym (take-append-drop len (log_state log 0).seen));
        crash = λ image left. (image, left, (drop len image, sym (take-append-drop len image)));
      })

-- a place of what was written over is an old one, or lies among the new bytes
pub overwritten_within : (at : ℕ) (bytes old : List ℕ) (place : ℕ) → at ≤ length old
    → place < length (overwritten at bytes old) → (place < length old) ⊎ ((at ≤ place) × (place < at + length bytes))
overwritten_within at bytes old place inside lies = elim (cases_lt place (length old)) [
  | inl before ↦ inl before
  | inr behind ↦ inr (
    omega (arith, inside, behind),
    omega (
      arith,
      inside,
      behind,
      lies,
      length-append (take at old ++ bytes) (drop (at + length bytes) old),
      length-append (take at old) bytes,
      length-take-le at old inside,
      length-drop (at + length bytes) old,
    ),
  )
]
