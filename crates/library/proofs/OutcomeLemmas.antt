-- What the result at the end of a library says.
use Rattle.std.proofs.Common.{◌≡◌, ◌≢◌, ◌<◌, ◌≤◌, ℕ, List, Option, Result, Ok, Err, refl, sym, ap, ◌∙◌, subst, arith}
use Rattle.std.specs.Prelude.{IfErr, IfOk, OnErr, OnOk}
use Rattle.ledgers.specs.declared.gathering.SeatsMissing.{SeatsMissing}
use Rattle.bay_moves.specs.Elements.{BayState}
use Rattle.bay_moves.specs.declared.finishing.Unwritten.{Unwritten}
use Rattle.library.specs.Ends.{Balances, IsShort, counts_of, sum_of_counts}
use Rattle.library.specs.Inner.Ending.{outcome_of}
use Rattle.library.specs.declared.finishing.FinishError.{FinishError}
use Rattle.library.specs.declared.finishing.FinishError.TheVariants as Errors

module _ (P : Type 0) where
  of_unwritten : (written : Result Unit Unwritten) (counts : List (Option ℕ)) (compared : Result ℕ SeatsMissing)
      → outcome_of written counts compared ≡ Err Errors.Unwritten → OnErr written P → P
  of_unwritten (Err unwritten) counts compared is failed = failed
  of_unwritten (Ok done) counts (Ok total) is failed = absurd (cc)
  of_unwritten (Ok done) counts (Err missing) is failed = absurd (cc)

  -- where not all is written out, that is reported
  pub reports_unwritten : (written : Result Unit Unwritten) (counts : List (Option ℕ))
      (compared : Result ℕ SeatsMissing)
      (result : Result (List (Option ℕ)) FinishError) → result ≡ outcome_of written counts compared
      → OnErr written P → result ≡ Err Errors.Unwritten → P
  reports_unwritten written counts compared result is failed reported =
      of_unwritten written counts compared (sym is ∙ reported) failed

  of_written : (written : Result Unit Unwritten) (counts : List (Option ℕ)) (compared : Result ℕ SeatsMissing)
      → outcome_of written counts compared ≢ Err Errors.Unwritten → OnOk written P → P
  of_written (Err unwritten) counts compared differs fine = absurd (differs refl)
  of_written (Ok done) counts compared differs fine = fine

  -- and else all is written out
  pub reports_written : (written : Result Unit Unwritten) (counts : List (Option ℕ)) (compared : Result ℕ SeatsMissing)
      (result : Result (List (Option ℕ)) FinishError) → result ≡ outcome_of written counts compared
      → OnOk written P → result ≢ Err Errors.Unwritten → P
  reports_written written counts compared result is fine differs =
      of_written written counts compared (λ reported. differs (is ∙ reported)) fine

module _ {D : Type 0} (bays : List (Option (BayState D))) (total sum : ℕ)
    (all : sum_of_counts (counts_of bays) ≡ total) where
  of_counts : (written : Result Unit Unwritten) (counts : List (Option ℕ)) (compared : Result ℕ SeatsMissing)
      → counts ≡ counts_of bays → IfOk compared (λ found. (found ≡ total) × (sum ≡ total))
      → IfOk (outcome_of written counts compared) (λ c. (c ≡ counts_of bays) × (sum_of_counts c ≡ sum))
  of_counts (Err unwritten) counts compared are same = tt
  of_counts (Ok done) counts (Ok found) are same =
      (are, ap sum_of_counts are ∙ all ∙ sym same.1)
  of_counts (Ok done) counts (Err missing) are same = tt

  pub reports_counts : (written : Result Unit Unwritten) (counts : List (Option ℕ)) (compared : Result ℕ SeatsMissing)
      (result : Result (List (Option ℕ)) FinishError) → result ≡ outcome_of written counts compared
      → counts ≡ counts_of bays → IfOk compared (λ found. (found ≡ total) × (sum ≡ total))
      → IfOk result (λ c. (c ≡ counts_of bays) × (sum_of_counts c ≡ sum))
  reports_counts written counts compared result is are same =
      subst (λ (r : Result (List (Option ℕ)) FinishError). IfOk r (λ c. (c ≡ counts_of bays) × (sum_of_counts c ≡ sum)))
      (sym is) (of_counts written counts compared are same)

module _ (counted held total sum : ℕ) (all : counted ≡ total) (summed : sum ≡ held) where
  of_missing : (written : Result Unit Unwritten) (counts : List (Option ℕ)) (compared : Result ℕ SeatsMissing)
      → IfErr compared (λ m. (m.total ≡ total) × (m.seats ≡ sum) × (m.seats < m.total))
      → IfErr (outcome_of written counts compared) (λ e. IsShort e counted held)
  of_missing (Err unwritten) counts compared short = tt
  of_missing (Ok done) counts (Ok found) short = tt
  of_missing (Ok done) counts (Err missing) short =
      (short.0 ∙ sym all, short.1 ∙ summed, omega (arith, short.0, short.1, short.2, all, summed))

  -- where seats are missing, both sums are reported
  reports_missing : (written : Result Unit Unwritten) (counts : List (Option ℕ)) (compared : Result ℕ SeatsMissing)
      (result : Result (List (Option ℕ)) FinishError) → result ≡ outcome_of written counts compared
      → IfErr compared (λ m. (m.total ≡ total) × (m.seats ≡ sum) × (m.seats < m.total))
      → IfErr result (λ e. IsShort e counted held)
  reports_missing written counts compared result is short =
      subst (λ (r : Result (List (Option ℕ)) FinishError). IfErr r (λ e. IsShort e counted held)) (sym is)
      (of_missing written counts compared short)

-- where the seats have all changes, none is missing
of_all : (total sum : ℕ) (written : Result Unit Unwritten) (counts : List (Option ℕ))
    (compared : Result ℕ SeatsMissing) → sum ≡ total
    → IfErr compared (λ m. (m.total ≡ total) × (m.seats ≡ sum) × (m.seats < m.total))
    → IfErr (outcome_of written counts compared) (λ e. e ≡ Errors.Unwritten)
of_all total sum (Err unwritten) counts compared same short = refl
of_all total sum (Ok done) counts (Ok found) same short = tt
of_all total sum (Ok done) counts (Err missing) same short =
    absurd (omega (arith, same, short.0, short.1, short.2))

reports_all : (total sum : ℕ) (written : Result Unit Unwritten) (counts : List (Option ℕ))
    (compared : Result ℕ SeatsMissing) (result : Result (List (Option ℕ)) FinishError)
    → result ≡ outcome_of written counts compared → sum ≡ total
    → IfErr compared (λ m. (m.total ≡ total) × (m.seats ≡ sum) × (m.seats < m.total))
    → IfErr result (λ e. e ≡ Errors.Unwritten)
reports_all total sum written counts compared result is same short =
    subst (λ (r : Result (List (Option ℕ)) FinishError). IfErr r (λ e. e ≡ Errors.Unwritten)) (sym is)
    (of_all total sum written counts compared same short)

-- the sums of the drives and of the seats, by what was gathered of both
pub balances : (seats hosts counted held total sum : ℕ) (written : Result Unit Unwritten) (counts : List (Option ℕ))
    (compared : Result ℕ SeatsMissing) (result : Result (List (Option ℕ)) FinishError)
    → result ≡ outcome_of written counts compared → counted ≡ total → sum ≡ held → sum ≤ total
    → (seats ≡ hosts → sum ≡ total)
    → IfErr compared (λ m. (m.total ≡ total) × (m.seats ≡ sum) × (m.seats < m.total))
    → Balances seats hosts counted held result
balances seats hosts counted held total sum written counts compared result is all summed within same short = record {
  within = omega (arith, all, summed, within);
  same = λ every. all ∙ sym (same every) ∙ summed;
  all = λ every. reports_all total sum written counts compared result is (same every) short;
  missing = reports_missing counted held total sum all summed written counts compared result is short;
}
