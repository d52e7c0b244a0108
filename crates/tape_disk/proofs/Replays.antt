-- How far a replay of a log has come, the oldest call first: the calls so far have left an image, and the later ones
-- remain.
use Rattle.std.proofs.Common.{◌≡◌, ℕ, ◌+◌, ◌-◌, ◌<◌, List, [], ◌∷◌, ◌++◌, length, take, cond, ap, ◌∙◌, arith, append_assoc}
use Rattle.std.proofs.lemmas.List.Sums.{fold_push}
use Rattle.tape_disk.specs.Disk.{overwritten}
use Rattle.tape_disk.specs.CallLog.{LoggedCall, Wrote, CutTo, Synced, landed, is_sync, syncs_of, unsynced_bytes, bytes_after, torn}

pub record Replays (base : List ℕ) (keep fill : ℕ) (all remaining older : List LoggedCall)
    (syncs left : ℕ) (image : List ℕ) : Type 0 where
  pub whole : all ≡ remaining ++ older
  pub to_come : syncs ≡ syncs_of remaining
  pub safe : 0 < syncs → (image ≡ bytes_after base older) × (left ≡ keep)
  pub since : syncs ≡ 0 → (image ≡ torn base keep fill older) × (left ≡ keep - unsynced_bytes older)

pub syncs_of-push : (xs : List LoggedCall) (x : LoggedCall) →
    syncs_of (xs ++ x ∷ []) ≡ syncs_of xs + cond (is_sync x) 1 0
syncs_of-push xs x = fold_push (λ (n : ℕ) (y : LoggedCall). n + cond (is_sync y) 1 0) 0 xs x

module _ (base : List ℕ) (keep fill : ℕ) (all remaining older : List LoggedCall)
    (syncs left : ℕ) (image : List ℕ) where
  next : (event : LoggedCall) → all ≡ (remaining ++ event ∷ []) ++ older → all ≡ remaining ++ event ∷ older
  next event whole = whole ∙ append_assoc remaining (event ∷ []) older

  pub cuts : (idle len : ℕ) →
      Replays base keep fill all (remaining ++ CutTo idle len ∷ []) older syncs left image →
      Replays base keep fill all remaining (CutTo idle len ∷ older) syncs left (take len image)
  cuts idle len run = record {
    whole = next (CutTo idle len) run.whole;
    to_come = omega (arith, run.to_come, syncs_of-push remaining (CutTo idle len));
    safe = λ some. (ap (λ (l : List ℕ). take len l) (run.safe some).0, (run.safe some).1);
    since = λ none. (ap (λ (l : List ℕ). take len l) (run.since none).0, (run.since none).1);
  }

  -- there was a later call
  pub one_more : (idle : ℕ) →
      Replays base keep fill all (remaining ++ Synced idle ∷ []) older syncs left image → 0 < syncs
  one_more idle run = omega (arith, run.to_come, syncs_of-push remaining (Synced idle))

  pub syncs_once : (idle : ℕ) →
      Replays base keep fill all (remaining ++ Synced idle ∷ []) older syncs left image →
      Replays base keep fill all remaining (Synced idle ∷ older) (syncs - 1) left image
  syncs_once idle run = let some : 0 < syncs = one_more idle run in record {
    whole = next (Synced idle) run.whole;
    to_come = omega (arith, run.to_come, syncs_of-push remaining (Synced idle));
    safe = λ _. run.safe some;
    since = λ _. ((run.safe some).0, omega (arith, (run.safe some).1));
  }

  -- the bytes that reach the image, the number that still land after them, and the image with them
  module _ (idle at : ℕ) (bytes lands : List ℕ) (left' : ℕ) (image' : List ℕ)
      (here : image' ≡ overwritten at lands image) where
    pub writes_safe :
        Replays base keep fill all (remaining ++ Wrote idle at bytes ∷ []) older syncs left image →
        0 < syncs → lands ≡ bytes → left' ≡ left →
        Replays base keep fill all remaining (Wrote idle at bytes ∷ older) syncs left' image'
    writes_safe run some whole same = record {
      whole = next (Wrote idle at bytes) run.whole;
      to_come = omega (arith, run.to_come, syncs_of-push remaining (Wrote idle at bytes));
      safe = λ _. (
        here
            ∙ ap (λ (l : List ℕ). overwritten at l image) whole
            ∙ ap (λ (l : List ℕ). overwritten at bytes l) (run.safe some).0,
        same ∙ (run.safe some).1,
      );
      since = λ none. absurd (omega (arith, some, none));
    }

    pub writes_torn :
        Replays base keep fill all (remaining ++ Wrote idle at bytes ∷ []) older syncs left image →
        syncs ≡ 0 → lands ≡ landed left fill bytes → left' ≡ left - length bytes →
        Replays base keep fill all remaining (Wrote idle at bytes ∷ older) syncs left' image'
    writes_torn run none part fewer = let before = run.since none in record {
      whole = next (Wrote idle at bytes) run.whole;
      to_come = omega (arith, run.to_come, syncs_of-push remaining (Wrote idle at bytes));
      safe = λ some. absurd (omega (arith, some, none));
      since = λ _. (
        here
            ∙ ap (λ (l : List ℕ). overwritten at l image) (part ∙ ap (λ (n : ℕ). landed n fill bytes) before.1)
            ∙ ap (λ (l : List ℕ). overwritten at (landed (keep - unsynced_bytes older) fill bytes) l) before.0,
        omega (arith, before.1, fewer),
      );
    }
