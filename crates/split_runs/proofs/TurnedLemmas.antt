-- What is found of a medium that is awake is what a flusher's turn leaves that came before the last of its changes.
use Rattle.std.proofs.Common.{◌≡◌, ◌≤◌, ◌++◌, ℕ, zero, suc, List, [], ◌∷◌, length, take, drop, Bool, true, false, Option, None, Some, refl, sym, ◌∙◌, ap, subst, arith, length-append, append_assoc, inl, inr, ◌⊎◌}
use Rattle.std.proofs.lemmas.List.{append-nil, drop_at, length-take-le, take-append-drop, take_at}
use Rattle.volume_core.specs.declared.changes.Change.{Change}
use Rattle.volume_core.specs.declared.media.Turn.{Turn}
use Rattle.volume_core.specs.declared.media.Turn.TheVariants.{Device, Idle, Stored}
use Rattle.volume_core.specs.Medium.{LeavesRoom, MediumState, Turns, volume_of, volume_or_empty}
use Rattle.volume_core.specs.Stores.{Stores, after_append, stored_after, stores_nowhere}
use Rattle.volume_core.specs.Volume.{Part, after}
use Rattle.split_runs.specs.Found.{TurnedBefore, having_pending}
use Rattle.split_bay.specs.Looks.{IsTorn, Looked}

-- of no partition changes make none
after_none : (changes : List Change) → after [] changes ≡ []
after_none [] = refl
after_none (change ∷ changes) = after_none changes

-- what a side gives with these changes carried out, as a volume
stored_or_empty : (stored : Option (List Part)) (changes : List Change)
    → volume_or_empty (stored_after stored changes) ≡ after (volume_or_empty stored) changes
stored_or_empty None changes = sym (after_none changes)
stored_or_empty (Some volume) changes = refl

-- a medium that is as it was has taken a turn that found nothing
idle_before : (medium : MediumState) → TurnedBefore medium medium
idle_before medium =
    record {
      first = [];
      since = medium.pending;
      pending = refl;
      turn = Idle;
      left = having_pending medium [];
      turns = (inl refl, refl);
      stores = stores_nowhere (having_pending medium []);
      found = refl;
    }

-- some of what was pending was stored, these are left of what the turn found, and the rest was accepted after it
module _
    (old new : MediumState) (looked : Looked old new) (left rest : List Change)
    (parts : new.pending ≡ left ++ rest) where
  abbrev count : ℕ
  count = looked.stores.count

  abbrev stored : List Change
  stored = take count (old.pending ++ [])

  whole : old.pending ++ [] ≡ old.pending
  whole = append-nil old.pending

  many : length stored ≡ count
  many = length-take-le count (old.pending ++ []) looked.stores.fits

  abbrev first : List Change
  first = stored ++ left

  abbrev medium_left : MediumState
  medium_left = having_pending new left

  split : old.pending ≡ first ++ rest
  split =
      sym whole ∙ sym (take-append-drop count (old.pending ++ []))
      ∙ ap (λ (l : List Change). stored ++ l) (sym looked.stores.pending ∙ parts)
      ∙ sym (append_assoc stored left rest)

  taken : take count (first ++ []) ≡ stored
  taken = ap (take count) (append-nil first) ∙ take_at stored left count many

  stores_first : Stores (having_pending old first) [] medium_left
  stores_first =
      record {
        count = count;
        fits =
            omega (
              arith,
              many,
              length-append stored left,
              ap (λ (l : List Change). length l) (append-nil first),
            );
        stored = looked.stores.stored ∙ ap (stored_after old.stored) (sym taken);
        pending = sym (ap (drop count) (append-nil first) ∙ drop_at stored left count many);
        room = subst (λ (l : List Change). LeavesRoom old.room l new.room) (sym taken) looked.stores.room;
      }

  volume_first : volume_of medium_left ≡ volume_of (having_pending old first)
  volume_first =
      ap (λ (s : Option (List Part)). after (volume_or_empty s) left) looked.stores.stored
      ∙ ap (λ (v : List Part). after v left) (stored_or_empty old.stored stored)
      ∙ sym (after_append (volume_or_empty old.stored) stored left)

  found_first : new ≡ having_pending medium_left (left ++ rest)
  found_first = λ i. record new { pending = parts i }

  -- a turn that found what was stored, and these, is the one
  turned_so : (turn : Turn) → Turns (having_pending old first) turn medium_left → TurnedBefore old new
  turned_so turn turns =
      record {
        first = first;
        since = rest;
        pending = split;
        turn = turn;
        left = medium_left;
        turns = turns;
        stores = stores_first;
        found = found_first;
      }

  -- the device failed while these were stored
  broken_before : old.awake ≡ true → old.failed ≡ false → new.failed ≡ true → 1 ≤ length left
      → (new.torn ≡ []) ⊎ (new.torn ≡ left) → TurnedBefore old new
  broken_before awake before failed some torn =
      turned_so Device (
        before,
        omega (arith, some, length-append stored left),
        record {
          volume_is = volume_first;
          broken = failed;
          awake = looked.awake ∙ awake;
          some_pending = some;
          torn = torn;
        },
      )

-- all that a turn found was stored
stored_before : (old new : MediumState) (looked : Looked old new) → old.awake ≡ true → old.failed ≡ false
    → new.failed ≡ false → 1 ≤ looked.stores.count → TurnedBefore old new
stored_before old new looked awake before works some =
    turned_so old new looked [] new.pending refl (Stored (length (first old new looked [] new.pending refl))) (
      before,
      omega (
        arith,
        some,
        many old new looked [] new.pending refl,
        length-append (stored old new looked [] new.pending refl) [],
      ),
      refl,
      refl,
      record {
        volume_is = volume_first old new looked [] new.pending refl;
        works = works;
        awake = looked.awake ∙ awake;
      },
    )

-- what is found of a medium that is awake
pub turned_before : (old new : MediumState) → Looked old new → old.awake ≡ true → TurnedBefore old new
turned_before old new looked awake = by_old old.failed refl
  where
    same : new ≡ old → TurnedBefore old new
    same is = subst (TurnedBefore old) (sym is) (idle_before old)

    by_count : old.failed ≡ false → new.failed ≡ false → (n : ℕ) → looked.stores.count ≡ n → TurnedBefore old new
    by_count before works zero none =
        same (
        looked.idle works
        (looked.stores.pending ∙ ap (λ k. drop k (old.pending ++ [])) none ∙ append-nil old.pending)
        )
    by_count before works (suc n) some = stored_before old new looked awake before works (omega (arith, some))

    by_torn : old.failed ≡ false → new.failed ≡ true → IsTorn new → (torn : List Change) → new.torn ≡ torn
        → TurnedBefore old new
    by_torn before failed is [] none =
        broken_before old new looked new.pending [] (sym (append-nil new.pending)) awake before failed is.some_pending
        (inl none)
    by_torn before failed is (change ∷ changes) some =
        broken_before old new looked new.torn is.rest is.torn awake before failed
        (omega (arith, ap (λ (l : List Change). length l) some)) (inr refl)

    by_new : old.failed ≡ false → (b : Bool) → new.failed ≡ b → TurnedBefore old new
    by_new before false works = by_count before works looked.stores.count refl
    by_new before true failed = by_torn before failed (looked.torn before failed) new.torn refl

    by_old : (b : Bool) → old.failed ≡ b → TurnedBefore old new
    by_old true failed = same (looked.failed failed)
    by_old false before = by_new before new.failed refl
