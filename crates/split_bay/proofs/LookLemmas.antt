-- A medium, as it is seen and as it is found.
use Rattle.std.proofs.Common.{◌≡◌, ◌≤◌, ◌++◌, List, [], ◌∷◌, length, take, drop, true, false, not, Bool, refl, sym, ◌∙◌, ap, subst, arith, length-append, append_assoc, inl, inr, ◌⊎◌}
use Rattle.std.specs.Prelude.{◌&&◌}
use Rattle.std.proofs.lemmas.Bool.{and_parts}
use Rattle.std.proofs.lemmas.List.{append-nil, append_cancel_right, take-append-le, drop-append-le, length-drop}
use Rattle.volume_core.specs.declared.changes.Change.{Change}
use Rattle.volume_core.specs.declared.media.Turn.{Turn}
use Rattle.volume_core.specs.declared.media.Turn.TheVariants.{Idle, Stored, Device}
use Rattle.volume_core.specs.Medium.{Breaks, LeavesRoom, MediumState, Turns, volume_of, volume_or_empty}
use Rattle.volume_core.specs.Stores.{Stores, after_append, stored_after, stores_nowhere, stores_on}
use Rattle.volume_core.specs.Volume.{Part, after}
use Rattle.split_bay.specs.Looks.{IsTorn, Looked}
use Rattle.split_bay.specs.Spans.{Span, medium_begun, medium_seen, span_with}
use Rattle.split_bay.specs.declared.items.Item.TheVariants.{Sent}

-- a truth value is not both
pub not_both : {A : Type 0} (b : Bool) → b ≡ false → b ≡ true → A
not_both b off on =
    let never : false ≡ true = sym off ∙ on in
    absurd (cc)

-- one that works is awake, and has not failed
pub works_parts : (medium : MediumState) → medium.awake && not medium.failed ≡ true
    → (medium.awake ≡ true) × (medium.failed ≡ false)
works_parts medium works =
    let parts = and_parts medium.awake (not medium.failed) works in
    (parts.0, by medium.failed parts.1)
  where
    by : (b : Bool) → not b ≡ true → b ≡ false
    by true never = absurd (cc)
    by false never = refl

-- what is seen is found
pub looked_same : (medium : MediumState) → Looked medium medium
looked_same medium =
    record {
      stores = stores_nowhere medium;
      volume = refl;
      awake = refl;
      unread = refl;
      failed = λ failed. refl;
      parked = λ parked. refl;
      idle = λ works same. refl;
      torn = λ works failed. not_both medium.failed works failed;
    }

-- a medium with a change more that is pending
abbrev pub with_more : MediumState → Change → MediumState
with_more medium change = record medium { pending = medium.pending ++ change ∷ [] }

more_torn : (medium : MediumState) (change : Change) → IsTorn medium → IsTorn (with_more medium change)
more_torn medium change torn =
    record {
      some_pending = omega (arith, torn.some_pending, length-append medium.pending (change ∷ []));
      rest = torn.rest ++ change ∷ [];
      torn =
          ap (λ (l : List Change). l ++ change ∷ []) torn.torn
          ∙ append_assoc medium.torn torn.rest (change ∷ []);
    }

-- of one change more none is stored
more_stores : (old new : MediumState) (change : Change) → Stores old [] new
    → Stores (with_more old change) [] (with_more new change)
more_stores old new change stores =
    let p = old.pending in
    let short : stores.count ≤ length p =
    omega (arith, stores.fits, ap (λ (l : List Change). length l) (append-nil p)) in
    let first : take stores.count ((p ++ change ∷ []) ++ []) ≡ take stores.count (p ++ []) =
    ap (take stores.count) (append-nil (p ++ change ∷ [])) ∙ take-append-le stores.count p (change ∷ []) short
    ∙ sym (ap (take stores.count) (append-nil p)) in
    record {
      count = stores.count;
      fits =
          omega (
            arith,
            short,
            length-append p (change ∷ []),
            ap (λ (l : List Change). length l) (append-nil (p ++ change ∷ [])),
          );
      stored = stores.stored ∙ sym (ap (stored_after old.stored) first);
      pending =
          ap (λ (l : List Change). l ++ change ∷ [])
          (stores.pending ∙ ap (drop stores.count) (append-nil p))
          ∙ sym (drop-append-le stores.count p (change ∷ []) short)
          ∙ sym (ap (drop stores.count) (append-nil (p ++ change ∷ [])));
      room = subst (λ (l : List Change). LeavesRoom old.room l new.room) (sym first) stores.room;
    }

-- a change more is seen, and found
pub looked_more : (old new : MediumState) (change : Change) → Looked old new
    → Looked (with_more old change) (with_more new change)
looked_more old new change looked =
    record {
      stores = more_stores old new change looked.stores;
      volume =
          after_append (volume_or_empty new.stored) new.pending (change ∷ [])
          ∙ ap (λ (v : List Part). after v (change ∷ [])) looked.volume
          ∙ sym (after_append (volume_or_empty old.stored) old.pending (change ∷ []));
      awake = looked.awake;
      unread = looked.unread;
      failed = λ failed. ap (λ (m : MediumState). with_more m change) (looked.failed failed);
      parked = λ parked. ap (λ (m : MediumState). with_more m change) (looked.parked parked);
      idle =
          λ works same.
          ap (λ (m : MediumState). with_more m change)
          (looked.idle works (append_cancel_right new.pending old.pending (change ∷ []) same));
      torn = λ works failed. more_torn new change (looked.torn works failed);
    }

-- what hosts see once a change more was sent
pub seen_with : (span : Span) (change : Change)
    → medium_seen (span_with span (Sent change)) ≡ with_more (medium_seen span) change
seen_with span change =
    λ i. record (medium_begun span) {
      pending = sym (append_assoc (medium_begun span).pending span.since (change ∷ [])) i;
      unread = not (medium_begun span).awake && (medium_begun span).unread;
    }

-- so it is found, once that is received
pub looked_next : (span : Span) (change : Change) (new new' : MediumState) → Looked (medium_seen span) new
    → new' ≡ with_more new change → Looked (medium_seen (span_with span (Sent change))) new'
looked_next span change new new' looked is =
    subst (λ (m : MediumState). Looked m new') (sym (seen_with span change))
    (subst (λ (m : MediumState). Looked (with_more (medium_seen span) change) m) (sym is)
    (looked_more (medium_seen span) new change looked))

torn_of : (new new' : MediumState) → Breaks new new' → IsTorn new'
torn_of new new' broken =
    record {
      some_pending = broken.some_pending;
      rest = (by broken.torn).0;
      torn = (by broken.torn).1;
    }
  where
    by : (new'.torn ≡ []) ⊎ (new'.torn ≡ new'.pending)
        → (rest : List Change) × (new'.pending ≡ new'.torn ++ rest)
    by (inl none) = (new'.pending, ap (λ (l : List Change). l ++ new'.pending) (sym none))
    by (inr all) = ([], sym all ∙ sym (append-nil new'.torn))

-- what a turn leaves of a medium that is found so
pub record Turned (new : MediumState) (new' : MediumState) : Type 0 where
  pub volume : volume_of new' ≡ volume_of new
  pub awake : new'.awake ≡ true
  pub same : new.failed ≡ true → new' ≡ new
  pub torn : new.failed ≡ false → new'.failed ≡ true → IsTorn new'

pub turned : (new : MediumState) (turn : Turn) (new' : MediumState) → new.awake ≡ true → Turns new turn new'
    → Turned new new'
turned new Idle new' awake turns =
    record {
      volume = ap volume_of turns.1;
      awake = ap (λ (m : MediumState). m.awake) turns.1 ∙ awake;
      same = λ failed. turns.1;
      torn =
          λ works failed. not_both new.failed works (sym (ap (λ (m : MediumState). m.failed) turns.1) ∙ failed);
    }
turned new (Stored n) new' awake turns =
    let works = turns.4 in
    record {
      volume = works.volume_is;
      awake = works.awake;
      same = λ failed. not_both new.failed turns.0 failed;
      torn = λ before failed. not_both new'.failed works.works failed;
    }
turned new Device new' awake turns =
    let broken = turns.2 in
    record {
      volume = broken.volume_is;
      awake = broken.awake;
      same = λ failed. not_both new.failed turns.0 failed;
      torn = λ before failed. torn_of new new' broken;
    }

-- a turn of a medium that is awake leaves what hosts see
pub looked_turn : (old new : MediumState) (turn : Turn) (new' : MediumState) → Looked old new
    → new.awake ≡ true → Turns new turn new' → Stores new [] new' → new.unread ≡ false → new'.unread ≡ false
    → Looked old new'
looked_turn old new turn new' looked awake turns stores read read' =
    let told = turned new turn new' awake turns in
    record {
      stores = stores_on old new new' [] [] looked.stores stores;
      volume = told.volume ∙ looked.volume;
      awake = told.awake ∙ sym awake ∙ looked.awake;
      unread = read' ∙ sym read ∙ looked.unread;
      failed =
          λ failed. told.same (ap (λ (m : MediumState). m.failed) (looked.failed failed) ∙ failed)
          ∙ looked.failed failed;
      parked = λ parked. not_both new.awake (looked.awake ∙ parked) awake;
      idle = λ works same. by_turn turn turns works same;
      torn = λ works failed. by_before works (told.same) (told.torn) failed new.failed refl;
    }
  where
    by_turn : (turn : Turn) → Turns new turn new' → new'.failed ≡ false → new'.pending ≡ old.pending → new' ≡ old
    by_turn Idle turns works same =
        let still = turns.1 in
        still
        ∙ looked.idle (sym (ap (λ (m : MediumState). m.failed) still) ∙ works)
        (sym (ap (λ (m : MediumState). m.pending) still) ∙ same)
    by_turn (Stored n) turns works same =
        let none : old.pending ≡ [] = sym same ∙ turns.3 in
        let none_left : new.pending ≡ drop looked.stores.count ([] ++ []) =
        looked.stores.pending ∙ ap (λ (l : List Change). drop looked.stores.count (l ++ [])) none in
        absurd (
        omega (
          arith,
          turns.1,
          turns.2,
          ap length none_left,
          length-drop {A = Change} looked.stores.count ([] ++ []),
        )
        )
    by_turn Device turns works same = not_both new'.failed works turns.2.broken

    by_before : old.failed ≡ false → (new.failed ≡ true → new' ≡ new)
        → (new.failed ≡ false → new'.failed ≡ true → IsTorn new') → new'.failed ≡ true
        → (b : Bool) → new.failed ≡ b → IsTorn new'
    by_before works same torn failed true was =
        subst IsTorn (sym (same was)) (looked.torn works was)
    by_before works same torn failed false was = torn was failed
