-- How what is stored and what is pending move: a first part of it is stored.
use Rattle.std.specs.Prelude.{◌≡◌, ◌≤◌, ◌+◌, ◌++◌, ℕ, Option, None, Some, List, [], ◌∷◌, length, take, drop, refl}
use Rattle.std.proofs.lemmas.List.Sums.{sum_by-append}
use Rattle.std.proofs.Common.{subst, ap, sym, ◌∙◌, arith, append_assoc, length-append}
use Rattle.std.proofs.lemmas.List.{append-nil, take-append-le, take-append-drop, take-take, drop-take, drop-append-le, drop-drop, length-drop}
use Rattle.volume_core.specs.declared.changes.Change.{Change}
use Rattle.volume_core.specs.Volume.{Part, changed, after}
use Rattle.volume_core.specs.Medium.{MediumState, LeavesRoom, frame_size}

-- what a side gives, with these changes carried out; a side with no volume stays one (own)
abbrev pub stored_after : Option (List Part) → List Change → Option (List Part)
stored_after None changes = None
stored_after (Some volume) changes = Some (after volume changes)

-- A first part of what was pending and of what is now accepted was stored, and the side has lost at most the room that
-- this part takes. The rest is pending (own).
pub record Stores (old : MediumState) (made : List Change) (new : MediumState) : Type 0 where
  pub count : ℕ
  pub fits : count ≤ length (old.pending ++ made)
  pub stored : new.stored ≡ stored_after old.stored (take count (old.pending ++ made))
  pub pending : new.pending ≡ drop count (old.pending ++ made)
  pub room : LeavesRoom old.room (take count (old.pending ++ made)) new.room

-- the changes of two lists in a row are those of the first, then those of the second
pub after_append : (volume : List Part) (xs ys : List Change) → after volume (xs ++ ys) ≡ after (after volume xs) ys
after_append volume [] ys = refl
after_append volume (x ∷ xs) ys = after_append (changed volume x) xs ys

stored_append : (stored : Option (List Part)) (xs ys : List Change)
    → stored_after stored (xs ++ ys) ≡ stored_after (stored_after stored xs) ys
stored_append None xs ys = refl
stored_append (Some volume) xs ys = ap Some (after_append volume xs ys)

stored_none : (stored : Option (List Part)) → stored ≡ stored_after stored []
stored_none None = refl
stored_none (Some volume) = refl

-- a run that stores nothing leaves all room
room_nowhere : (room : Option ℕ) → LeavesRoom room [] room
room_nowhere None = refl
room_nowhere (Some room) = omega arith

-- two runs, one after the other, leave what both leave
room_on : (a b c : Option ℕ) (first second : List Change)
    → LeavesRoom a first b → LeavesRoom b second c → LeavesRoom a (first ++ second) c
room_on None None c first second one two = two
room_on None (Some b) c first second one two = cc
room_on (Some a) None None first second one two = tt
room_on (Some a) None (Some c) first second one two = cc
room_on (Some a) (Some b) None first second one two = tt
room_on (Some a) (Some b) (Some c) first second one two =
    omega (arith, one, two, sum_by-append frame_size first second)

take_plus : (m n : ℕ) (l : List Change) → take (m + n) l ≡ take m l ++ take n (drop m l)
take_plus m n l =
    sym (take-append-drop m (take (m + n) l)) ∙ (λ i. take-take m (m + n) l (omega arith) i ++ drop-take m n l i)

-- a run without a call accepts nothing and stores nothing
pub stores_nowhere : (state : MediumState) → Stores state [] state
stores_nowhere state =
    record {
      count = 0;
      fits = omega arith;
      stored = stored_none state.stored;
      pending = sym (append-nil state.pending);
      room = room_nowhere state.room;
    }

-- two runs, one after the other, accept the changes of both
pub stores_on : (a b c : MediumState) (first second : List Change)
    → Stores a first b → Stores b second c → Stores a (first ++ second) c
stores_on a b c first second one two =
    let parts = a.pending ++ first in
    let whole : a.pending ++ (first ++ second) ≡ parts ++ second = sym (append_assoc a.pending first second) in
    let left : b.pending ++ second ≡ drop one.count (parts ++ second) =
    ap (λ (l : List Change). l ++ second) one.pending ∙ sym (drop-append-le one.count parts second one.fits) in
    let gone : take one.count (parts ++ second) ≡ take one.count parts =
    take-append-le one.count parts second one.fits in
    record {
      count = one.count + two.count;
      fits =
          omega (
            arith,
            ap length whole,
            ap length left,
            one.fits,
            two.fits,
            length-drop one.count (parts ++ second),
            length-append parts second,
          );
      stored =
          two.stored
          ∙ (λ i. stored_after (one.stored i) (take two.count (left i)))
          ∙ sym (stored_append a.stored (take one.count parts) (take two.count (drop one.count (parts ++ second))))
          ∙ ap (stored_after a.stored)
          (ap (λ (l : List Change). l ++ take two.count (drop one.count (parts ++ second))) (sym gone)
          ∙ sym (take_plus one.count two.count (parts ++ second)))
          ∙ ap (λ (l : List Change). stored_after a.stored (take (one.count + two.count) l)) (sym whole);
      pending =
          two.pending
          ∙ ap (λ (l : List Change). drop two.count l) left
          ∙ drop-drop two.count one.count (parts ++ second)
          ∙ ap (λ (l : List Change). drop (one.count + two.count) l) (sym whole);
      room =
          subst (λ (l : List Change). LeavesRoom a.room (take (one.count + two.count) l) c.room) (sym whole)
          (subst (λ (l : List Change). LeavesRoom a.room l c.room)
          (sym (take_plus one.count two.count (parts ++ second)))
          (subst
          (λ (l : List Change). LeavesRoom a.room (l ++ take two.count (drop one.count (parts ++ second))) c.room)
          (sym gone)
          (room_on a.room b.room c.room (take one.count parts) (take two.count (drop one.count (parts ++ second)))
          one.room
          (subst (λ (l : List Change). LeavesRoom b.room (take two.count l) c.room) left two.room))));
    }
