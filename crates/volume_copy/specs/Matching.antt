-- The changes of a copy, and their entries in an index.
use Rattle.std.specs.Prelude.{◌≡◌, ◌+◌, ℕ, zero, suc, List, [], ◌∷◌, ◌++◌, refl}
use Rattle.std.proofs.Common.{ap, sym}
use Rattle.volume_core.specs.declared.objects.Object.{Object}
use Rattle.volume_core.specs.declared.objects.Object.TheVariants.{Block, Mark}
use Rattle.volume_core.specs.declared.changes.Change.{Change}
use Rattle.volume_core.specs.declared.changes.Change.TheVariants.{Put, Marks, Erase}
use Rattle.volume_core.specs.Volume.{Part}
use Rattle.object_index.specs.declared.places.Placed.{Placed}
use Rattle.object_index.specs.declared.places.Placed.TheVariants as Placeds
use Rattle.change_records.specs.declared.records.Record.TheVariants as Records
use Rattle.object_index.specs.Indexes.{AllLieAs, Indexes, LiesAt}
use Rattle.object_index.specs.Places.{PlacedPart}
use Rattle.change_records.specs.Records.{record_of}
use Rattle.volume_copy.specs.declared.entries.Entry.{Entry}
use Rattle.volume_copy.specs.Copies.{copy_objects, copy_of, copy_parts, marks_change}
use Rattle.volume_copy.specs.Entries.{entries_in, marks_entries, object_entries, part_entries}

-- for a fact about the places of blocks
module _ (P : List ℕ → ℕ → Type 0) where
  -- the entry has the record of the change, and the fact holds of its block and place (own)
  abbrev pub Matches : Change → Entry → Type 0
  Matches change entry = (record_of change ≡ entry.item) × LiesAt P change entry.place

  -- each of the changes has its entry, in order (own)
  abbrev pub AllMatch : List Change → List Entry → Type 0
  AllMatch [] [] = Unit {0}
  AllMatch [] (entry ∷ entries) = ⊥
  AllMatch (change ∷ changes) [] = ⊥
  AllMatch (change ∷ changes) (entry ∷ entries) = Matches change entry × AllMatch changes entries

  -- the same for each frame (own)
  abbrev pub AllFramesMatch : List (List Change) → List (List Entry) → Type 0
  AllFramesMatch [] [] = Unit {0}
  AllFramesMatch [] (frame ∷ frames) = ⊥
  AllFramesMatch (frame ∷ frames) [] = ⊥
  AllFramesMatch (frame ∷ frames) (other ∷ others) = AllMatch frame other × AllFramesMatch frames others

  -- two lists that match, followed by two others
  pub match_append : (changes others : List Change) (entries more : List Entry)
      → AllMatch changes entries → AllMatch others more → AllMatch (changes ++ others) (entries ++ more)
  match_append [] others [] more here also = also
  match_append [] others (entry ∷ entries) more here also = absurd here
  match_append (change ∷ changes) others [] more here also = absurd here
  match_append (change ∷ changes) others (entry ∷ entries) more here also =
      (here.0, match_append changes others entries more here.1 also)

  match_marks : (part first marks : ℕ) → AllMatch (marks_change part first marks) (marks_entries part first marks)
  match_marks part first zero = tt
  match_marks part first (suc count) = ((refl, tt), tt)

  match_objects : (part first marks : ℕ) (objects : List Object) (placed : List Placed) → AllLieAs P objects placed
      → AllMatch (copy_objects part first marks objects) (object_entries part first marks placed)
  match_objects part first marks [] [] lies = match_marks part first marks
  match_objects part first marks [] (q ∷ qs) lies = absurd lies
  match_objects part first marks (o ∷ os) [] lies = absurd lies
  match_objects part first marks (Mark ∷ os) (Placeds.Mark ∷ qs) lies =
      match_objects part first (suc marks) os qs lies.1
  match_objects part first marks (Mark ∷ os) (Placeds.Block place size ∷ qs) lies = absurd lies.0
  match_objects part first marks (Block bytes ∷ os) (Placeds.Mark ∷ qs) lies = absurd lies.0
  match_objects part first marks (Block bytes ∷ os) (Placeds.Block place size ∷ qs) lies =
      match_append (marks_change part first marks) _ (marks_entries part first marks) _
      (match_marks part first marks) (
        (ap (Records.Put part (first + marks)) (sym lies.0.0), lies.0.1),
        match_objects part (first + marks + 1) 0 os qs lies.1,
      )

  match_parts : (number : ℕ) (volume : List Part) (parts : List PlacedPart) → Indexes P volume parts
      → AllMatch (copy_parts number volume) (part_entries number parts)
  match_parts number [] [] lies = tt
  match_parts number [] (q ∷ qs) lies = absurd lies
  match_parts number (p ∷ ps) [] lies = absurd lies
  match_parts number (p ∷ ps) (q ∷ qs) lies =
      match_append (copy_objects number 0 0 p.objects) (copy_parts (suc number) ps)
      (object_entries number 0 0 q.objects) (part_entries (suc number) qs)
      (match_objects number 0 0 p.objects q.objects lies.1) (match_parts (suc number) ps qs lies.2)

  -- the entries of an index are those of the copy of its volume
  pub match_copy : (volume : List Part) (parts : List PlacedPart) → Indexes P volume parts
      → AllMatch (copy_of volume) (entries_in parts)
  match_copy volume parts lies = match_parts 0 volume parts lies

  -- a list that matches two, split between them
  pub match_split : (changes : List Change) (entries more : List Entry) → AllMatch changes (entries ++ more)
      → (first : List Change) × (others : List Change) × (changes ≡ first ++ others) × AllMatch first entries
      × AllMatch others more
  match_split changes [] more match = ([], changes, refl, tt, match)
  match_split [] (entry ∷ entries) more match = absurd match
  match_split (change ∷ changes) (entry ∷ entries) more match =
      let rest = match_split changes entries more match.1 in
      (change ∷ rest.0, rest.1, ap (λ (l : List Change). change ∷ l) rest.2, (match.0, rest.3), rest.4)

-- for a weaker fact about the places of blocks
module _ (P Q : List ℕ → ℕ → Type 0) (follows : (block : List ℕ) (place : ℕ) → P block place → Q block place) where
  -- one that matches still matches
  pub one_by : (change : Change) (entry : Entry) → Matches P change entry → Matches Q change entry
  one_by (Put part at block) entry match = (match.0, follows block entry.place match.1)
  one_by (Marks part at count) entry match = (match.0, tt)
  one_by (Erase part at) entry match = (match.0, tt)

  -- and so do all
  pub all_by : (changes : List Change) (entries : List Entry) → AllMatch P changes entries → AllMatch Q changes entries
  all_by [] [] match = tt
  all_by [] (entry ∷ entries) match = absurd match
  all_by (change ∷ changes) [] match = absurd match
  all_by (change ∷ changes) (entry ∷ entries) match =
      (one_by change entry match.0, all_by changes entries match.1)
