-- A frame is spelled, entry by entry.
use Rattle.std.proofs.Common.{◌≡◌, ◌≢◌, ◌≤◌, ◌+◌, ℕ, List, [], ◌∷◌, ◌++◌, length, refl, ap, sym, subst, ◌∙◌, arith, length-append}
use Rattle.std.specs.Prelude.{sum_by}
use Rattle.std.specs.List.{All}
use Rattle.std.proofs.lemmas.Grind.{flat_map-append}
use Rattle.std.proofs.lemmas.List.{append-nil, append_assoc}
use Rattle.std.proofs.lemmas.List.Elements.{All-head}
use Rattle.std.proofs.lemmas.List.Sums.{sum_by-append}
use Rattle.volume_core.specs.declared.changes.Change.{Change}
use Rattle.change_records.specs.Records.{spell_all, spell_change}
use Rattle.volume_copy.specs.declared.entries.Entry.{Entry}
use Rattle.vtl_base.specs.declared.limits.TheConstants.{COPY_BODY}
use Rattle.volume_copy.specs.Entries.{entry_size}
use Rattle.volume_copy.specs.Frames.{NoMoreFits}
use Rattle.volume_copy.specs.Inner.SoFar.{HasSpelled}
use Rattle.volume_copy.specs.Matching.{AllMatch, Matches, match_split, one_by}
use Rattle.volume_copy.specs.SizeFacts.{FitsFrame}
use Rattle.volume_copy.specs.Spelling.{SpellsEntry, SpellsFrame}

-- for a reader of blocks: whether it is honest, and where blocks lie
module _ (honest : Type 0) (lies : List ℕ → ℕ → Type 0) where
  nothing : (changes : List Change) → AllMatch lies changes [] → [] ≡ spell_all changes
  nothing [] match = refl
  nothing (change ∷ changes) match = absurd match

  -- nothing was spelled yet
  pub begun : (items : List Entry) (old : List ℕ) → HasSpelled honest lies items items old old 0
  begun items old = ([], [], refl, sym (append-nil old), refl, refl, λ is changes match. nothing changes match)

  one_change : (changes : List Change) (entry : Entry) → AllMatch lies changes (entry ∷ [])
      → (change : Change) × (changes ≡ change ∷ []) × Matches lies change entry
  one_change [] entry match = absurd match
  one_change (change ∷ []) entry match = (change, refl, match.0)
  one_change (change ∷ other ∷ changes) entry match = absurd match.1

  -- one more entry
  pub spelled_on : (items rest : List Entry) (entry : Entry) (old now new bytes : List ℕ) (count : ℕ)
      → HasSpelled honest lies items (entry ∷ rest) old now count → new ≡ now ++ bytes
      → SpellsEntry honest lies entry bytes
      → HasSpelled honest lies items rest old new (count + entry_size entry)
  spelled_on items rest entry old now new bytes count so_far new_is spells =
      let frame = so_far.0 in
      let body = so_far.1 in (
        frame ++ entry ∷ [],
        body ++ bytes,
        so_far.2 ∙ sym (append_assoc frame (entry ∷ []) rest),
        new_is ∙ ap (λ (l : List ℕ). l ++ bytes) so_far.3 ∙ append_assoc old body bytes,
        omega (arith, length-append body bytes, so_far.4, spells.sized),
        omega (arith, sum_by-append entry_size frame (entry ∷ []), so_far.5),
        λ is changes match.
            (let halves = match_split lies changes frame (entry ∷ []) match in
            let one = one_change halves.1 entry halves.4 in
            (λ i. so_far.6 is halves.0 halves.3 i ++ spells.spelled is one.0 one.2 i)
            ∙ ap (λ (l : List ℕ). spell_all halves.0 ++ l) (sym (append-nil (spell_change one.0)))
            ∙ ap (λ (l : List Change). spell_all halves.0 ++ spell_all l) (sym one.1)
            ∙ sym (flat_map-append spell_change halves.0 halves.1)
            ∙ ap spell_all (sym halves.2)),
      )

  some_entry : (frame rest items : List Entry) → items ≡ frame ++ rest → items ≢ [] → All FitsFrame rest
      → NoMoreFits entry_size (sum_by entry_size frame) rest → 1 ≤ length frame
  some_entry [] [] items whole some fit full = absurd (some whole)
  some_entry [] (entry ∷ rest) items whole some fit full =
      absurd (omega (arith, (All-head FitsFrame entry rest fit).1, full))
  some_entry (entry ∷ frame) rest items whole some fit full = omega arith

  -- no more entry fits
  pub frame_done : (items rest : List Entry) (old now : List ℕ) (count : ℕ)
      → HasSpelled honest lies items rest old now count → items ≢ [] → All FitsFrame rest → count ≤ COPY_BODY
      → NoMoreFits entry_size count rest
      → (frame : List Entry) × (body : List ℕ) × (now ≡ old ++ body)
      × SpellsFrame honest lies frame rest items body
  frame_done items rest old now count so_far some fit fits full =
      let frame = so_far.0 in
      let filled = subst (λ (n : ℕ). NoMoreFits entry_size n rest) (sym so_far.5) full in (
        frame,
        so_far.1,
        so_far.3,
        record {
          first =
              record {
                whole = so_far.2;
                some = some_entry frame rest items so_far.2 some fit filled;
                fits = omega (arith, so_far.5);
                full = filled;
              };
          sized = so_far.4 ∙ sym so_far.5;
          spelled = so_far.6;
        },
      )

-- for a weaker fact about the places of blocks
pub spells_by : (honest trusted : Type 0) (lies others : List ℕ → ℕ → Type 0) (entry : Entry) (bytes : List ℕ)
    → (honest → trusted) → ((block : List ℕ) (place : ℕ) → lies block place → others block place)
    → SpellsEntry trusted others entry bytes → SpellsEntry honest lies entry bytes
spells_by honest trusted lies others entry bytes trusts follows spells = record {
  sized = spells.sized;
  spelled = λ is change match. spells.spelled (trusts is) change (one_by lies others follows change entry match);
}
