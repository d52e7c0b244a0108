-- Records one after another.
use Rattle.std.proofs.Common.{◌≡◌, ℕ, ◌<◌, ◌≤◌, ◌+◌, List, [], ◌∷◌, ◌++◌, length, drop, refl, sym, ◌∙◌, ap, subst, arith, append_assoc, length-append, length-drop}
use Rattle.std.specs.List.{All}
use Rattle.std.proofs.lemmas.List.{append-nil, drop-drop, drop_all}
use Rattle.std.proofs.lemmas.List.Concat.{flat_map-append}
use Rattle.std.proofs.lemmas.List.Elements.{All-nil, All-head, All-push}
use Rattle.volume_core.specs.declared.changes.Change.{Change}
use Rattle.change_records.specs.declared.records.Record.{Record}
use Rattle.change_records.specs.Records.{IsRecord, IsAtFront, IsBadAt, BeginsWithRecord, SpellsAll, change_in, size_of, spell_change, spell_all}

-- the changes so far are spelled up to this place
pub record IsDecodedTo (bytes : List ℕ) (changes : List Change) (at : ℕ) : Type 0 where
  pub within : at ≤ length bytes
  pub spelled : All IsRecord changes
  pub begins : bytes ≡ spell_all changes ++ drop at bytes
  pub at_is : at ≡ length (spell_all changes)

pub none_decoded : (bytes : List ℕ) → IsDecodedTo bytes [] 0
none_decoded bytes = record { within = omega arith; spelled = All-nil IsRecord; begins = refl; at_is = refl }

module _ (bytes : List ℕ) (changes : List Change) (at : ℕ) (so_far : IsDecodedTo bytes changes at) where
  module _ (item : Record) (change : Change) (there : IsAtFront item (drop at bytes))
      (is : change ≡ change_in item (drop at bytes)) where
    more : spell_all (changes ++ change ∷ []) ≡ spell_all changes ++ spell_change change
    more =
        flat_map-append spell_change changes (change ∷ [])
        ∙ ap (λ (l : List ℕ). spell_all changes ++ l) (append-nil (spell_change change))

    pub one_decoded : IsDecodedTo bytes (changes ++ change ∷ []) (at + size_of item)
    one_decoded = record {
      within = omega (arith, so_far.within, there.within, length-drop at bytes);
      spelled = All-push IsRecord changes change so_far.spelled (subst IsRecord (sym is) there.valid);
      begins =
          so_far.begins
          ∙ ap (λ (l : List ℕ). spell_all changes ++ l)
          (there.spelled ∙ (λ i. spell_change (is' i) ++ drop-drop (size_of item) at bytes i))
          ∙ sym (append_assoc (spell_all changes) (spell_change change) (drop (at + size_of item) bytes))
          ∙ ap (λ (l : List ℕ). l ++ drop (at + size_of item) bytes) (sym more);
      at_is =
          omega (
            arith,
            so_far.at_is,
            ap length more,
            length-append (spell_all changes) (spell_change change),
            there.sized,
            ap (λ (c : Change). length (spell_change c)) is,
          );
    }
      where
        is' : change_in item (drop at bytes) ≡ change
        is' = sym is

  -- no record follows, but some byte does
  pub bad_here : at < length bytes → (BeginsWithRecord (drop at bytes) → ⊥) → IsBadAt bytes at
  bad_here within never = record {
    changes = changes;
    rest = drop at bytes;
    spelled = so_far.spelled;
    begins = so_far.begins;
    at_is = so_far.at_is;
    some = λ none. omega (arith, within, length-drop at bytes, ap length none);
    bad = never;
  }

  -- nothing follows
  pub all_decoded : length bytes ≤ at → SpellsAll bytes changes
  all_decoded past = (
    so_far.spelled,
    so_far.begins ∙ ap (λ (l : List ℕ). spell_all changes ++ l) (drop_all at bytes past)
        ∙ append-nil (spell_all changes),
  )

-- where a record follows records, one begins the bytes
first_record : (bytes rest : List ℕ) (changes : List Change) → All IsRecord changes → bytes ≡ spell_all changes ++ rest
    → BeginsWithRecord rest → BeginsWithRecord bytes
first_record bytes rest [] ok is w = (w.0, w.1, w.2, is ∙ w.3)
first_record bytes rest (c ∷ cs) ok is w =
    (c, spell_all cs ++ rest, All-head IsRecord c cs ok, is ∙ append_assoc (spell_change c) (spell_all cs) rest)

pub has_first : (bytes : List ℕ) (changes : List Change) (at : ℕ) (item : Record) → IsDecodedTo bytes changes at
    → IsAtFront item (drop at bytes) → BeginsWithRecord bytes
has_first bytes changes at item so_far there =
    first_record bytes (drop at bytes) changes so_far.spelled so_far.begins
    (change_in item (drop at bytes), drop (size_of item) (drop at bytes), there.valid, there.spelled)
