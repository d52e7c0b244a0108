-- A side is read, body by body.
use Rattle.std.proofs.Common.{◌≡◌, inl, inr, ℕ, ◌<◌, ◌+◌, List, [], ◌∷◌, ◌++◌, length, take, Bool, true, false, refl, sym, ◌∙◌, ap, subst, arith, length-append}
use Rattle.std.specs.Prelude.{slice_index_or}
use Rattle.std.proofs.lemmas.List.{length-map, length-take-le}
use Rattle.std.proofs.lemmas.List.Elements.{All-push}
use Rattle.tape_disk.specs.Disk.{DiskState}
use Rattle.gate_journal.specs.declared.error.OpenError.{OpenError}
use Rattle.gate_journal.specs.declared.error.OpenError.TheVariants.{NotOurs, Damaged, BadRecord, Device, NoMemory}
use Rattle.gate_journal.specs.declared.header.SideKind.TheVariants as SideKinds
use Rattle.gate_journal.specs.Decoding.{IsNotDecoded, TakesPiece}
use Rattle.gate_journal.specs.Side.{Front, Heading, IsNotOf, StandsFor, plain, spell}
use Rattle.gate_journal.specs.Inner.Fronts.{store_is_plain}
use Rattle.pr_core.specs.declared.states.PrState.{PrState}
use Rattle.aptpl_store.specs.Answers.{IsStoreNotOpened}
use Rattle.aptpl_store.specs.Contents.{IsBadState, IsNoStore}
use Rattle.aptpl_store.specs.Inner.Causes.{store_error}
use Rattle.aptpl_store.specs.Inner.Reading.{HasRead, IsNoState, IsWithinBody}
use Rattle.aptpl_store.specs.NotedStates.{NotedStates, with_state}
use Rattle.aptpl_store.specs.Spelling.{IsSavable, SpellsState, spell_state}
use Rattle.aptpl_store.proofs.ContentsLemmas.{bodies_more, latest_more}
use Rattle.aptpl_store.proofs.SpellingLemmas.{spelling_short}

-- a body that is too long spells nothing
pub too_long : (body : List ℕ) → 580 < length body → (state : PrState) → SpellsState state body → ⊥
too_long body long state spells =
    omega (
      arith,
      long,
      ap (λ (l : List ℕ). length l) spells.bytes,
      spelling_short state spells.savable.sound.all,
    )

module _ (notes : NotedStates) (last : PrState) (heading : Heading) (extents : List (ℕ × ℕ)) (bodies : List (List ℕ))
    (so_far : HasRead notes last heading extents bodies) where
  -- a body that spells a state is read after the others, and noted
  pub read_behind : (notes' : NotedStates) (state : PrState) (place : ℕ) (body : List ℕ) → SpellsState state body
      → notes' ≡ with_state notes state
      → HasRead notes' state heading (extents ++ (place, length body) ∷ []) (bodies ++ body ∷ [])
  read_behind notes' state place body spells notes_are =
      subst
      (λ (n : NotedStates). HasRead n state heading (extents ++ (place, length body) ∷ []) (bodies ++ body ∷ []))
      (sym notes_are) (record {
        kind = so_far.kind;
        states = All-push IsSavable notes.states state so_far.states spells.savable;
        none_torn = so_far.none_torn;
        counted =
            omega (
              arith,
              so_far.counted,
              length-append extents ((place, length body) ∷ []),
              length-append notes.states (state ∷ []),
            );
        last_is = sym (latest_more notes.states state);
        spelled =
            (λ i. so_far.spelled i ++ spells.bytes i ∷ []) ∙ sym (bodies_more notes.states state);
      })

  -- the body after those that were read is the first bad one of a side
  pub bad_frame : (all : List (List ℕ)) (good at : ℕ) → bodies ≡ take good all → good < length all
      → at ≡ length (spell (plain heading) (take good all)) → IsNoState (slice_index_or all good [])
      → IsBadState heading all notes.states at
  bad_frame all good at read inside at_is never = record {
    kind = so_far.kind;
    inside = omega (arith, inside, counted);
    before = so_far.states;
    spelled = sym so_far.spelled ∙ read ∙ ap (λ (n : ℕ). take n all) (sym counted);
    gate = at_is ∙ ap (λ (b : List (List ℕ)). length (spell (plain heading) b)) (sym read ∙ so_far.spelled);
    bad = λ state spells.
        never state (subst (λ (n : ℕ). SpellsState state (slice_index_or all n [])) counted spells);
  }
    where
      counted : length notes.states ≡ good
      counted =
          omega (
            arith,
            inside,
            length-map notes.states spell_state,
            ap (λ (b : List (List ℕ)). length b) (sym so_far.spelled ∙ read),
            length-take-le good all (omega (arith, inside)),
          )

-- bytes that begin with a header of another kind begin with a cartridge's
pub no_store : (image : List ℕ) → IsNotOf SideKinds.Store image → IsNoStore image
no_store image (inl never) = inl never
no_store image (inr (SideKinds.Cartridge, other, begins)) = inr begins
no_store image (inr (SideKinds.Store, other, begins)) = absurd (other refl)

-- the next bytes of a body are taken, or there are more than a state has
module _ {T : Type 0} (notes : T → NotedStates) (last : T → PrState) (body : T → List ℕ) where
  pub piece_taken : (good : Bool) (start old new : T) (place : ℕ) (so_far piece : List ℕ)
      → (good ≡ true → body new ≡ body old ++ piece)
      → (good ≡ false → 580 < length (body old) + length piece)
      → notes new ≡ notes old → last new ≡ last old
      → IsWithinBody (notes start) (last start) (notes old) (last old) (body old) so_far
      → TakesPiece (λ (d : T). HasRead (notes d) (last d)) (λ (d : T). IsNoState)
      (λ (s d : T) (at : ℕ). IsWithinBody (notes s) (last s) (notes d) (last d) (body d)) good start new place
      (so_far ++ piece)
  piece_taken true start old new place so_far piece added long same_notes same_last within = record {
    notes_same = same_notes ∙ within.notes_same;
    last_same = same_last ∙ within.last_same;
    body_is = added refl ∙ ap (λ (l : List ℕ). l ++ piece) within.body_is;
  }
  piece_taken false start old new place so_far piece added long same_notes same_last within =
      λ heading extents bodies had more.
      too_long ((so_far ++ piece) ++ more)
      (omega (
        arith,
        long refl,
        ap (λ (l : List ℕ). length l) within.body_is,
        length-append so_far piece,
        length-append (so_far ++ piece) more,
      ))

-- the error of its side says why a store is not opened, by the notes of a decoder
module _ {T : Type 0} (notes : T → NotedStates) (last : T → PrState) where
  pub not_opened : (cause : OpenError) (old new : DiskState)
      → IsNotDecoded (λ (d : T). HasRead (notes d) (last d)) (λ (d : T). IsNoState) SideKinds.Store cause old new
      → IsStoreNotOpened (store_error cause) old new
  not_opened NotOurs old new why = (why.0, λ h. (no_store old.seen (why.1 h).0, (why.1 h).1))
  not_opened (Damaged at) old new why = why
  not_opened (BadRecord at) old new why = (
    why.0,
    λ h.
        let side = (why.1 h).0 in
        let found = side.4 in
        let bad = found.3 in
        let heading = side.0.head.heading in
        let front = store_is_plain side.0 side.3.0.begins side.2 in (
          (
            heading,
            side.1,
            (notes found.0).states,
            subst (λ (f : Front). StandsFor f side.1 old.seen) front side.3,
            bad_frame (notes found.0) (last found.0) heading found.2 _ bad.before side.1 found.1 at refl bad.inside
                (bad.gate ∙ ap (λ (f : Front). length (spell f (take found.1 side.1))) front) bad.bad,
          ),
          (why.1 h).1,
        ),
  )
  not_opened (Device fault) old new why = why
  not_opened NoMemory old new why = why
