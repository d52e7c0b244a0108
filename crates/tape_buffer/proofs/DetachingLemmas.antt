-- The disks of a medium go away: what is known of it then.
use Rattle.std.proofs.Common.{◌≡◌, ◌≤◌, ◌+◌, ℕ, List, [], ◌∷◌, length, sum_by, map, true, false, Bool, Option, None, Some, refl, sym, ◌∙◌, ap, subst, arith, ◌⊎◌, inl, inr, ⊎_elim}
use Rattle.tape_disk.specs.Disk.{DiskState}
use Rattle.volume_core.specs.declared.changes.Change.{Change}
use Rattle.volume_core.specs.Medium.{MediumState, volume_of}
use Rattle.object_index.specs.Places.{PlacedPart, blank, filled, outline}
use Rattle.object_index.specs.Shapes.{IsIndexOf}
use Rattle.cartridge.specs.Inner.Growing.{IsGrown}
use Rattle.cartridge.specs.Shown.{HasEntriesIn, IsGrownIn}
use Rattle.tape_buffer.specs.declared.aways.Away.{Away}
use Rattle.tape_buffer.specs.declared.budgets.Budget.{Budget}
use Rattle.tape_buffer.specs.Aways.{IsCut, IsRoomFor, IsRoomyIn, KnowsAway}
use Rattle.tape_buffer.specs.Catalogs.{IsCataloged}
use Rattle.tape_buffer.specs.Detaching.{away_buffer}
use Rattle.tape_buffer.specs.Lending.{LendFacts, cut_less, lend_facts}
use Rattle.tape_buffer.specs.Limits.{FitsBuffer}
use Rattle.tape_buffer.specs.State.{BufferState, state_of}
use Rattle.tape_buffer.specs.Taking.{LendsFrom}

grown_outline : (old new : List PlacedPart) → IsGrown old new → outline new ≡ outline old
grown_outline [] [] grown = refl
grown_outline (p ∷ ps) (q ∷ qs) grown =
    λ i. record {
      capacity = grown.0.0 i;
      objects = map (filled blank) (grown.0.1 i);
    } ∷ grown_outline ps qs grown.1 i
grown_outline [] (q ∷ qs) grown = absurd grown
grown_outline (p ∷ ps) [] grown = absurd grown

-- what is known of a medium whose disks go away
module _ {D : Type 0} (state : D → DiskState) (old new : BufferState D) (left cut : Budget) (away : Away)
    (lends : LendsFrom old (record { buffer = new; left = left })) (is_cut : IsCut left cut) (left_is : away.left ≡ cut)
    (noted : away.noted ≡ state_of state old) where
  -- the catalog in which more is reserved is one of the same volume
  pub shows_away : (catalog catalog' : Option (List PlacedPart)) → IsCataloged state old catalog
      → IsGrownIn catalog catalog' → IsCataloged state (away_buffer away) catalog'
  shows_away None None shows grown = ap (λ (m : MediumState). m.awake) noted ∙ shows
  shows_away (Some parts) (Some parts') shows grown = (
    ap (λ (m : MediumState). m.awake) noted ∙ shows.0,
    subst (λ (m : MediumState). IsIndexOf parts' (volume_of m)) (sym noted)
        (grown_outline parts parts' grown ∙ shows.1),
  )
  shows_away None (Some parts) shows grown = absurd grown
  shows_away (Some parts) None shows grown = absurd grown

  of_noted : LendFacts away.noted left
  of_noted =
      subst (λ (m : MediumState). LendFacts m left) (sym noted)
      (lend_facts state old (record { buffer = new; left = left }) lends)

  -- where something may be accepted, it is awake
  awake_where : 1 ≤ left.records → away.noted.awake ≡ true
  awake_where some = by away.noted.awake refl
    where
      by : (b : Bool) → away.noted.awake ≡ b → b ≡ true
      by true is = refl
      by false is = absurd (omega (arith, of_noted.rests is, some))

  roomy_away : (catalog : Option (List PlacedPart)) → IsCataloged state (away_buffer away) catalog
      → HasEntriesIn catalog cut.records → IsRoomyIn catalog cut.records
  roomy_away None shows entries = omega (arith, of_noted.rests shows, (cut_less left cut is_cut).0)
  roomy_away (Some parts) shows entries = entries

  room_away : (seen : Option ℕ) (pending : List Change) → IsRoomFor seen left.room pending
      → IsRoomFor seen cut.room pending
  room_away None pending is = is
  room_away (Some seen) pending is = omega (arith, is, (cut_less left cut is_cut).2)

  pub knows_away : (catalog : Option (List PlacedPart)) → IsCataloged state (away_buffer away) catalog
      → HasEntriesIn catalog cut.records → away.failed ≡ (state_of state old).failed
      → away.waiting ≡ length (state_of state old).pending → FitsBuffer away.noted.pending
      → KnowsAway catalog away
  knows_away catalog shows entries failed waiting fits =
      let less : away.left.records ≤ left.records =
      omega (arith, ap (λ (b : Budget). b.records) left_is, (cut_less left cut is_cut).0) in
      record {
        roomy = subst (λ (b : Budget). IsRoomyIn catalog b.records) (sym left_is) (roomy_away catalog shows entries);
        failed_is = failed ∙ sym (ap (λ (m : MediumState). m.failed) noted);
        none = λ broken. omega (arith, of_noted.failed broken, less);
        waiting_is = waiting ∙ sym (ap (λ (m : MediumState). length m.pending) noted);
        few =
            ⊎_elim (λ all. omega (arith, all, less)) (λ none. omega (arith, none, less, fits.few)) of_noted.exact;
        short = λ some.
            omega (
              arith,
              of_noted.bytes (awake_where (omega (arith, some, less))),
              ap (λ (b : Budget). b.bytes) left_is,
              (cut_less left cut is_cut).1,
            );
        room =
            λ awake. subst (λ (b : Budget). IsRoomFor away.noted.room b.room away.noted.pending) (sym left_is)
            (room_away away.noted.room away.noted.pending (of_noted.room awake));
      }
