-- Frames that are read from an input, and counted.
use Rattle.std.proofs.Common.{◌≡◌, ◌≢◌, ℕ, ◌+◌, ◌-◌, ◌<◌, ◌≤◌, ◌^◌, List, [], ◌∷◌, ◌++◌, length, Option, None, Some, IfSome, refl, sym, ap, ◌∙◌, subst, arith, length-append, inl, inr, Result, Err}
use Rattle.std.specs.Prelude.{flat_map}
use Rattle.std.specs.List.{All}
use Rattle.std.specs.Io.KnownBytes.{Consumes}
use Rattle.std.proofs.KnownBytes.{Consumes-nil, Consumes-trans}
use Rattle.std.proofs.lemmas.List.{append-nil}
use Rattle.std.proofs.lemmas.List.Concat.{flat_map-append}
use Rattle.std.proofs.lemmas.List.Elements.{All-nil, All-push}
use Rattle.vtl_base.specs.Steps.{ticked}
use Rattle.vtl_wire.specs.declared.faults.WireFault.{WireFault}
use Rattle.vtl_wire.specs.declared.faults.WireFault.TheVariants.{BadFrame, ReadFault, WriteFault, NoMemory}
use Rattle.vtl_wire.specs.Grammars.{BeginNone, BeginsWith, Grammar, IsFrameRefused, SpellsFrames}
use Rattle.vtl_wire.specs.Reads.{MissesAll, MissesFrame, MissesNext, ReadsFrame}
use Rattle.vtl_wire.specs.Inner.Reading.{FindsNone}

-- an error that is one is not another
pub one_error : {T E : Type 0} (r : Result T E) (a b : E) → r ≡ Err a → r ≡ Err b → a ≡ b
one_error r a b h k = cc

some_rest : (rest read others : List ℕ) → rest ≡ read ++ others → read ≢ [] → rest ≢ []
some_rest rest [] others is some none = some refl
some_rest rest (x ∷ xs) others is some none =
    let e : [] ≡ x ∷ (xs ++ others) = sym none ∙ is in absurd (cc)

-- the frames of a grammar, where they are looked at, and why there is no memory for one
module _ {T : Type 0} (grammar : Grammar T) (IsLookedAt : List ℕ → Type 0)
    (Lacks : Option (List ℕ) → Option (List ℕ) → Type 0) where
  -- why a frame is missed, where frames are counted
  pub missed_frame : (left left' : Option (List ℕ)) (before : ℕ) (fault : WireFault)
      → FindsNone grammar Lacks left left' fault → MissesFrame grammar IsLookedAt Lacks left left' before fault
  missed_frame left left' before (BadFrame number) misses = absurd misses
  missed_frame left left' before ReadFault misses = misses
  missed_frame left left' before WriteFault misses = absurd misses
  missed_frame left left' before NoMemory misses = misses

  -- The frames so far were read, and counted.
  pub record AreRead (left left' : Option (List ℕ)) (frames : List T) (count turns : ℕ) : Type 0 where
    pub taken : Consumes left left' (flat_map grammar.spell frames)
    pub spelled : All grammar.has frames
    pub count_is : count ≡ length frames
    pub turns_are : count ≡ turns

  pub read_none : (known : Option (List ℕ)) → AreRead known known [] 0 0
  read_none known = record {
    taken = Consumes-nil known;
    spelled = All-nil grammar.has;
    count_is = refl;
    turns_are = refl;
  }

  pub read_more : (left mid left' : Option (List ℕ)) (frames : List T) (count turns : ℕ) (frame : T)
      → turns < 2 ^ 64 - 1 → AreRead left mid frames count turns → ReadsFrame grammar mid left' (Some frame)
      → AreRead left left' (frames ++ frame ∷ []) (ticked count) (turns + 1)
  read_more left mid left' frames count turns frame few so read = record {
    taken =
        subst (Consumes left left')
        (sym (flat_map-append grammar.spell frames (frame ∷ [])
        ∙ ap (λ (l : List ℕ). flat_map grammar.spell frames ++ l) (append-nil (grammar.spell frame))))
        (Consumes-trans left mid left' (flat_map grammar.spell frames) (grammar.spell frame) so.taken read.1);
    spelled = All-push grammar.has frames frame so.spelled read.0;
    count_is = omega (arith, few, so.turns_are, so.count_is, length-append frames (frame ∷ []));
    turns_are = omega (arith, few, so.turns_are);
  }

  -- the input has ended behind them
  pub read_all : (left mid left' : Option (List ℕ)) (frames : List T) (count turns : ℕ)
      → AreRead left mid frames count turns → ReadsFrame grammar mid left' None
      → IfSome left (λ bytes. SpellsFrames grammar bytes frames)
  read_all None mid left' frames count turns so ended = tt
  read_all (Some bytes) None left' frames count turns so ended = absurd so.taken
  read_all (Some bytes) (Some rest) None frames count turns so ended = absurd ended.0
  read_all (Some bytes) (Some rest) (Some others) frames count turns so ended = (
    so.spelled,
    so.taken ∙ ap (λ (l : List ℕ). flat_map grammar.spell frames ++ l) (ended.0 ∙ ended.1)
        ∙ append-nil (flat_map grammar.spell frames),
  )

  bad_rest : (rest read others : List ℕ) → rest ≡ read ++ others
      → BeginNone grammar IsLookedAt read (Some others) → BeginsWith grammar rest → ⊥
  bad_rest rest read others is (inl (long, never)) w = never others (w.0, w.1, w.2, sym is ∙ w.3)
  bad_rest rest read others is (inr (ended, never)) w =
      let whole : rest ≡ read = is ∙ ap (λ (l : List ℕ). read ++ l) ended ∙ append-nil read in
      never (w.0, w.1, w.2, sym whole ∙ w.3)

  -- the next frame is refused
  pub read_refused : (left mid left' : Option (List ℕ)) (frames : List T) (count turns number : ℕ)
      → turns < 2 ^ 64 - 1 → AreRead left mid frames count turns
      → MissesFrame grammar IsLookedAt Lacks mid left' count (BadFrame number)
      → IfSome left (λ bytes. IsFrameRefused grammar bytes number)
  read_refused None mid left' frames count turns number few so misses = tt
  read_refused (Some bytes) None left' frames count turns number few so misses = absurd so.taken
  read_refused (Some bytes) (Some rest) None frames count turns number few so misses = absurd misses.1.taken
  read_refused (Some bytes) (Some rest) (Some others) frames count turns number few so misses = record {
    frames = frames;
    rest = rest;
    spelled = so.spelled;
    begins = so.taken;
    number_is = omega (arith, misses.0, few, so.turns_are, so.count_is);
    some = some_rest rest misses.1.read others misses.1.taken misses.1.some;
    bad = bad_rest rest misses.1.read others misses.1.taken misses.1.bad;
  }

  missed_more : (count : ℕ) (left left' : Option (List ℕ)) (fault : WireFault)
      → MissesFrame grammar IsLookedAt Lacks left left' count fault
      → MissesNext grammar IsLookedAt Lacks count left left' fault
  missed_more count left left' (BadFrame number) misses = misses
  missed_more count left left' ReadFault misses = misses
  missed_more count left left' WriteFault misses = absurd misses
  missed_more count left left' NoMemory misses = inl misses

  -- why the next is missed, behind the frames so far
  pub missed_all : (left mid left' : Option (List ℕ)) (frames : List T) (count turns : ℕ) (fault : WireFault)
      → AreRead left mid frames count turns → MissesFrame grammar IsLookedAt Lacks mid left' count fault
      → MissesAll grammar IsLookedAt Lacks left left' fault
  missed_all left mid left' frames count turns fault so misses = record {
    frames = frames;
    spelled = so.spelled;
    behind = mid;
    read = so.taken;
    missed =
        subst (λ (n : ℕ). MissesNext grammar IsLookedAt Lacks n mid left' fault) so.count_is
        (missed_more count mid left' fault misses);
  }

  -- there is no memory for one more in the list
  pub missed_room : (left mid left' : Option (List ℕ)) (frames : List T) (count turns : ℕ) (frame : T)
      → AreRead left mid frames count turns → ReadsFrame grammar mid left' (Some frame)
      → MissesAll grammar IsLookedAt Lacks left left' NoMemory
  missed_room left mid left' frames count turns frame so read = record {
    frames = frames;
    spelled = so.spelled;
    behind = mid;
    read = so.taken;
    missed = inr (inl (frame, read));
  }

  -- no more frames are counted
  pub missed_most : (left mid : Option (List ℕ)) (frames : List T) (count turns : ℕ) → 2 ^ 64 - 1 ≤ turns
      → AreRead left mid frames count turns → MissesAll grammar IsLookedAt Lacks left mid NoMemory
  missed_most left mid frames count turns many so = record {
    frames = frames;
    spelled = so.spelled;
    behind = mid;
    read = so.taken;
    missed = inr (inr (omega (arith, many, so.turns_are, so.count_is), refl));
  }
