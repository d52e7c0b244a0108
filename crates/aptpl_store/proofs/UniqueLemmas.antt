-- An image has at most one result: the states of one store, or one cause for which it has none.
use Rattle.std.proofs.Common.{◌≡◌, ◌⊎◌, inl, inr, ℕ, ◌<◌, ◌≤◌, List, [], ◌∷◌, ◌++◌, length, take, get_or, refl, sym, ◌∙◌, ap, subst, arith, append_assoc}
use Rattle.std.specs.Prelude.{if◌then◌else◌}
use Rattle.std.specs.List.{All, flat_map}
use Rattle.std.proofs.lemmas.Bool.{cases_lt}
use Rattle.std.proofs.lemmas.List.{append-nil, get_or-map, get_or-take, length-map, take_all}
use Rattle.std.proofs.lemmas.List.Elements.{All-get_or, All-head, All-tail}
use Rattle.tape_disk.specs.Disk.{DiskState}
use Rattle.gate_journal.specs.declared.header.SideKind.{SideKind}
use Rattle.gate_journal.specs.declared.header.SideKind.TheVariants.{Cartridge, Store}
use Rattle.gate_journal.specs.Side.{BeginsAs, Front, Heading, IsDamagedAt, IsDamagedOf, StandsFor, frame, plain, spell, spell_front}
use Rattle.gate_journal.specs.Inner.Fronts.{same_front}
use Rattle.gate_journal.specs.Inner.Sides.{one_place, one_side, sound}
use Rattle.pr_core.specs.declared.states.PrState.{PrState}
use Rattle.pr_core.specs.Saves.{AreSavedAlike}
use Rattle.pr_core.specs.Keepers.{last_saved}
use Rattle.pr_core.specs.States.{empty_state, power_loss}
use Rattle.aptpl_store.specs.declared.error.StoreError.{StoreError}
use Rattle.aptpl_store.specs.declared.error.StoreError.TheVariants.{NotOurs, Damaged, BadRecord, Device, NoMemory}
use Rattle.aptpl_store.specs.Answers.{IsNotOfBytes, IsStoreNotOpened}
use Rattle.aptpl_store.specs.Contents.{AreAllSavedAlike, GivesStates, IsBadState, IsBadStateAt, IsNoStore, OpensAs, state_bodies}
use Rattle.aptpl_store.specs.Spelling.{IsSavable, spell_state}
use Rattle.aptpl_store.proofs.DecodingLemmas.{one_state}

-- states with the same spelling are saved alike
same_states : (states others : List PrState) → All IsSavable states → All IsSavable others
    → state_bodies states ≡ state_bodies others → AreAllSavedAlike states others
same_states [] [] a b e = tt
same_states (s ∷ ss) [] a b e = absurd (cc)
same_states [] (o ∷ os) a b e = absurd (cc)
same_states (s ∷ ss) (o ∷ os) a b e =
    let first : spell_state s ≡ spell_state o = cc in
    let rest : state_bodies ss ≡ state_bodies os = cc in (
      one_state (spell_state s) s o (record { savable = All-head IsSavable s ss a; bytes = refl }) (record {
        savable = All-head IsSavable o os b;
        bytes = first;
      }),
      same_states ss os (All-tail IsSavable s ss a) (All-tail IsSavable o os b) rest,
    )

pub gives_one : (image : List ℕ) (h k : Heading) (states others : List PrState) → GivesStates h states image
    → GivesStates k others image → (h ≡ k) × AreAllSavedAlike states others
gives_one image h k states others one two =
    let side = one_side image (plain h) (plain k) (state_bodies states) (state_bodies others) one.2 two.2 in
    (ap (λ (f : Front). f.head.heading) side.0, same_states states others one.1 two.1 side.1)

-- states that are saved alike are the same after a loss of power
lost_alike : (one other : PrState) → AreSavedAlike one other → power_loss one ≡ power_loss other
lost_alike one other alike = λ i. if alike.aptpl i then (record {
  keys = alike.keys i;
  reservation = alike.reservation i;
  aptpl = alike.aptpl i;
  generation = 0;
}) else empty_state

-- so are the last of states that are saved alike
latest_alike : (one other : PrState) (states others : List PrState) → AreSavedAlike one other
    → AreAllSavedAlike states others → power_loss (last_saved one states) ≡ power_loss (last_saved other others)
latest_alike one other [] [] first rest = lost_alike one other first
latest_alike one other (s ∷ ss) [] first rest = absurd rest
latest_alike one other [] (o ∷ os) first rest = absurd rest
latest_alike one other (s ∷ ss) (o ∷ os) first rest = latest_alike s o ss os rest.0 rest.1

-- an image opens as one state
pub opens_one : (image : List ℕ) (h k : Heading) (one other : PrState) → OpensAs h one image → OpensAs k other image
    → (h ≡ k) × (one ≡ other)
opens_one image h k one other (states, gives, is) (others, also, too) =
    let same = gives_one image h k states others gives also in (
      same.0,
      is ∙ latest_alike empty_state empty_state states others (record {
        keys = refl;
        reservation = refl;
        aptpl = refl;
      }) same.1 ∙ sym too,
    )

-- an image begins with a front of one kind
begins_once : (image : List ℕ) (k l : SideKind) → BeginsAs k image → BeginsAs l image → k ≡ l
begins_once image k l (f, r, okf, kf, isf) (g, s, okg, kg, isg) =
    let whole : spell_front f ++ r ≡ spell_front g ++ s =
    ap (λ (x : List ℕ). x ++ r) (sym (append-nil (spell_front f))) ∙ sym isf ∙ isg
    ∙ ap (λ (x : List ℕ). x ++ s) (append-nil (spell_front g)) in
    sym kf ∙ ap (λ (x : Front). x.head.heading.kind) (same_front f g r s okf okg whole).0 ∙ kg

in_front : (f : Front) (bodies : List (List ℕ)) (rest image : List ℕ) → image ≡ spell f bodies ++ rest
    → image ≡ spell f [] ++ (flat_map frame bodies ++ rest)
in_front f bodies rest image is =
    is ∙ append_assoc (spell_front f) (flat_map frame bodies) rest
    ∙ ap (λ (x : List ℕ). x ++ (flat_map frame bodies ++ rest)) (sym (append-nil (spell_front f)))

-- a side begins with its front
pub begins_so : (image : List ℕ) (f : Front) (bodies : List (List ℕ)) → StandsFor f bodies image
    → BeginsAs f.head.heading.kind image
begins_so image f bodies s =
    (f, flat_map frame bodies ++ s.1.0 ∷ s.1.1, s.0.begins, refl, in_front f bodies (s.1.0 ∷ s.1.1) image s.1.3)

-- a damaged side too
pub damaged_begins : (image : List ℕ) (at : ℕ) (damage : IsDamagedAt image at)
    → BeginsAs damage.0.head.heading.kind image
damaged_begins image at (f, bodies, rest, ok, each, is, far, bad) =
    (f, flat_map frame bodies ++ rest, ok, refl, in_front f bodies rest image is)

-- an image that begins with a store's header is a store's
no_store_begins : (image : List ℕ) → IsNoStore image → BeginsAs Store image → ⊥
no_store_begins image (inl never) (h, rest, ok, kind, is) = never h rest ok is
no_store_begins image (inr cartridge) begins =
    let kinds : Cartridge ≡ Store = begins_once image Cartridge Store cartridge begins in cc

-- an image that gives states is the side of a store
pub gives_ours : (image : List ℕ) (h : Heading) (states : List PrState) → GivesStates h states image
    → IsNoStore image → ⊥
gives_ours image h states gives none =
    no_store_begins image none
    (subst (λ (k : SideKind). BeginsAs k image) gives.0 (begins_so image (plain h) (state_bodies states) gives.2))

-- and whole
pub gives_whole : (image : List ℕ) (h : Heading) (states : List PrState) (at : ℕ) → GivesStates h states image
    → IsDamagedOf Store image at → ⊥
gives_whole image h states at gives damage = sound image (plain h) (state_bodies states) at gives.2 damage.1

-- states with which a side begins reach no further than its first bad frame
no_further : (h : Heading) (bodies : List (List ℕ)) (good : List PrState) (at : ℕ) → IsBadState h bodies good at
    → (states : List PrState) → All IsSavable states → state_bodies states ≡ take (length states) bodies
    → length good < length states → ⊥
no_further h bodies good at bad states all spelled further =
    let there : get_or bodies (length good) [] ≡ spell_state (get_or states (length good) empty_state) =
    sym (get_or-take (length states) bodies (length good) [] further)
    ∙ ap (λ (b : List (List ℕ)). get_or b (length good) []) (sym spelled)
    ∙ get_or-map spell_state states (length good) empty_state [] further in
    bad.bad (get_or states (length good) empty_state) (record {
      savable = All-get_or IsSavable states (length good) empty_state further all;
      bytes = there;
    })

-- an image that gives states has no bad frame
pub gives_good : (image : List ℕ) (k : Heading) (states : List PrState) (at : ℕ) → GivesStates k states image
    → IsBadStateAt image at → ⊥
gives_good image k states at gives (h, bodies, good, s, bad) =
    let side = one_side image (plain k) (plain h) (state_bodies states) bodies gives.2 s in
    let long : length bodies ≡ length states =
    ap (λ (b : List (List ℕ)). length b) (sym side.1) ∙ length-map states spell_state in
    no_further h bodies good at bad states gives.1
    (side.1 ∙ sym (take_all (length states) bodies (omega (arith, long)))) (omega (arith, bad.inside, long))

-- a side has at most one first bad frame
one_bad : (h : Heading) (bodies : List (List ℕ)) (good others : List PrState) (a b : ℕ)
    → IsBadState h bodies good a → IsBadState h bodies others b → a ≡ b
one_bad h bodies good others a b one two = by (cases_lt (length good) (length others))
  where
    by : (length good < length others) ⊎ (length others ≤ length good) → a ≡ b
    by (inl less) = absurd (no_further h bodies good a one others two.before two.spelled less)
    by (inr least) = more (cases_lt (length others) (length good))
      where
        more : (length others < length good) ⊎ (length good ≤ length others) → a ≡ b
        more (inl less) = absurd (no_further h bodies others b two good one.before one.spelled less)
        more (inr most) =
            let same : length good ≡ length others = omega (arith, least, most) in
            one.gate
            ∙ ap (λ (x : List (List ℕ)). length (spell (plain h) x))
            (one.spelled ∙ ap (λ (k : ℕ). take k bodies) same ∙ sym two.spelled)
            ∙ sym two.gate

pub bad_once : (image : List ℕ) (a b : ℕ) → IsBadStateAt image a → IsBadStateAt image b → a ≡ b
bad_once image a b (h, bodies, good, s, one) (k, others, found, t, two) =
    let side = one_side image (plain k) (plain h) others bodies t s in
    one_bad h bodies good found a b one
    (subst (λ (x : Heading × List (List ℕ)). IsBadState x.0 x.1 found b)
    (λ i. (ap (λ (f : Front). f.head.heading) side.0 i, side.1 i)) two)

-- a side with a bad frame is a store's
pub bad_ours : (image : List ℕ) (at : ℕ) → IsNoStore image → IsBadStateAt image at → ⊥
bad_ours image at none (h, bodies, good, s, bad) =
    no_store_begins image none
    (subst (λ (k : SideKind). BeginsAs k image) bad.kind (begins_so image (plain h) bodies s))

-- and whole
pub bad_whole : (image : List ℕ) (a b : ℕ) → IsDamagedOf Store image a → IsBadStateAt image b → ⊥
bad_whole image a b damage (h, bodies, good, s, bad) = sound image (plain h) bodies a s damage.1

-- a damaged store is a store, and damaged at one place
pub damaged_ours : (image : List ℕ) (at : ℕ) → IsNoStore image → IsDamagedOf Store image at → ⊥
damaged_ours image at none damage = no_store_begins image none damage.0

pub damaged_once : (image : List ℕ) (a b : ℕ) → IsDamagedOf Store image a → IsDamagedOf Store image b → a ≡ b
damaged_once image a b one two = one_place image a b one.1 two.1

-- bytes that open as a state are refused only for other causes
pub refused_so : (error : StoreError) (old new : DiskState) → old.honest → IsStoreNotOpened error old new
    → (h : Heading) (state : PrState) → OpensAs h state old.seen → IsNotOfBytes error
refused_so NotOurs old new honest why h state (states, gives, is) =
    absurd (gives_ours old.seen h states gives (why.1 honest).0)
refused_so (Damaged at) old new honest why h state (states, gives, is) =
    absurd (gives_whole old.seen h states at gives (why.1 honest).0)
refused_so (BadRecord at) old new honest why h state (states, gives, is) =
    absurd (gives_good old.seen h states at gives (why.1 honest).0)
refused_so (Device fault) old new honest why h state opens = tt
refused_so NoMemory old new honest why h state opens = tt
