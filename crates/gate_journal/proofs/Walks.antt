-- A side is read frame by frame, and nothing is written.
use Rattle.std.proofs.Common.{◌≡◌, ◌≢◌, ◌⊎◌, inl, inr, ⊎_elim, ℕ, ◌+◌, ◌-◌, ◌<◌, ◌≤◌, List, [], ◌∷◌, ◌++◌, length, get_or, take, drop, refl, sym, ◌∙◌, ap, subst, arith, append_assoc, length-append, take-append-drop, false}
use Rattle.std.specs.Prelude.{slice_range}
use Rattle.std.specs.List.{flat_map}
use Rattle.std.proofs.lemmas.List.{append-nil, drop_at, drop_all, drop-take, take-take}
use Rattle.std.proofs.lemmas.List.Elements.{All-nil, All-push}
use Rattle.vtl_base.specs.declared.faults.DevFault.{DevFault}
use Rattle.tape_disk.specs.Disk.{DiskState, IsDisk, Only, Same, Elapses}
use Rattle.tape_disk.specs.Moments.{no_call, one_more_call, in_sequence, weakened}
use Rattle.gate_journal.specs.declared.error.JournalError.{JournalError}
use Rattle.gate_journal.specs.declared.error.JournalError.TheVariants.{NotOurs, Damaged, SideFull, Device, Failed, NoMemory}
use Rattle.gate_journal.specs.Answers.{IsFault, NoneFailed, NotOpenedBy}
use Rattle.gate_journal.specs.Crash.{Unwritten}
use Rattle.gate_journal.specs.Inner.Found.{BreaksOff, NotRead, Walked}
use Rattle.gate_journal.specs.Side.{OPEN, AreTooFew, Front, IsFront, IsBody, IsSide, IsBroken, BeginsWithFrame, IsNotOurs, IsDamagedAt, StandsFor, base_of, frame, spell_front, spell}
use Rattle.gate_journal.specs.State.{StoresSide, bodies_at, extents_from}
use Rattle.gate_journal.specs.Inner.Fronts.{long_enough, short_front, sized_by}
use Rattle.gate_journal.specs.Inner.Frames.{length-frame}
use Rattle.gate_journal.specs.Inner.Reading.{size_behind}
use Rattle.gate_journal.proofs.Bodies.{frames_push, extents_push, as_view}
use Rattle.gate_journal.proofs.Extents.{extents_count}

module _ (d0 d1 d2 : DiskState) where
  pub unwritten_then : Unwritten d0 d1 → Unwritten d1 d2 → Unwritten d0 d2
  unwritten_then first second = record {
    seen = second.seen ∙ first.seen;
    images = λ image left. first.images image (second.images image left);
    moments =
        in_sequence d0 d1 d2 d0.may_leave first.moments
        (weakened d1 d2 d1.may_leave d0.may_leave second.moments first.images);
  }

  -- a fault of a later call is a fault since the start
  pub fault_since : (fault : DevFault) → NoneFailed d0 d1 → IsFault fault d1 d2 → IsFault fault d0 d2
  fault_since fault none is = record { cause = omega (arith, none, is.cause); reported = is.reported }

  module _ (none : NoneFailed d0 d1) where
    pub not_read_since : (e : JournalError) (P Q : ℕ → Type 0) (M N : Type 0) → ((at : ℕ) → P at → Q at) → (M → N) →
        NotRead e ⊥ P M d1 d2 → NotRead e ⊥ Q N d0 d2
    not_read_since NotOurs P Q M N means memory is = (is.0 ∙ none, is.1)
    not_read_since (Damaged at) P Q M N means memory is = (is.0 ∙ none, means at is.1)
    not_read_since (Device fault) P Q M N means memory is = fault_since fault none is
    not_read_since NoMemory P Q M N means memory is = (is.0 ∙ none, memory is.1)
    not_read_since SideFull P Q M N means memory is = is
    not_read_since Failed P Q M N means memory is = is

    pub not_opened_since : (N U : List ℕ → Type 0) (B : List ℕ → ℕ → Type 0) (e : JournalError) (O : Type 0)
        (P : ℕ → Type 0) (M : Type 0) →
        (O → d0.honest → N d0.seen × Only d0.seen d2.may_leave) →
        ((at : ℕ) → P at → d0.honest → B d0.seen at × Only d0.seen d2.may_leave) →
        (M → d0.honest → U d0.seen × Only d0.seen d2.may_leave) →
        NotRead e O P M d1 d2 → NotOpenedBy N U B e d0 d2
    not_opened_since N U B NotOurs O P M ours means memory is = (is.0 ∙ none, ours is.1)
    not_opened_since N U B (Damaged at) O P M ours means memory is = (is.0 ∙ none, means at is.1)
    not_opened_since N U B (Device fault) O P M ours means memory is = fault_since fault none is
    not_opened_since N U B NoMemory O P M ours means memory is = (is.0 ∙ none, memory is.1)
    not_opened_since N U B SideFull O P M ours means memory is = is
    not_opened_since N U B Failed O P M ours means memory is = is

-- a call that writes nothing
pub one_call : (d0 d1 : DiskState) → IsDisk d0 → Same d0 d1 → Elapses d0 d1 → Unwritten d0 d1
one_call d0 d1 disk same time = record {
  seen = same.seen;
  images = same.crash;
  moments = one_more_call d0 d0 d1 d0.may_leave (no_call d0 d0.may_leave disk (λ image left. left)) time same.crash;
}

module _ (seen : List ℕ) (start : ℕ) where
  -- nothing was read yet, and no byte is there
  pub nothing_there : (base : ℕ) → length seen ≤ start → BreaksOff seen start base start
  nothing_there base short = (
    [],
    [],
    record { holds = All-nil IsBody; split = refl; extents_are = refl; at_is = omega arith },
    inl (inl (refl, drop_all start seen short)),
  )

  pub started : (extents : List (ℕ × ℕ)) → extents ≡ [] →
      (bodies : List (List ℕ)) × Walked seen start bodies extents start
  started extents none = ([], record { holds = All-nil IsBody; split = refl; extents_are = none; at_is = omega arith })

  module _ (bodies : List (List ℕ)) (extents : List (ℕ × ℕ)) (at : ℕ)
      (walked : Walked seen start bodies extents at) where
    pub walked_more : (size : ℕ) (body rest : List ℕ) (extents' : List (ℕ × ℕ)) (at' : ℕ) → length body ≡ size →
        1 ≤ size → size ≤ 8388608 → drop at seen ≡ frame body ++ rest → rest ≡ drop (at + 5 + size) seen
        → extents' ≡ extents ++ (at + 5, size) ∷ [] → at' ≡ at + 5 + size →
        Walked seen start (bodies ++ body ∷ []) extents' at'
    walked_more size body rest extents' at' sized some short there behind is far = record {
      holds = All-push IsBody bodies body walked.holds (omega (arith, sized, some), omega (arith, sized, short));
      split =
          walked.split ∙ ap (λ (l : List ℕ). flat_map frame bodies ++ l)
          (there ∙ ap (λ (l : List ℕ). frame body ++ l) behind)
          ∙ sym (append_assoc (flat_map frame bodies) (frame body) (drop (at + 5 + size) seen))
          ∙ (λ i. sym (frames_push bodies body) i ++ drop (sym far i) seen);
      extents_are = is ∙ (let here : at + 5 ≡ start + length (flat_map frame bodies) + 5 =
          omega (arith, walked.at_is) in λ i. walked.extents_are i ++ (here i, sym sized i) ∷ [])
          ∙ sym (extents_push start bodies body);
      at_is = omega (
        arith,
        far,
        walked.at_is,
        sized,
        ap length (frames_push bodies body),
        length-append (flat_map frame bodies) (frame body),
        length-frame body,
      );
    }

    -- there are as many bodies as extents
    pub as_many : length extents ≡ length bodies
    as_many = ap length walked.extents_are ∙ extents_count start bodies

    -- a gate is closed before as many frames as the base
    pub too_few : (base : ℕ) → length extents < base →
        (gate : ℕ) × (rest : List ℕ) × (gate ≢ OPEN) × (drop at seen ≡ gate ∷ rest) → BreaksOff seen start base at
    too_few base few closed = (bodies, extents, walked, inr (omega (arith, few, as_many), closed))

    module _ (f : Front) (ok : IsFront f) (rest : List ℕ) (is : seen ≡ spell_front f ++ rest)
        (here : start ≡ length (spell_front f)) where
      pub begins : seen ≡ spell f bodies ++ drop at seen
      begins =
          is
          ∙ ap (λ (l : List ℕ). spell_front f ++ l)
          (sym (ap (λ (l : List ℕ). drop start l) is ∙ drop_at (spell_front f) rest start (sym here)) ∙ walked.split)
          ∙ sym (append_assoc (spell_front f) (flat_map frame bodies) (drop at seen))

      pub far_is : length (spell f bodies) ≡ at
      far_is = omega (arith, here, walked.at_is, length-append (spell_front f) (flat_map frame bodies))

      pub damaged_there : (base : ℕ) → base ≡ base_of f.head →
          IsBroken bodies (drop at seen) ⊎ AreTooFew base bodies (drop at seen) → IsDamagedAt seen at
      damaged_there base same bad = (
        f,
        bodies,
        drop at seen,
        ok,
        walked.holds,
        begins,
        far_is,
        subst (λ (n : ℕ). IsBroken bodies (drop at seen) ⊎ AreTooFew n bodies (drop at seen)) same bad,
      )

      module _ (enough : base_of f.head ≤ length bodies) where
        pub side_is : IsSide f bodies
        side_is = record { begins = ok; holds = walked.holds; base = enough }

        pub stands_for : (gate : ℕ) (more : List ℕ) → gate ≢ OPEN → drop at seen ≡ gate ∷ more →
            StandsFor f bodies seen
        stands_for gate more shut there =
            (side_is, (gate, more, shut, begins ∙ ap (λ (l : List ℕ). spell f bodies ++ l) there))

        -- the disk that was read, where all of it is sure
        pub on_disk : (d : DiskState) → d.seen ≡ seen → Only seen d.may_leave → StandsFor f bodies seen →
            StoresSide d f (bodies_at d.seen extents) extents at false × StandsFor f (bodies_at d.seen extents) seen
        on_disk d same only stands =
            let on : StoresSide d f bodies extents at false = record {
              side = side_is;
              begins = (drop at seen, same ∙ begins);
              extents_are = walked.extents_are ∙ ap (λ (n : ℕ). extents_from n bodies) here;
              end_is = sym far_is;
              at_rest = λ e. (
                subst (λ (l : List ℕ). StandsFor f bodies l) (sym same) stands,
                λ image left. only image left ∙ sym same,
              );
            } in
            let viewed = as_view d f bodies extents at false on in
            (viewed, subst (λ (l : List ℕ). StandsFor f (bodies_at d.seen extents) l) same (viewed.at_rest refl).0)

-- a disk was made sure, and then read
module _ (d0 d1 d2 d3 : DiskState) (sure : Only d0.seen d1.may_leave) (disk1 : IsDisk d1) (first : Unwritten d1 d2)
    (second : Unwritten d2 d3) where
  pub seen_1 : d1.seen ≡ d0.seen
  seen_1 = sure d1.seen disk1.reads

  pub seen_2 : d2.seen ≡ d0.seen
  seen_2 = first.seen ∙ seen_1

  pub seen_3 : d3.seen ≡ d0.seen
  seen_3 = second.seen ∙ seen_2

  pub only_3 : Only d0.seen d3.may_leave
  only_3 image left = sure image (first.images image (second.images image left))

-- an open gate without a whole frame stands at the place that was reached
pub broken_there : (seen seen1 : List ℕ) → seen1 ≡ seen →
    (start base : ℕ) (bodies : List (List ℕ)) (extents : List (ℕ × ℕ)) (at place : ℕ) →
    Walked seen start bodies extents at → place ≡ at
    → ((tail : List ℕ) × (drop at seen1 ≡ OPEN ∷ tail)) × (BeginsWithFrame (drop at seen1) → ⊥)
    → BreaksOff seen start base place
broken_there seen seen1 same start base bodies extents at place walked here broken = (
  bodies,
  extents,
  subst (λ (n : ℕ). Walked seen start bodies extents n) (sym here) walked,
  inl (subst (λ (n : ℕ). IsBroken bodies (drop n seen)) (sym here)
      (subst (λ (l : List ℕ). IsBroken bodies (drop at l)) same (inr broken))),
)

-- two reads, one after another, return the first bytes of the disk
front_two : (image start capacities : List ℕ) (n : ℕ) → start ≡ slice_range image 0 27 →
    capacities ≡ slice_range image 27 (27 + n) → start ++ capacities ≡ take (27 + n) image
front_two image start capacities n first second =
    (λ i. first i ++ second i)
    ∙ (let span : 27 + n - 27 ≡ n = omega arith in ap (λ (k : ℕ). take 27 image ++ take k (drop 27 image)) span)
    ∙ (λ i. sym (take-take 27 (27 + n) image (omega arith)) i ++ sym (drop-take 27 n image) i)
    ∙ take-append-drop 27 (take (27 + n) image)

-- no front begins an image that is too short for its count, or whose count takes too many bytes
pub too_short : (image : List ℕ) (count : ℕ) → count ≡ get_or image 10 0 →
    (length image - 27 < size_behind count) ⊎ (48 < size_behind count) → IsNotOurs image
too_short image count told short f rest ok is =
    let begins = is ∙ ap (λ (l : List ℕ). l ++ rest) (append-nil (spell_front f)) in
    let same : size_behind count ≡ size_behind (get_or image 10 0) = ap size_behind told in
    ⊎_elim
    (λ (less : length image - 27 < size_behind count).
    omega (arith, same, less, sized_by f rest image ok begins, long_enough f rest image ok begins))
    (λ (more : 48 < size_behind count). omega (arith, same, more, sized_by f rest image ok begins, short_front f ok))
    short

-- two reads filled a buffer with the first bytes of the image
module _ (image first second : List ℕ) (count : ℕ) (first_is : first ≡ slice_range image 0 27)
    (second_is : second ≡ slice_range image 27 (27 + count)) where
  pub begins_with : (front : List ℕ) → front ≡ first ++ second → (rest : List ℕ) × (image ≡ front ++ rest)
  begins_with front is = (
    drop (27 + count) image,
    sym (take-append-drop (27 + count) image)
        ∙ ap (λ (l : List ℕ). l ++ drop (27 + count) image)
        (sym (is ∙ front_two image first second count first_is second_is)),
  )
