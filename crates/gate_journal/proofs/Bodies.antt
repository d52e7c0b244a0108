-- Where bodies lie on a disk, and one body more.
use Rattle.std.proofs.Common.{◌≡◌, ◌≢◌, inl, inr, ℕ, ◌+◌, ◌-◌, ◌<◌, List, [], ◌∷◌, ◌++◌, length, get_or, take, drop, refl, sym, ◌∙◌, ap, subst, arith, append_assoc, length-append, Bool, true, false}
use Rattle.std.specs.Prelude.{slice_range}
use Rattle.std.specs.List.{flat_map}
use Rattle.std.specs.Int.{to_be_bytes, w32}
use Rattle.std.proofs.lemmas.List.{append-nil, take_at, drop_at, get_or_at}
use Rattle.std.proofs.lemmas.List.Concat.{flat_map-append}
use Rattle.std.proofs.lemmas.List.Elements.{All-nil, All-push}
use Rattle.std.proofs.lemmas.Bool.{cases_eq}
use Rattle.tape_disk.specs.Disk.{DiskState, IsDisk, Only, Each}
use Rattle.tape_disk.specs.Moments.{LeavesOnly, no_call, weakened, holds_now}
use Rattle.gate_journal.specs.Side.{OPEN, Front, Heading, IsHeading, IsBody, IsSide, frame, plain, spell_front, spell, StandsFor}
use Rattle.gate_journal.specs.Crash.{WithOrWithout}
use Rattle.gate_journal.specs.State.{StoresSide, bodies_at, extents_from}
use Rattle.gate_journal.specs.Inner.Writing.{BehindOrGated, opened, tail_of}
use Rattle.gate_journal.specs.Inner.Frames.{length-frame}
use Rattle.gate_journal.specs.Inner.Fronts.{plain_front}

pub frames_push : (bodies : List (List ℕ)) (body : List ℕ) →
    flat_map frame (bodies ++ body ∷ []) ≡ flat_map frame bodies ++ frame body
frames_push bodies body = flat_map-append frame bodies (body ∷ [])
    ∙ ap (λ (l : List ℕ). flat_map frame bodies ++ l) (append-nil (frame body))

pub spell_push : (front : Front) (bodies : List (List ℕ)) (body : List ℕ) →
    spell front (bodies ++ body ∷ []) ≡ spell front bodies ++ frame body
spell_push front bodies body =
    ap (λ (l : List ℕ). spell_front front ++ l) (frames_push bodies body)
    ∙ sym (append_assoc (spell_front front) (flat_map frame bodies) (frame body))

pub extents_push : (at : ℕ) (bodies : List (List ℕ)) (body : List ℕ) →
    extents_from at (bodies ++ body ∷ []) ≡ extents_from at bodies ++ (
      at + length (flat_map frame bodies) + 5,
      length body,
    ) ∷ []
extents_push at [] body = let far : at + 5 ≡ at + 0 + 5 = omega arith in ap (λ (n : ℕ). (n, length body) ∷ []) far
extents_push at (b ∷ bs) body =
    let far : at + 5 + length b + length (flat_map frame bs) + 5 ≡ at + length (frame b ++ flat_map frame bs) + 5 =
    omega (arith, length-append (frame b) (flat_map frame bs), length-frame b) in
    ap (λ (l : List (ℕ × ℕ)). (at + 5, length b) ∷ l)
    (extents_push (at + 5 + length b) bs body
    ∙ ap (λ (n : ℕ). extents_from (at + 5 + length b) bs ++ (n, length body) ∷ []) far)

pub read_there : (front body rest : List ℕ) (at : ℕ) → length front ≡ at →
    slice_range (front ++ body ++ rest) at (at + length body) ≡ body
read_there front body rest at here =
    let span : at + length body - at ≡ length body = omega arith in
    ap (λ (n : ℕ). take n (drop at (front ++ body ++ rest))) span
    ∙ ap (λ (l : List ℕ). take (length body) l)
    (ap (λ (l : List ℕ). drop at l) (append_assoc front body rest) ∙ drop_at front (body ++ rest) at here)
    ∙ take_at body rest (length body) refl

bodies_from : (front : List ℕ) (bodies : List (List ℕ)) (rest : List ℕ) (at : ℕ) → length front ≡ at →
    bodies_at (front ++ flat_map frame bodies ++ rest) (extents_from at bodies) ≡ bodies
bodies_from front [] rest at here = refl
bodies_from front (b ∷ bs) rest at here =
    let gate = OPEN ∷ to_be_bytes w32 (length b) in
    let whole : front ++ flat_map frame (b ∷ bs) ++ rest ≡ (front ++ gate) ++ b ++ (flat_map frame bs ++ rest) =
    simp append_assoc in
    let next : front ++ flat_map frame (b ∷ bs) ++ rest ≡ (front ++ frame b) ++ flat_map frame bs ++ rest =
    simp append_assoc in
    let first : slice_range (front ++ flat_map frame (b ∷ bs) ++ rest) (at + 5) (at + 5 + length b) ≡ b =
    ap (λ (l : List ℕ). slice_range l (at + 5) (at + 5 + length b)) whole
    ∙ read_there (front ++ gate) b (flat_map frame bs ++ rest) (at + 5)
    (omega (arith, here, length-append front gate)) in
    let others : bodies_at (front ++ flat_map frame (b ∷ bs) ++ rest) (extents_from (at + 5 + length b) bs) ≡ bs =
    ap (λ (l : List ℕ). bodies_at l (extents_from (at + 5 + length b) bs)) next
    ∙ bodies_from (front ++ frame b) bs rest (at + 5 + length b)
    (omega (arith, here, length-append front (frame b), length-frame b)) in
    λ i. first i ∷ others i

-- the bodies in the view of a journal are those with which its disk begins
pub bodies_are : (d : DiskState) (front : Front) (bodies : List (List ℕ)) (extents : List (ℕ × ℕ)) (end : ℕ)
    (failed : Bool) → StoresSide d front bodies extents end failed → bodies_at d.seen extents ≡ bodies
bodies_are d front bodies extents end failed on =
    (λ i. bodies_at (on.begins.1 i) (on.extents_are i))
    ∙ bodies_from (spell_front front) bodies on.begins.0 (length (spell_front front)) refl

pub as_view : (d : DiskState) (front : Front) (bodies : List (List ℕ)) (extents : List (ℕ × ℕ)) (end : ℕ)
    (failed : Bool) → StoresSide d front bodies extents end failed →
    StoresSide d front (bodies_at d.seen extents) extents end failed
as_view d front bodies extents end failed on =
    subst (λ (l : List (List ℕ)). StoresSide d front l extents end failed)
    (sym (bodies_are d front bodies extents end failed on)) on

regrouped : (front size body rest : List ℕ) →
    (front ++ (OPEN ∷ size ++ body)) ++ 0 ∷ rest ≡ front ++ OPEN ∷ (size ++ body ++ 0 ∷ []) ++ rest
regrouped front size body rest = simp append_assoc

module _ (front : Front) (bodies : List (List ℕ)) (body : List ℕ) (side : IsSide front bodies)
    (ok : IsBody body) where
  pub side_push : IsSide front (bodies ++ body ∷ [])
  side_push = record {
    begins = side.begins;
    holds = All-push IsBody bodies body side.holds ok;
    base = omega (arith, side.base, length-append bodies (body ∷ []));
  }

  pub counted : (rest : List ℕ) →
      spell front bodies ++ OPEN ∷ tail_of body ++ rest ≡ spell front (bodies ++ body ∷ []) ++ 0 ∷ rest
  counted rest = sym (ap (λ (l : List ℕ). l ++ 0 ∷ rest) (spell_push front bodies body)
      ∙ regrouped (spell front bodies) (to_be_bytes w32 (length body)) body rest)

  -- the gate after the spelling decides whether the new body counts
  pub either : (gate : ℕ) (image : List ℕ) → gate ≢ OPEN →
      BehindOrGated (spell front bodies) gate (tail_of body) image → WithOrWithout front bodies body image
  either gate image shut (inl (rest, is)) = inl (side, (gate, rest, shut, is))
  either gate image shut (inr (other, rest, is)) = elim (cases_eq other OPEN) [
    | inl open_gate ↦ inr (
      side_push,
      (
        0,
        rest,
        (λ e. omega arith),
        is ∙ ap (λ (n : ℕ). spell front bodies ++ n ∷ tail_of body ++ rest) open_gate
            ∙ counted rest,
      ),
    )
    | inr closed ↦ inl (
      side,
      (
        other,
        tail_of body ++ rest,
        closed,
        is
            ∙ append_assoc (spell front bodies) (other ∷ tail_of body) rest,
      ),
    )
  ]

module _ (d : DiskState) (front : Front) (bodies : List (List ℕ)) (extents : List (ℕ × ℕ)) (end : ℕ)
    (on : StoresSide d front bodies extents end false) where
  abbrev stands : StandsFor front bodies d.seen
  stands = (on.at_rest refl).0

  pub front_is : take end d.seen ≡ spell front bodies
  front_is = ap (λ (l : List ℕ). take end l) on.begins.1
      ∙ take_at (spell front bodies) on.begins.0 end (sym on.end_is)

  pub gate_is : get_or d.seen end 0 ≡ stands.1.0
  gate_is = ap (λ (l : List ℕ). get_or l end 0) stands.1.3
      ∙ get_or_at (spell front bodies) stands.1.0 stands.1.1 0 end (sym on.end_is)

  pub gate_stands : end < length d.seen
  gate_stands = omega (
    arith,
    on.end_is,
    ap length stands.1.3,
    length-append (spell front bodies) (stands.1.0 ∷ stands.1.1),
  )

  module _ (body : List ℕ) (ok : IsBody body) where
    pub in_bodies : (image : List ℕ) → BehindOrGated (take end d.seen) (get_or d.seen end 0) (tail_of body) image →
        WithOrWithout front bodies body image
    in_bodies image b = either front bodies body on.side ok (get_or d.seen end 0) image
        (λ e. stands.1.2 (sym gate_is ∙ e))
        (subst (λ (l : List ℕ). BehindOrGated l (get_or d.seen end 0) (tail_of body) image) front_is b)

    pub whole : (d' : DiskState) → d'.seen ≡ opened (take end d.seen) (tail_of body) →
        d'.seen ≡ spell front (bodies ++ body ∷ []) ++ 0 ∷ []
    whole d' is = is ∙ ap (λ (l : List ℕ). opened l (tail_of body)) front_is
        ∙ sym (append-nil (opened (spell front bodies) (tail_of body)))
        ∙ counted front bodies body on.side ok []

    pub added : (d' : DiskState) (size : ℕ) → size ≡ length body → d'.seen ≡ opened (take end d.seen) (tail_of body) →
        Only d'.seen d'.may_leave → StoresSide d' front (bodies ++ body ∷ []) (extents ++ (end + 5, size) ∷ [])
        (end + 5 + size) false
    added d' size is holds kept =
        let far : end + 5 ≡ length (spell_front front) + length (flat_map frame bodies) + 5 =
        omega (arith, on.end_is, length-append (spell_front front) (flat_map frame bodies)) in
        record {
          side = side_push front bodies body on.side ok;
          begins = (0 ∷ [], whole d' holds);
          extents_are = (λ i. on.extents_are i ++ (far i, is i) ∷ [])
              ∙ sym (extents_push (length (spell_front front)) bodies body);
          end_is = omega (
            arith,
            on.end_is,
            is,
            ap length (spell_push front bodies body),
            length-append (spell front bodies) (frame body),
            length-frame body,
          );
          at_rest = λ e. ((side_push front bodies body on.side ok, (0, [], (λ z. omega arith), whole d' holds)), kept);
        }

    pub torn : (d' : DiskState) → IsDisk d' →
        LeavesOnly d d' (BehindOrGated (take end d.seen) (get_or d.seen end 0) (tail_of body)) →
        StoresSide d' front bodies extents end true
    torn d' disk run = elim (holds_now d d' _ disk run d'.seen disk.reads) [
      | inl b ↦ keeps (get_or d.seen end 0 ∷ b.0) b.1
      | inr f ↦ keeps (f.0 ∷ tail_of body ++ f.1) (f.2 ∙ append_assoc (take end d.seen) (f.0 ∷ tail_of body) f.1)
    ]
      where
        keeps : (rest : List ℕ) → d'.seen ≡ take end d.seen ++ rest → StoresSide d' front bodies extents end true
        keeps rest is = record {
          side = on.side;
          begins = (rest, is ∙ ap (λ (l : List ℕ). l ++ rest) front_is);
          extents_are = on.extents_are;
          end_is = on.end_is;
          at_rest = λ e. absurd (cc);
        }

-- the same, as `append` needs it
module _ (d : DiskState) (front : Front) (extents : List (ℕ × ℕ)) (end : ℕ) (failed : Bool)
    (on : StoresSide d front (bodies_at d.seen extents) extents end failed) (fine : failed ≡ false) where
  abbrev bodies : List (List ℕ)
  bodies = bodies_at d.seen extents

  open_on : StoresSide d front bodies extents end false
  open_on = subst (λ (f : Bool). StoresSide d front bodies extents end f) fine on

  pub sure_now : Each d (StandsFor front bodies)
  sure_now image left =
      let at_rest = open_on.at_rest refl in
      (on.side, (at_rest.0.1.0, at_rest.0.1.1, at_rest.0.1.2, at_rest.1 image left ∙ at_rest.0.1.3))

  pub still : (body : List ℕ) → IsDisk d → LeavesOnly d d (WithOrWithout front bodies body)
  still body disk = no_call d (WithOrWithout front bodies body) disk (λ image left. inl (sure_now image left))

  pub inside : end < length d.seen
  inside = gate_stands d front bodies extents end open_on

  pub only : Only d.seen d.may_leave
  only = (open_on.at_rest refl).1

  module _ (body : List ℕ) (ok : IsBody body) (d' : DiskState) (bytes : List ℕ) (bytes_are : bytes ≡ tail_of body) where
    abbrev Run : Type 0
    Run = LeavesOnly d d' (BehindOrGated (take end d.seen) (get_or d.seen end 0) bytes)

    spelled_run : Run → LeavesOnly d d' (BehindOrGated (take end d.seen) (get_or d.seen end 0) (tail_of body))
    spelled_run run = subst (λ (l : List ℕ). LeavesOnly d d' (BehindOrGated (take end d.seen) (get_or d.seen end 0) l))
        bytes_are run

    pub moments : Run → LeavesOnly d d' (WithOrWithout front bodies body)
    moments run = weakened d d' _ _ (spelled_run run) (in_bodies d front bodies extents end open_on body ok)

    module _ (run : Run) (disk' : IsDisk d') where
      failed_on_old : StoresSide d' front bodies extents end true
      failed_on_old = torn d front bodies extents end open_on body ok d' disk' (spelled_run run)

      pub failed_bodies : bodies_at d'.seen extents ≡ bodies
      failed_bodies = bodies_are d' front bodies extents end true failed_on_old

      pub failed_on : StoresSide d' front (bodies_at d'.seen extents) extents end true
      failed_on = as_view d' front bodies extents end true failed_on_old

    module _ (extents' : List (ℕ × ℕ)) (extents_are : extents' ≡ extents ++ (end + 5, length body) ∷ [])
        (done : (d'.seen ≡ opened (take end d.seen) bytes) × Only d'.seen d'.may_leave) where
      spelled : d'.seen ≡ opened (take end d.seen) (tail_of body)
      spelled = done.0 ∙ ap (λ (l : List ℕ). opened (take end d.seen) l) bytes_are

      opened_on : StoresSide d' front (bodies ++ body ∷ []) extents' (end + 5 + length body) false
      opened_on =
          subst (λ (l : List (ℕ × ℕ)). StoresSide d' front (bodies ++ body ∷ []) l (end + 5 + length body) false)
          (sym extents_are)
          (added d front bodies extents end open_on body ok d' (length body) refl spelled done.1)

      pub added_bodies : bodies_at d'.seen extents' ≡ bodies ++ body ∷ []
      added_bodies = bodies_are d' front (bodies ++ body ∷ []) extents' (end + 5 + length body) false opened_on

      pub added_on : (end' : ℕ) (failed' : Bool) → end' ≡ end + 5 + length body → failed' ≡ false →
          StoresSide d' front (bodies_at d'.seen extents') extents' end' failed'
      added_on end' failed' e f =
          subst (λ (x : Bool). StoresSide d' front (bodies_at d'.seen extents') extents' end' x) (sym f)
          (subst (λ (n : ℕ). StoresSide d' front (bodies_at d'.seen extents') extents' n false) (sym e)
          (as_view d' front (bodies ++ body ∷ []) extents' (end + 5 + length body) false opened_on))

      added_each : (image : List ℕ) → d'.may_leave image → StandsFor front (bodies_at d'.seen extents') image
      added_each image left =
          let at_rest = opened_on.at_rest refl in
          let side = side_push front bodies body on.side ok in
          subst (λ (l : List (List ℕ)). StandsFor front l image) (sym added_bodies)
          (side, (at_rest.0.1.0, at_rest.0.1.1, at_rest.0.1.2, at_rest.1 image left ∙ at_rest.0.1.3))

      pub added_sure : (end' : ℕ) → end' ≡ end + 5 + length body →
          Each d' (StandsFor front (bodies_at d'.seen extents')) × (length d'.seen ≡ end' + 1)
      added_sure end' e = (
        added_each,
        omega (
          arith,
          e,
          opened_on.end_is,
          ap length (whole d front bodies extents end open_on body ok d' spelled),
          length-append (spell front (bodies ++ body ∷ [])) (0 ∷ []),
        ),
      )

-- a side with no frames, which is no copy and whose pair gate is closed
pub fresh : (d : DiskState) (heading : Heading) (extents : List (ℕ × ℕ)) (end : ℕ) → IsHeading heading →
    d.seen ≡ spell_front (plain heading) ++ 0 ∷ [] → Only d.seen d.may_leave → extents ≡ [] →
    end ≡ length (spell_front (plain heading))
    → StoresSide d (plain heading) (bodies_at d.seen extents) extents end false
fresh d heading extents end ok seen only none size =
    let front : Front = plain heading in
    let side : IsSide front [] =
    record { begins = plain_front heading ok; holds = All-nil IsBody; base = omega arith } in
    let whole : d.seen ≡ spell front [] ++ 0 ∷ [] =
    seen ∙ ap (λ (l : List ℕ). l ++ 0 ∷ []) (sym (append-nil (spell_front front))) in
    subst (λ (l : List (ℕ × ℕ)). StoresSide d front (bodies_at d.seen l) l end false) (sym none) (record {
      side = side;
      begins = (0 ∷ [], whole);
      extents_are = refl;
      end_is = size ∙ ap length (sym (append-nil (spell_front front)));
      at_rest = λ e. ((side, (0, [], (λ z. omega arith), whole)), only);
    })
