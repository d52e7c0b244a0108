-- The extent of one body, and parts of it.
use Rattle.std.proofs.Common.{◌≡◌, ℕ, zero, suc, ◌+◌, ◌-◌, ◌<◌, ◌≤◌, List, [], ◌∷◌, ◌++◌, length, get_or, take, drop, sym, ◌∙◌, ap, subst, arith, length-append, Bool, true}
use Rattle.std.specs.Prelude.{slice_range}
use Rattle.std.specs.List.{All, flat_map}
use Rattle.std.proofs.lemmas.List.{get_or-map, length-map, drop-take, drop-drop, take-take}
use Rattle.std.proofs.lemmas.List.Elements.{All-get_or}
use Rattle.tape_disk.specs.Disk.{DiskState, Same}
use Rattle.gate_journal.specs.Side.{Front, frame, spell, spell_front, StandsFor}
use Rattle.gate_journal.specs.State.{StoresSide, IsExtent, IsBodyAt, LiesInBody, IsBodyPart, bodies_at, extents_from}
use Rattle.gate_journal.specs.Inner.Frames.{length-frame}

pub place_of : (at : ℕ) (bodies : List (List ℕ)) (i : ℕ) (d : ℕ × ℕ) → i < length bodies →
    get_or (extents_from at bodies)
    i d ≡ (at + length (flat_map frame (take i bodies)) + 5, length (get_or bodies i []))
place_of at [] i d inside = absurd (omega (arith, inside))
place_of at (b ∷ bs) zero d inside = let far : at + 5 ≡ at + 0 + 5 = omega arith in ap (λ (n : ℕ). (n, length b)) far
place_of at (b ∷ bs) (suc i) d inside =
    let far : at + 5 + length b + length (flat_map frame (take i bs)) + 5 ≡ at + length
    (frame b ++ flat_map frame (take i bs)) + 5 =
    omega (arith, length-append (frame b) (flat_map frame (take i bs)), length-frame b) in
    place_of (at + 5 + length b) bs i d (omega (arith, inside)) ∙ ap (λ (n : ℕ). (n, length (get_or bs i []))) far

module _ (disk : DiskState) (front : Front) (extents : List (ℕ × ℕ)) (end : ℕ) (failed : Bool)
    (on : StoresSide disk front (bodies_at disk.seen extents) extents end failed) where
  abbrev bodies : List (List ℕ)
  bodies = bodies_at disk.seen extents

  pub body_there : (i : ℕ) (place : ℕ × ℕ) → i < length extents → place ≡ get_or extents i place →
      IsBodyAt disk.seen front bodies i place
  body_there i place inside is =
      let sized : length bodies ≡ length extents =
      length-map extents (λ (p : ℕ × ℕ). slice_range disk.seen p.0 (p.0 + p.1)) in
      let known = is ∙ ap (λ (l : List (ℕ × ℕ)). get_or l i place) on.extents_are
      ∙ place_of (length (spell_front front)) bodies i place (omega (arith, inside, sized)) in
      record {
        gate = ap (λ (p : ℕ × ℕ). p.0) known
            ∙ ap (λ (n : ℕ). n + 5) (sym (length-append (spell_front front) (flat_map frame (take i bodies))));
        sized = ap (λ (p : ℕ × ℕ). p.1) known;
        there = get_or-map (λ (p : ℕ × ℕ). slice_range disk.seen p.0 (p.0 + p.1)) extents i place [] inside
            ∙ ap (λ (p : ℕ × ℕ). slice_range disk.seen p.0 (p.0 + p.1)) (sym is);
      }

  pub within_seen : (at count : ℕ) → All (IsExtent end) extents → LiesInBody extents at count →
      at + count ≤ length disk.seen
  within_seen at count all (i, inside, low, high) =
      let place = All-get_or (IsExtent end) extents i (0, 0) inside all in
      omega (
        arith,
        high,
        place.within,
        on.end_is,
        ap length on.begins.1,
        length-append (spell front bodies) on.begins.0,
      )

  module _ (later : DiskState) (same : Same disk later) where
    same_bodies : bodies_at later.seen extents ≡ bodies
    same_bodies = ap (λ (l : List ℕ). bodies_at l extents) same.seen

    pub bodies_stay : bodies_at later.seen extents ≡ bodies
    bodies_stay = same_bodies

    pub stays_on : StoresSide later front (bodies_at later.seen extents) extents end failed
    stays_on = subst (λ (l : List (List ℕ)). StoresSide later front l extents end failed) (sym same_bodies) (record {
      side = on.side;
      begins = (on.begins.0, same.seen ∙ on.begins.1);
      extents_are = on.extents_are;
      end_is = on.end_is;
      at_rest = λ fine.
          let rest = on.at_rest fine in (
            subst (λ (l : List ℕ). StandsFor front bodies l) (sym same.seen) rest.0,
            λ image left. rest.1 image (same.crash image left) ∙ sym same.seen,
          );
    })

    pub fails_on : StoresSide later front (bodies_at later.seen extents) extents end true
    fails_on = subst (λ (l : List (List ℕ)). StoresSide later front l extents end true) (sym same_bodies) (record {
      side = on.side;
      begins = (on.begins.0, same.seen ∙ on.begins.1);
      extents_are = on.extents_are;
      end_is = on.end_is;
      at_rest = λ fine. absurd (cc);
    })

part_of : (seen : List ℕ) (from size into count : ℕ) → into + count ≤ size →
    slice_range seen (from + into) (from + into + count) ≡ slice_range (slice_range seen from (from + size)) into
    (into + count)
part_of seen from size into count fits =
    let span1 : from + into + count - (from + into) ≡ count = omega arith in
    let span2 : into + count - into ≡ count = omega arith in
    let span3 : from + size - from ≡ into + (size - into) = omega (arith, fits) in
    ap (λ (n : ℕ). take n (drop (from + into) seen)) span1
    ∙ ap (λ (l : List ℕ). take count l) (sym (drop-drop into from seen))
    ∙ sym (take-take count (size - into) (drop into (drop from seen)) (omega (arith, fits)))
    ∙ ap (λ (l : List ℕ). take count l) (sym (drop-take into (size - into) (drop from seen)))
    ∙ ap (λ (n : ℕ). take count (drop into (take n (drop from seen)))) (sym span3)
    ∙ ap (λ (n : ℕ). take n (drop into (take (from + size - from) (drop from seen)))) (sym span2)

pub part_read : (seen : List ℕ) (extents : List (ℕ × ℕ)) (at count : ℕ) (bytes : List ℕ) → count ≡ length bytes →
    bytes ≡ slice_range seen at (at + count) → IsBodyPart (bodies_at seen extents) extents at bytes
part_read seen extents at count bytes counted read i into inside here fits =
    let place = get_or extents i (0, 0) in
    read
    ∙ (λ j. slice_range seen (here j) (here j + counted j))
    ∙ part_of seen place.0 place.1 into (length bytes) fits
    ∙ ap (λ (l : List ℕ). slice_range l into (into + length bytes))
    (sym (get_or-map (λ (p : ℕ × ℕ). slice_range seen p.0 (p.0 + p.1)) extents i (0, 0) [] inside))
