-- The last gates of a side, by the extents of its bodies.
use Rattle.std.proofs.Common.{◌≡◌, ℕ, suc, ◌+◌, ◌-◌, List, [], ◌∷◌, ◌++◌, length, get_or, take, refl, sym, ◌∙◌, ap, subst, arith, length-append, Ok, Err, Bool, false}
use Rattle.std.specs.Prelude.{◌≤◌, Result, Some, ◌==◌, if◌then◌else◌}
use Rattle.std.proofs.Math.Dec.{eqb-suc-zero}
use Rattle.std.specs.List.{flat_map}
use Rattle.std.proofs.lemmas.List.{get_or_push}
use Rattle.tape_disk.specs.Disk.{DiskState}
use Rattle.gate_journal.specs.declared.error.JournalError.{JournalError}
use Rattle.gate_journal.specs.declared.error.JournalError.TheVariants.{NotOurs, Damaged, SideFull, Device, Failed, NoMemory}
use Rattle.gate_journal.specs.declared.gates.Gates.{Gates}
use Rattle.gate_journal.specs.Answers.{NoneFailed}
use Rattle.gate_journal.specs.Crash.{Unwritten}
use Rattle.gate_journal.specs.Gates.{last_gate}
use Rattle.gate_journal.specs.Inner.Gates.{FindsLast, FindsWhole, gate_before}
use Rattle.gate_journal.specs.Inner.Sides.{never_ours, stands}
use Rattle.gate_journal.specs.Side.{Front, IsDamagedAt, IsNotOurs, StandsFor, base_of, frame, spell_front}
use Rattle.gate_journal.specs.State.{extents_from}
use Rattle.gate_journal.specs.Heads.{base_in}
use Rattle.gate_journal.specs.Inner.Reading.{ParsesFront}
use Rattle.gate_journal.specs.declared.fronts.ParsedFront.{ParsedFront}
use Rattle.gate_journal.proofs.Extents.{extents_count}
use Rattle.gate_journal.proofs.Parts.{place_of}
use Rattle.gate_journal.proofs.Walks.{damaged_there, fault_since, far_is, stands_for}

-- the extent of the last body says where the last open gate is
pub gate_place : (front : Front) (bodies : List (List ℕ))
    → gate_before (extents_from (length (spell_front front)) bodies) ≡ last_gate front bodies
gate_place front [] = refl
gate_place front (body ∷ bodies) =
    let start : ℕ = length (spell_front front) in
    let before : List ℕ = flat_map frame (take (length bodies) (body ∷ bodies)) in
    let count : length (extents_from start (body ∷ bodies)) - 1 ≡ length bodies
    = omega (arith, extents_count start (body ∷ bodies)) in
    let some : (length (extents_from start (body ∷ bodies)) == 0) ≡ false
    = eqb-suc-zero (length (extents_from (start + 5 + length body) bodies)) in
    ap (λ (none : Bool). if none then 0 else
    (get_or (extents_from start (body ∷ bodies)) (length (extents_from start (body ∷ bodies)) - 1) (0, 0)).0 - 5) some
    ∙ ap (λ (n : ℕ). (get_or (extents_from start (body ∷ bodies)) n (0, 0)).0 - 5) count
    ∙ ap (λ (p : ℕ × ℕ). p.0 - 5) (place_of start (body ∷ bodies) (length bodies) (0, 0) (omega arith))
    ∙ (let less : start + length before + 5 - 5 ≡ start + length before = omega arith in less)
    ∙ sym (length-append (spell_front front) before)

-- the same where a body is added
pub gate_pushed : (extents : List (ℕ × ℕ)) (at size : ℕ) → gate_before (extents ++ (at + 5, size) ∷ []) ≡ at
gate_pushed extents at size =
    let more : List (ℕ × ℕ) = extents ++ (at + 5, size) ∷ [] in
    let count : length more ≡ suc (length extents) = omega (arith, length-append extents ((at + 5, size) ∷ [])) in
    let index : length more - 1 ≡ length extents = omega (arith, count) in
    let some : (length more == 0) ≡ false
    = ap (λ (n : ℕ). n == 0) count ∙ eqb-suc-zero (length extents) in
    ap (λ (none : Bool). if none then 0 else (get_or more (length more - 1) (0, 0)).0 - 5) some
    ∙ ap (λ (n : ℕ). (get_or more n (0, 0)).0 - 5) index
    ∙ ap (λ (p : ℕ × ℕ). p.0 - 5) (get_or_push extents (at + 5, size) (0, 0) (length extents) refl)
    ∙ (let less : at + 5 - 5 ≡ at = omega arith in less)

module _ (d0 d1 d2 : DiskState) (none : NoneFailed d0 d1) (parsed : ParsedFront) (base : ℕ)
    (same : base ≡ base_in parsed.copied) (stays : d0.honest → d1.honest)
    (begins : d0.honest → ParsesFront d0.seen (Some parsed)) (unwritten : d0.honest → Unwritten d0 d1) where
  -- the frames after a front are a side, or break off
  pub whole_found : (result : Result Gates JournalError) → FindsLast result parsed.size base d1 d2 →
      FindsWhole result d0 d2
  whole_found (Ok gates) found = (
    found.0 ∙ none,
    λ honest.
        let seen = (unwritten honest).seen in
        let side = begins honest in
        let f = side.0 in
        let walk = found.1 (stays honest) in
        let bodies = walk.0.0 in
        let extents = walk.0.1 in
        let is : d1.seen ≡ spell_front f ++ side.1 = seen ∙ side.3 in
        let enough : base_of f.head ≤ length bodies = omega (arith, walk.0.4, same, ap base_in side.4.copied) in
        let there = stands_for d1.seen parsed.size bodies extents gates.end walk.0.2 f side.2 side.1 is side.4.size
        enough walk.1.0 walk.1.1 walk.1.2 walk.1.3 in (
          f,
          bodies,
          subst (λ (l : List ℕ). StandsFor f bodies l) seen there,
          walk.0.3 ∙ ap gate_before walk.0.2.extents_are
              ∙ ap (λ (n : ℕ). gate_before (extents_from n bodies)) side.4.size ∙ gate_place f bodies,
          sym (far_is d1.seen parsed.size bodies extents gates.end walk.0.2 f side.2 side.1 is side.4.size),
        ),
  )
  whole_found (Err NotOurs) found = absurd found.1
  whole_found (Err (Damaged at)) found = (
    found.0 ∙ none,
    λ honest.
        let seen = (unwritten honest).seen in
        let side = begins honest in
        let broken = found.1 (stays honest) in
        subst (λ (l : List ℕ). IsDamagedAt l at) seen
        (damaged_there d1.seen parsed.size broken.0 broken.1 at broken.2 side.0 side.2 side.1 (seen ∙ side.3)
        side.4.size
        base (same ∙ ap base_in side.4.copied) broken.3),
  )
  whole_found (Err (Device fault)) found = fault_since d0 d1 d2 fault none found
  whole_found (Err NoMemory) found = absurd found.1
  whole_found (Err SideFull) found = absurd found
  whole_found (Err Failed) found = absurd found

-- bytes that are no side have no gates
pub none_ours : (old : List ℕ) → IsNotOurs old → (f : Front) (bodies : List (List ℕ)) → StandsFor f bodies old → ⊥
none_ours old never f bodies there =
    never_ours old f bodies (there.1.0 ∷ there.1.1) (stands old f bodies there) never
