-- Walks over filemarks, by how many come before a place.
use Rattle.std.proofs.Common.{◌≡◌, ◌≤◌, ◌<◌, ◌+◌, ◌-◌, ℕ, List, length, take, inl, inr, refl, ap, arith, ⊎_elim}
use Rattle.std.proofs.lemmas.Bool.{cases_lt}
use Rattle.std.proofs.lemmas.List.{take_all}
use Rattle.volume_core.specs.declared.objects.Object.{Object}
use Rattle.volume_core.specs.Volume.{IsMarkOf, Part, count_of, mark_count, marks_in, marks_upto, objects_of}
use Rattle.positioning.specs.Motion.{IsMarkAt, marks_between}
use Rattle.positioning.specs.Inner.Walks.{WalksBackward, WalksForward}
use Rattle.positioning.proofs.MarkLemmas.{mark_behind, mark_inside, marks_split}

module _ (volume : List Part) (part : ℕ) where
  abbrev objects : List Object
  objects = objects_of volume part

  abbrev upto : ℕ → ℕ
  upto n = marks_upto volume part n

  from_start : (n : ℕ) → upto n ≡ marks_between objects 0 n
  from_start n =
      let same : n ≡ n - 0 = omega arith in
      ap (λ (m : ℕ). marks_in (take m objects)) same

  -- those before a place, and those from there to a later one
  pub parted : (from to : ℕ) → from ≤ to → upto to ≡ upto from + marks_between objects from to
  parted from to later =
      omega (arith, from_start from, from_start to, marks_split objects 0 from to (omega arith) later)

  -- at least as many come before a later place
  pub no_fewer : (from to : ℕ) → from ≤ to → upto from ≤ upto to
  no_fewer from to later = omega (arith, parted from to later)

  -- one more comes before the place after a filemark
  one_more : (at : ℕ) → IsMarkAt objects at → upto (at + 1) ≡ upto at + 1
  one_more at mark =
      omega (arith, from_start at, from_start (at + 1), mark_behind objects 0 at (omega arith) mark)

  -- before a place come at most as many as there are
  pub no_more : (n : ℕ) → n ≤ count_of volume part → upto n ≤ mark_count volume part
  no_more n within =
      omega (arith, no_fewer n (length objects) within, ap marks_in (take_whole objects))
    where
      take_whole : (row : List Object) → take (length row) row ≡ row
      take_whole row = take_all (length row) row (omega arith)

  -- a filemark with a number is on the tape
  pub stands : (k at : ℕ) → IsMarkOf volume part k at → at < count_of volume part
  stands k at mark = mark_inside objects at mark.mark

  module _ (from limit marks before far : ℕ) (before_is : before ≡ upto from) (far_is : far ≡ upto limit)
      (some : 1 ≤ marks) where
    pub found_forward : (last : ℕ) → marks ≤ far - before → IsMarkOf volume part (before + (marks - 1)) last
        → WalksForward objects from limit marks (last + 1) 0
    found_forward last enough mark =
        let one = one_more last mark.mark in
        let ahead : from ≤ last = ⊎_elim
        (λ (less : last < from). absurd (omega (
          arith,
          one,
          mark.before,
          before_is,
          some,
          no_fewer (last + 1) from (omega (arith, less)),
        )))
        (λ (more : from ≤ last). more)
        (cases_lt last from) in
        let near : last < limit = ⊎_elim
        (λ (less : last < limit). less)
        (λ (more : limit ≤ last). absurd (omega (
          arith,
          mark.before,
          before_is,
          far_is,
          some,
          enough,
          no_fewer limit last more,
        )))
        (cases_lt last limit) in
        record {
          ahead = omega (arith, ahead);
          within = omega (arith, near);
          counted =
              omega (arith, one, mark.before, before_is, some, parted from (last + 1) (omega (arith, ahead)));
          stops = inr ((last, refl, mark.mark), refl);
        }

    pub short_forward : from ≤ limit → far - before < marks
        → WalksForward objects from limit marks limit (marks - (far - before))
    short_forward range few = record {
      ahead = range;
      within = omega arith;
      counted = omega (arith, before_is, far_is, few, parted from limit range);
      stops = inl (refl, omega (arith, few));
    }

    pub found_backward : (last : ℕ) → marks ≤ before - far → IsMarkOf volume part (before - marks) last
        → WalksBackward objects from limit marks last 0
    found_backward last enough mark =
        let one = one_more last mark.mark in
        let behind : last < from = ⊎_elim
        (λ (less : last < from). less)
        (λ (more : from ≤ last). absurd (omega (
          arith,
          mark.before,
          before_is,
          some,
          enough,
          no_fewer from last more,
        )))
        (cases_lt last from) in
        let near : limit ≤ last = ⊎_elim
        (λ (less : last < limit). absurd (omega (
          arith,
          one,
          mark.before,
          before_is,
          far_is,
          some,
          enough,
          no_fewer (last + 1) limit (omega (arith, less)),
        )))
        (λ (more : limit ≤ last). more)
        (cases_lt last limit) in
        record {
          behind = omega (arith, behind);
          within = near;
          counted = omega (
            arith,
            mark.before,
            before_is,
            some,
            enough,
            parted last from (omega (arith, behind)),
          );
          stops = inr (mark.mark, refl);
        }

    pub short_backward : limit ≤ from → before - far < marks
        → WalksBackward objects from limit marks limit (marks - (before - far))
    short_backward range few = record {
      behind = range;
      within = omega arith;
      counted = omega (arith, before_is, far_is, few, parted limit from range);
      stops = inl (refl, omega (arith, few));
    }
