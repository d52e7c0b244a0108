-- A pair of images has one answer at most: one cartridge's contents, or one cause for which it has none.
use Rattle.std.proofs.Common.{◌≡◌, ◌⊎◌, inl, inr, ℕ, zero, suc, ◌<◌, ◌≤◌, List, [], ◌∷◌, ◌++◌, length, take, get_or, refl, sym, ◌∙◌, ap, subst, arith}
use Rattle.std.specs.List.{All, flat_map}
use Rattle.std.proofs.lemmas.Bool.{cases_lt}
use Rattle.std.proofs.lemmas.List.{get_or-map, get_or-take, length-map, take-map, take-take, take_all}
use Rattle.std.proofs.lemmas.List.Elements.{All-get_or, All-head, All-tail, All-take}
use Rattle.volume_core.specs.declared.changes.Change.{Change}
use Rattle.volume_core.specs.Volume.{AllApply, Part, after, changed, empty_volume}
use Rattle.volume_core.specs.Stores.{after_append}
use Rattle.tape_disk.specs.TwoDisks.{Images}
use Rattle.gate_journal.specs.Heads.{Head}
use Rattle.gate_journal.specs.Side.{frame}
use Rattle.cartridge_sides.specs.Pairs.{gate_behind}
use Rattle.cartridge_sides.specs.Inner.Decided.{one_place, one_thing, sound}
use Rattle.change_records.specs.Records.{IsRecord, spell_all}
use Rattle.change_records.specs.Inner.Decided.{same_list}
use Rattle.cartridge.specs.Contents.{AreGood, Contents, GivesContents, IsBadFrame, IsBadFrameAt, IsContents, IsDamagedPairAt, IsNoCartridge, bodies_of, changes_of}

-- frames that are spelled alike are the same
same_frames : (frames others : List (List Change)) → All (All IsRecord) frames → All (All IsRecord) others
    → bodies_of frames ≡ bodies_of others → frames ≡ others
same_frames [] [] a b e = refl
same_frames (f ∷ fs) [] a b e = absurd (cc)
same_frames [] (o ∷ os) a b e = absurd (cc)
same_frames (f ∷ fs) (o ∷ os) a b e =
    let first : spell_all f ≡ spell_all o = cc in
    let rest : bodies_of fs ≡ bodies_of os = cc in
    let one = same_list (spell_all f) f o (All-head (All IsRecord) f fs a, refl) (
      All-head (All IsRecord) o os b,
      first,
    ) in
    let others = same_frames fs os (All-tail (All IsRecord) f fs a) (All-tail (All IsRecord) o os b) rest in
    λ i. one i ∷ others i

-- contents of the same side, with the same head and frames, are the same
same_contents : (a b : Contents) → IsContents a → IsContents b → a.which ≡ b.which → a.head ≡ b.head
    → a.frames ≡ b.frames → a ≡ b
same_contents a b is also which head frames =
    let base : a.base ≡ b.base =
    is.base ∙ ap (λ (h : Head). empty_volume h.heading.capacities) head ∙ sym also.base in
    λ i. record { which = which i; head = head i; base = base i; frames = frames i }

pub gives_one : (images : Images) (a b : Contents) → GivesContents a images → GivesContents b images → a ≡ b
gives_one images a b one two =
    let side = one_thing images.0 images.1 a.which b.which a.head b.head (bodies_of a.frames) (bodies_of b.frames)
    one.1 two.1 in
    same_contents a b one.0 two.0 side.0 side.1.0 (same_frames a.frames b.frames one.0.records two.0.records side.1.1)

-- where images give contents a side counts
pub gives_ours : (images : Images) (contents : Contents) → GivesContents contents images → IsNoCartridge images → ⊥
gives_ours images contents gives none =
    let stands = gives.1.1 in
    none contents.which contents.head (flat_map frame (bodies_of contents.frames) ++ stands.0 ∷ stands.1) stands.3

-- and it is whole
pub gives_whole : (images : Images) (contents : Contents) (at : ℕ) → GivesContents contents images
    → IsDamagedPairAt images at → ⊥
gives_whole images contents at gives damage =
    sound images.0 images.1 contents.which contents.head (bodies_of contents.frames) at gives.1 damage

-- changes that apply, split in two
split_apply : (volume : List Part) (xs ys : List Change) → AllApply volume (xs ++ ys)
    → AllApply volume xs × AllApply (after volume xs) ys
split_apply volume [] ys all = (tt, all)
split_apply volume (x ∷ xs) ys all =
    let rest = split_apply (changed volume x) xs ys all.1 in ((all.0, rest.0), rest.1)

-- the changes of each frame apply to what those before it made
apply_at : (volume : List Part) (frames : List (List Change)) (n : ℕ) → n < length frames
    → AllApply volume (changes_of frames) → AllApply (after volume (changes_of (take n frames))) (get_or frames n [])
apply_at volume [] n inside all = absurd (omega (arith, inside))
apply_at volume (f ∷ fs) zero inside all = (split_apply volume f (changes_of fs) all).0
apply_at volume (f ∷ fs) (suc n) inside all =
    subst (λ (v : List Part). AllApply v (get_or fs n [])) (sym (after_append volume f (changes_of (take n fs))))
    (apply_at (after volume f) fs n (omega (arith, inside)) (split_apply volume f (changes_of fs) all).1)

-- frames that a side begins with reach no further than its first bad frame
module _ (h : Head) (bodies : List (List ℕ)) (good : List (List Change)) (at : ℕ) (bad : IsBadFrame h bodies good at)
    (frames : List (List Change)) (is : AreGood h.heading.capacities frames)
    (spelled : bodies_of frames ≡ take (length frames) bodies) where
  module _ (further : length good < length frames) where
    abbrev n : ℕ
    n = length good

    same_front : good ≡ take n frames
    same_front =
        same_frames good (take n frames) bad.before.records (All-take (All IsRecord) n frames is.records)
        (bad.spelled ∙ sym (take-take n (length frames) bodies (omega (arith, further)))
        ∙ ap (take n) (sym spelled) ∙ take-map spell_all n frames)

    body_there : get_or bodies n [] ≡ spell_all (get_or frames n [])
    body_there =
        sym (get_or-take (length frames) bodies n [] further) ∙ ap (λ (b : List (List ℕ)). get_or b n []) (sym spelled)
        ∙ get_or-map spell_all frames n [] [] further

    pub no_further : ⊥
    no_further =
        bad.bad (get_or frames n []) (All-get_or (All IsRecord) frames n [] further is.records) body_there
        (subst (λ (f : List (List Change)). AllApply (after (empty_volume h.heading.capacities) (changes_of f))
        (get_or frames n [])) (sym same_front)
        (apply_at (empty_volume h.heading.capacities) frames n further is.apply))

-- the frames of contents are good
pub good_frames : (contents : Contents) (h : Head) → IsContents contents → contents.head ≡ h
    → AreGood h.heading.capacities contents.frames
good_frames contents h is same = record {
  records = is.records;
  apply =
      subst (λ (volume : List Part). AllApply volume (changes_of contents.frames))
      (is.base ∙ ap (λ (x : Head). empty_volume x.heading.capacities) same) is.apply;
}

-- what gives contents has no bad frame
pub gives_good : (images : Images) (contents : Contents) (at : ℕ) → GivesContents contents images
    → IsBadFrameAt images at → ⊥
gives_good images contents at gives (which, h, bodies, good, s, bad) =
    let side = one_thing images.0 images.1 contents.which which contents.head h (bodies_of contents.frames) bodies
    gives.1 s in
    let long : length bodies ≡ length contents.frames =
    ap (λ (b : List (List ℕ)). length b) (sym side.1.1) ∙ length-map contents.frames spell_all in
    no_further h bodies good at bad contents.frames (good_frames contents h gives.0 side.1.0)
    (side.1.1 ∙ sym (take_all (length contents.frames) bodies (omega (arith, long))))
    (omega (arith, bad.inside, long))

-- the first bad frame of a side is one
one_bad : (h : Head) (bodies : List (List ℕ)) (good others : List (List Change)) (a b : ℕ)
    → IsBadFrame h bodies good a → IsBadFrame h bodies others b → a ≡ b
one_bad h bodies good others a b one two = by (cases_lt (length good) (length others))
  where
    by : (length good < length others) ⊎ (length others ≤ length good) → a ≡ b
    by (inl less) = absurd (no_further h bodies good a one others two.before two.spelled less)
    by (inr least) = then (cases_lt (length others) (length good))
      where
        then : (length others < length good) ⊎ (length good ≤ length others) → a ≡ b
        then (inl less) = absurd (no_further h bodies others b two good one.before one.spelled less)
        then (inr most) =
            let same : length good ≡ length others = omega (arith, least, most) in
            one.gate
            ∙ ap (λ (x : List (List ℕ)). gate_behind h x)
            (one.spelled ∙ ap (λ (k : ℕ). take k bodies) same ∙ sym two.spelled)
            ∙ sym two.gate

pub bad_once : (images : Images) (a b : ℕ) → IsBadFrameAt images a → IsBadFrameAt images b → a ≡ b
bad_once images a b (which, h, bodies, good, s, one) (other, k, others, found, t, two) =
    let side = one_thing images.0 images.1 other which k h others bodies t s in
    one_bad h bodies good found a b one
    (subst (λ (x : Head × List (List ℕ)). IsBadFrame x.0 x.1 found b) (λ i. (side.1.0 i, side.1.1 i)) two)

-- where a side has a bad frame it counts
pub bad_ours : (images : Images) (at : ℕ) → IsNoCartridge images → IsBadFrameAt images at → ⊥
bad_ours images at none (which, h, bodies, good, s, bad) =
    none which h (flat_map frame bodies ++ s.1.0 ∷ s.1.1) s.1.3

-- and is whole
pub bad_whole : (images : Images) (a b : ℕ) → IsDamagedPairAt images a → IsBadFrameAt images b → ⊥
bad_whole images a b damage (which, h, bodies, good, s, bad) = sound images.0 images.1 which h bodies a s damage

-- where a side is damaged it counts, and it is damaged at one place
pub damaged_ours : (images : Images) (at : ℕ) → IsNoCartridge images → IsDamagedPairAt images at → ⊥
damaged_ours images at none damage = none damage.0 damage.1 (flat_map frame damage.2 ++ damage.3) damage.5

pub damaged_once : (images : Images) (a b : ℕ) → IsDamagedPairAt images a → IsDamagedPairAt images b → a ≡ b
damaged_once images a b one two = one_place images.0 images.1 a b one two
