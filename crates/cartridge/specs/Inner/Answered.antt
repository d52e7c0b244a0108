-- Each pair of images has an answer: the contents of a cartridge, or why it has none.
use Rattle.std.proofs.Common.{◌≡◌, ◌⊎◌, inl, inr, ℕ, ◌≤◌, List, [], ◌∷◌, ◌++◌, length, take, get_or, refl, sym, ◌∙◌, ap, subst, arith, append_assoc, length-append, Option, None, Some}
use Rattle.std.specs.List.{All, flat_map}
use Rattle.std.proofs.lemmas.Grind.{flat_map-append}
use Rattle.std.proofs.lemmas.List.Elements.{All-append, All-cons, All-nil}
use Rattle.std.proofs.Math.Seq.{get_or-append_seam}
use Rattle.std.proofs.lemmas.List.{append-nil, length-map, map-append, take_at}
use Rattle.volume_core.specs.declared.changes.Change.{Change}
use Rattle.volume_core.specs.declared.changes.Refusal.{Refusal}
use Rattle.volume_core.specs.Plain.{moves_on_by_changes}
use Rattle.volume_core.specs.Volume.{AllApply, Part, after, changed, empty_volume, refusal_of}
use Rattle.tape_disk.specs.TwoDisks.{Images}
use Rattle.gate_journal.specs.Heads.{Head, base_of}
use Rattle.gate_journal.specs.Side.{frame}
use Rattle.cartridge_sides.specs.declared.which.Which.{Which}
use Rattle.cartridge_sides.specs.declared.which.Which.TheVariants.{First, Second}
use Rattle.cartridge_sides.specs.Pairs.{IsOfCartridge, PairStandsFor, SideCounts, gate_behind}
use Rattle.cartridge_sides.specs.Inner.Decided.{decided as decided_pair}
use Rattle.change_records.specs.Records.{IsRecord, spell_all}
use Rattle.change_records.specs.Inner.Decided.{never_both, same_list}
use Rattle.change_records.specs.Inner.Decided.{decided as decided_list}
use Rattle.cartridge.specs.Contents.{AreGood, IsAnswered, IsBadFrame, IsContents, bodies_of, changes_of, contents_from}

-- whether changes apply can be found out
applying : (volume : List Part) (changes : List Change)
    → AllApply volume changes ⊎ (AllApply volume changes → ⊥)
applying volume [] = inl tt
applying volume (change ∷ changes) = by (refusal_of volume change) refl (applying (changed volume change) changes)
  where
    by : (refusal : Option Refusal) → refusal_of volume change ≡ refusal
        → AllApply (changed volume change) changes ⊎ (AllApply (changed volume change) changes → ⊥)
        → AllApply volume (change ∷ changes) ⊎ (AllApply volume (change ∷ changes) → ⊥)
    by None none (inl rest) = inl (none, rest)
    by None none (inr never) = inr (λ all. never all.1)
    by (Some cause) some rest = inr (λ all. let e : Some cause ≡ None = sym some ∙ all.0 in cc)

-- one good frame more
good_more : (capacities : List ℕ) (good : List (List Change)) (changes : List Change) → AreGood capacities good
    → All IsRecord changes → AllApply (after (empty_volume capacities) (changes_of good)) changes
    → AreGood capacities (good ++ changes ∷ [])
good_more capacities good changes is records apply = record {
  records =
      All-append (All IsRecord) good (changes ∷ []) is.records
      (All-cons (All IsRecord) changes [] records (All-nil (All IsRecord)));
  apply =
      subst (AllApply (empty_volume capacities))
      (sym (flat_map-append (λ (frame : List Change). frame) good (changes ∷ [])
      ∙ ap (λ (l : List Change). changes_of good ++ l) (append-nil changes)))
      (moves_on_by_changes (empty_volume capacities) (after (empty_volume capacities) (changes_of good))
      (after (after (empty_volume capacities) (changes_of good)) changes) (changes_of good) changes (is.apply, refl)
      (apply, refl)).0;
}

-- the bodies spell changes that apply, or there is a first one that does not (own)
abbrev Found : Head → List (List ℕ) → Type 0
Found h bodies =
    ((frames : List (List Change)) × AreGood h.heading.capacities frames × (bodies_of frames ≡ bodies))
    ⊎ ((good : List (List Change)) × (at : ℕ) × IsBadFrame h bodies good at)

-- a body that spells no changes that apply, behind frames that are good
module _ (h : Head) (bodies : List (List ℕ)) (good : List (List Change)) (body : List ℕ) (rest : List (List ℕ))
    (is : AreGood h.heading.capacities good) (split : bodies ≡ bodies_of good ++ body ∷ rest) where
  counted : length (bodies_of good) ≡ length good
  counted = length-map good spell_all

  body_is : get_or bodies (length good) [] ≡ body
  body_is =
      (λ i. get_or (split i) (sym counted i) []) ∙ get_or-append_seam (bodies_of good) body rest []

  bad_here : ((changes : List Change) → All IsRecord changes → body ≡ spell_all changes
      → AllApply (after (empty_volume h.heading.capacities) (changes_of good)) changes → ⊥) → Found h bodies
  bad_here never = inr (
    good,
    gate_behind h (bodies_of good),
    record {
      inside = omega (
        arith,
        counted,
        ap (λ (b : List (List ℕ)). length b) split,
        length-append (bodies_of good) (body ∷
            rest),
      );
      before = is;
      spelled = sym (ap (take (length good)) split ∙ take_at (bodies_of good) (body ∷ rest) (length good) counted);
      gate = refl;
      bad = λ changes records same apply. never changes records (sym body_is ∙ same) apply;
    },
  )

-- from good frames on through the bodies that are left
walked : (h : Head) (bodies : List (List ℕ)) (good : List (List Change)) (rest : List (List ℕ))
    → AreGood h.heading.capacities good → bodies ≡ bodies_of good ++ rest → Found h bodies
walked h bodies good [] is split = inl (good, is, sym (split ∙ append-nil (bodies_of good)))
walked h bodies good (body ∷ rest) is split = elim (decided_list body) [
  | inr bad ↦
      bad_here h bodies good body rest is split (λ changes records same apply.
      never_both body changes bad.0 (records, same) bad.1)
  | inl list ↦ elim (applying (after (empty_volume h.heading.capacities) (changes_of good)) list.0) [
    | inr never ↦
        bad_here h bodies good body rest is split (λ changes records same apply.
        never (subst (AllApply (after (empty_volume h.heading.capacities) (changes_of good)))
        (same_list body changes list.0 (records, same) list.1) apply))
    | inl apply ↦
        walked h bodies (good ++ list.0 ∷ []) rest (good_more h.heading.capacities good list.0 is list.1.0 apply)
        (split ∙ ap (λ (b : List ℕ). bodies_of good ++ b ∷ rest) list.1.1
        ∙ sym (append_assoc (bodies_of good) (spell_all list.0 ∷ []) rest)
        ∙ ap (λ (b : List (List ℕ)). b ++ rest) (sym (map-append spell_all good (list.0 ∷ []))))
  ]
]

-- frames that are good are contents, where they are no fewer than the base
pub good_contents : (which : Which) (h : Head) (frames : List (List Change)) → IsOfCartridge h
    → AreGood h.heading.capacities frames → base_of h ≤ length (bodies_of frames)
    → IsContents (contents_from which h frames)
good_contents which h frames ours is enough = record {
  kind = ours.kind;
  spelled = ours.spelled;
  base = refl;
  records = is.records;
  apply = is.apply;
  copied = omega (arith, enough, length-map frames spell_all);
}

-- a side that counts has the head of a cartridge's side
pub counts_of_cartridge : (which : Which) (h : Head) (rest first second : List ℕ)
    → SideCounts which h rest first second → IsOfCartridge h
counts_of_cartridge First h rest first second (pair, side, beside) = side.head_is
counts_of_cartridge Second h rest first second (pair, shut, side, yields) = side.head_is

side_answered : (images : Images) (which : Which) (h : Head) (bodies : List (List ℕ))
    → PairStandsFor which h bodies images.0 images.1 → IsAnswered images
side_answered images which h bodies s =
    elim (walked h bodies [] bodies (record { records = All-nil (All IsRecord); apply = tt }) refl) [
      | inl found ↦
          let same : PairStandsFor which h (bodies_of found.0) images.0 images.1 =
          subst (λ (b : List (List ℕ)). PairStandsFor which h b images.0 images.1) (sym found.2) s in
          inl (
            contents_from which h found.0,
            (
              good_contents which h found.0
                  (counts_of_cartridge which h (flat_map frame bodies ++ s.1.0 ∷ s.1.1) images.0 images.1 s.1.3)
                  found.1 same.0.base,
              same,
            ),
          )
      | inr bad ↦ inr (inr (inr (bad.1, (which, h, bodies, bad.0, s, bad.2))))
    ]

pub answered : (images : Images) → IsAnswered images
answered images = elim (decided_pair images.0 images.1) [
  | inl side ↦ side_answered images side.0 side.1 side.2 side.3
  | inr (inl never) ↦ inr (inl never)
  | inr (inr damage) ↦ inr (inr (inl damage))
]
