-- Each image has a result: the states of a store, or why it has none.
use Rattle.std.proofs.Common.{◌≡◌, ◌⊎◌, inl, inr, ℕ, List, [], ◌∷◌, ◌++◌, length, take, get_or, refl, sym, ◌∙◌, ap, subst, arith, append_assoc, length-append}
use Rattle.std.specs.List.{All}
use Rattle.std.proofs.Math.Seq.{get_or-append_seam}
use Rattle.std.proofs.lemmas.List.{append-nil, length-map, take_at}
use Rattle.std.proofs.lemmas.List.Elements.{All-nil, All-push}
use Rattle.gate_journal.specs.declared.header.SideKind.{SideKind}
use Rattle.gate_journal.specs.declared.header.SideKind.TheVariants.{Cartridge, Store}
use Rattle.gate_journal.specs.Side.{BeginsAs, Front, Heading, IsDamagedAt, StandsFor, plain, spell}
use Rattle.gate_journal.specs.Inner.Fronts.{store_is_plain}
use Rattle.gate_journal.specs.Inner.Sides.{decided}
use Rattle.pr_core.specs.declared.states.PrState.{PrState}
use Rattle.aptpl_store.specs.Contents.{IsStoreAnswered, IsBadState, state_bodies}
use Rattle.aptpl_store.specs.Spelling.{IsSavable, SpellsState, spell_state}
use Rattle.aptpl_store.proofs.ContentsLemmas.{bodies_more}
use Rattle.aptpl_store.proofs.DecidingLemmas.{spelled_or_not}
use Rattle.aptpl_store.proofs.UniqueLemmas.{begins_so, damaged_begins}

-- the bodies spell states, or there is a first one that does not (own)
abbrev Found : Heading → List (List ℕ) → Type 0
Found h bodies =
    ((states : List PrState) × All IsSavable states × (state_bodies states ≡ bodies))
    ⊎ ((good : List PrState) × (at : ℕ) × IsBadState h bodies good at)

-- a body that spells no state, after some that do
bad_here : (h : Heading) → h.kind ≡ Store → (bodies : List (List ℕ)) (good : List PrState) (body : List ℕ)
    (rest : List (List ℕ)) → All IsSavable good → bodies ≡ state_bodies good ++ body ∷ rest
    → ((state : PrState) → SpellsState state body → ⊥) → Found h bodies
bad_here h kind bodies good body rest all split never =
    let counted : length (state_bodies good) ≡ length good = length-map good spell_state in
    let body_is : get_or bodies (length good) [] ≡ body =
    (λ i. get_or (split i) (sym counted i) []) ∙ get_or-append_seam (state_bodies good) body rest [] in
    inr (
      good,
      length (spell (plain h) (state_bodies good)),
      record {
        kind = kind;
        inside = omega (
          arith,
          counted,
          ap (λ (b : List (List ℕ)). length b) split,
          length-append (state_bodies good) (body ∷ rest),
        );
        before = all;
        spelled = sym (ap (take (length good)) split ∙ take_at (state_bodies good) (body ∷ rest) (length good) counted);
        gate = refl;
        bad = λ state spells. never state (subst (SpellsState state) body_is spells);
      },
    )

-- from good frames on through the other bodies
walked : (h : Heading) → h.kind ≡ Store → (bodies : List (List ℕ)) (good : List PrState) (rest : List (List ℕ))
    → All IsSavable good → bodies ≡ state_bodies good ++ rest → Found h bodies
walked h kind bodies good [] all split = inl (good, all, sym (split ∙ append-nil (state_bodies good)))
walked h kind bodies good (body ∷ rest) all split = elim (spelled_or_not body) [
  | inr never ↦ bad_here h kind bodies good body rest all split never
  | inl spells ↦
      walked h kind bodies (good ++ spells.0 ∷ []) rest (All-push IsSavable good spells.0 all spells.1.savable)
      (split ∙ ap (λ (b : List ℕ). state_bodies good ++ b ∷ rest) spells.1.bytes
      ∙ sym (append_assoc (state_bodies good) (spell_state spells.0 ∷ []) rest)
      ∙ ap (λ (b : List (List ℕ)). b ++ rest) (sym (bodies_more good spells.0)))
]

side_answered : (image : List ℕ) (f : Front) (bodies : List (List ℕ)) → StandsFor f bodies image
    → (kind : SideKind) → f.head.heading.kind ≡ kind → IsStoreAnswered image
side_answered image f bodies s Cartridge is =
    inr (inl (inr (subst (λ (k : SideKind). BeginsAs k image) is (begins_so image f bodies s))))
side_answered image f bodies s Store is =
    let h = f.head.heading in
    let front = store_is_plain f s.0.begins is in
    let there : StandsFor (plain h) bodies image = subst (λ (g : Front). StandsFor g bodies image) front s in
    elim (walked h is bodies [] bodies (All-nil IsSavable) refl) [
      | inl found ↦ inl (
        h,
        found.0,
        (is, found.1, subst (λ (b : List (List ℕ)). StandsFor (plain h) b image) (sym found.2) there),
      )
      | inr bad ↦ inr (inr (inr (bad.1, (h, bodies, bad.0, there, bad.2))))
    ]

damaged_answered : (image : List ℕ) (at : ℕ) (damage : IsDamagedAt image at) (kind : SideKind)
    → BeginsAs kind image → IsStoreAnswered image
damaged_answered image at damage Cartridge begins = inr (inl (inr begins))
damaged_answered image at damage Store begins = inr (inr (inl (at, (begins, damage))))

pub answered : (image : List ℕ) → IsStoreAnswered image
answered image = elim (decided image) [
  | inl side ↦ side_answered image side.0 side.1 side.2 side.0.head.heading.kind refl
  | inr (inl never) ↦ inr (inl (inl never))
  | inr (inr damage) ↦
      damaged_answered image damage.0 damage.1 damage.1.0.head.heading.kind (damaged_begins image damage.0 damage.1)
]
