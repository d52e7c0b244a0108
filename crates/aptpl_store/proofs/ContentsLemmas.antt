-- What is on a store's side, with one more state.
use Rattle.std.proofs.Common.{◌≡◌, inl, inr, ℕ, List, [], ◌∷◌, ◌++◌, false, Option, None, Some, is_some, refl, sym, ◌∙◌, ap, subst}
use Rattle.std.specs.Prelude.{option_to_list, unwrap_or}
use Rattle.std.specs.List.{All}
use Rattle.std.proofs.lemmas.List.{append-nil, map-append}
use Rattle.std.proofs.lemmas.List.Elements.{All-push}
use Rattle.gate_journal.specs.declared.header.SideKind.TheVariants.{Store}
use Rattle.gate_journal.specs.Crash.{WithOrWithout}
use Rattle.gate_journal.specs.Side.{Heading, StandsFor, plain}
use Rattle.pr_core.specs.declared.states.PrState.{PrState}
use Rattle.pr_core.specs.Keepers.{last_saved}
use Rattle.pr_core.specs.States.{empty_state, power_loss}
use Rattle.aptpl_store.specs.Contents.{GivesStates, OpensAsEither, ShowsStates, state_bodies, latest}
use Rattle.aptpl_store.specs.Spelling.{IsSavable, spell_state}

-- the last of states with one more is that one
last_more : (first : PrState) (states : List PrState) (state : PrState)
    → last_saved first (states ++ state ∷ []) ≡ state
last_more first [] state = refl
last_more first (next ∷ later) state = last_more next later state

pub latest_more : (states : List PrState) (state : PrState) → latest (states ++ state ∷ []) ≡ state
latest_more states state = last_more empty_state states state

pub bodies_more : (states : List PrState) (state : PrState)
    → state_bodies (states ++ state ∷ []) ≡ state_bodies states ++ spell_state state ∷ []
bodies_more states state = map-append spell_state states (state ∷ [])

-- no save is in doubt
pub none_torn : (torn : Option PrState) → is_some torn ≡ false → torn ≡ None
none_torn None none = refl
none_torn (Some state) none = absurd (cc)

-- an image that shows states opens as what a loss of power leaves of the last, or of the one in doubt
pub opens_either : (heading : Heading) (states : List PrState) (torn : Option PrState) (image : List ℕ)
    → ShowsStates heading states torn image
    → OpensAsEither heading (latest states) (unwrap_or torn (latest states)) image
opens_either heading states torn image (inl gives) = inl (states, gives, refl)
opens_either heading states None image (inr gives) =
    inl (states, subst (λ (l : List PrState). GivesStates heading l image) (append-nil states) gives, refl)
opens_either heading states (Some state) image (inr gives) =
    inr (states ++ state ∷ [], gives, ap power_loss (sym (latest_more states state)))

-- with none in doubt it gives the states
pub sure_at_rest : (heading : Heading) (states : List PrState) (torn : Option PrState) (image : List ℕ) → torn ≡ None
    → ShowsStates heading states torn image → GivesStates heading states image
sure_at_rest heading states torn image none (inl gives) = gives
sure_at_rest heading states torn image none (inr gives) =
    subst (λ (l : List PrState). GivesStates heading l image)
    (ap (λ (t : Option PrState). states ++ option_to_list t) none ∙ append-nil states) gives

module _ (heading : Heading) (kind : heading.kind ≡ Store) (states : List PrState) (all : All IsSavable states)
    (state : PrState) (savable : IsSavable state) (bodies : List (List ℕ)) (bodies_are : bodies ≡ state_bodies states)
    (body : List ℕ) (body_is : body ≡ spell_state state) where
  pub with_body : bodies ++ body ∷ [] ≡ state_bodies (states ++ state ∷ [])
  with_body = (λ i. bodies_are i ++ body_is i ∷ []) ∙ sym (bodies_more states state)

  -- an image with the body gives the states with one more
  pub gives_more : (image : List ℕ) → StandsFor (plain heading) (bodies ++ body ∷ []) image
      → GivesStates heading (states ++ state ∷ []) image
  gives_more image stands = (
    kind,
    All-push IsSavable states state all savable,
    subst (λ (b : List (List ℕ)). StandsFor (plain heading) b image) with_body stands,
  )

  -- with or without the body it shows the former or the latter
  pub shows_more : (image : List ℕ) → WithOrWithout (plain heading) bodies body image
      → ShowsStates heading states (Some state) image
  shows_more image (inl stands) =
      inl (kind, all, subst (λ (b : List (List ℕ)). StandsFor (plain heading) b image) bodies_are stands)
  shows_more image (inr stands) = inr (gives_more image stands)
