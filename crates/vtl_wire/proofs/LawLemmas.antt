-- Lists of frames are told by their bytes.
use Rattle.std.proofs.Common.{◌≡◌, ℕ, List, [], ◌∷◌, ◌++◌, length, refl, sym, ap, ◌∙◌, arith, append_assoc}
use Rattle.std.specs.Prelude.{flat_map}
use Rattle.std.specs.List.{All}
use Rattle.std.proofs.lemmas.List.{append-nil}
use Rattle.std.proofs.lemmas.List.Elements.{All-head, All-tail}
use Rattle.vtl_wire.specs.Grammars.{BeginsWith, Grammar, NoneBeginsAnother, NoneRefused, OneList, OneRefused}

module _ {T : Type 0} (grammar : Grammar T) (one : NoneBeginsAnother grammar)
    (nothing : BeginsWith grammar [] → ⊥) where
  abbrev spell_all : List T → List ℕ
  spell_all frames = flat_map grammar.spell frames

  begins_first : (frame : T) (frames : List T) (x y : List ℕ) → grammar.has frame
      → spell_all (frame ∷ frames) ++ x ≡ y → BeginsWith grammar y
  begins_first frame frames x y ok same = (
    frame,
    spell_all frames ++ x,
    ok,
    sym same ∙ append_assoc (grammar.spell frame) (spell_all frames) x,
  )

  -- frames up to a rest that begins with none are one list, and the rest is one
  pub one_run : (frames others : List T) (x y : List ℕ) → All grammar.has frames → All grammar.has others
      → (BeginsWith grammar x → ⊥) → (BeginsWith grammar y → ⊥)
      → spell_all frames ++ x ≡ spell_all others ++ y → (frames ≡ others) × (x ≡ y)
  one_run [] [] x y all all' bad bad' same = (refl, same)
  one_run [] (o ∷ os) x y all all' bad bad' same =
      absurd (bad (begins_first o os y x (All-head grammar.has o os all') (sym same)))
  one_run (r ∷ rs) [] x y all all' bad bad' same =
      absurd (bad' (begins_first r rs x y (All-head grammar.has r rs all) same))
  one_run (r ∷ rs) (o ∷ os) x y all all' bad bad' same =
      let first = one r o (spell_all rs ++ x) (spell_all os ++ y) (All-head grammar.has r rs all)
      (All-head grammar.has o os all') (sym (append_assoc (grammar.spell r) (spell_all rs) x) ∙ same
      ∙ append_assoc (grammar.spell o) (spell_all os) y) in
      let rest = one_run rs os x y (All-tail grammar.has r rs all) (All-tail grammar.has o os all') bad bad' first.1 in
      ((λ i. first.0 i ∷ rest.0 i), rest.1)

  pub one_list : OneList grammar
  one_list bytes frames others spells spells' =
      (one_run frames others [] [] spells.0 spells'.0 nothing nothing
      (append-nil (spell_all frames) ∙ sym spells.1 ∙ spells'.1 ∙ sym (append-nil (spell_all others)))).0

  pub one_refused : OneRefused grammar
  one_refused bytes number other is is' =
      let run = one_run is.frames is'.frames is.rest is'.rest is.spelled is'.spelled is.bad is'.bad
      (sym is.begins ∙ is'.begins) in
      omega (arith, is.number_is, is'.number_is, ap length run.0)

  pub none_refused : NoneRefused grammar
  none_refused bytes frames number spells is =
      let run = one_run frames is.frames [] is.rest spells.0 is.spelled nothing is.bad
      (append-nil (spell_all frames) ∙ sym spells.1 ∙ is.begins) in
      is.some (sym run.1)
