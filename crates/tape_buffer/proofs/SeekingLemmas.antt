-- Which of the changes that wait put an object.
use Rattle.std.proofs.Common.{◌≡◌, ◌≢◌, ◌≤◌, ◌<◌, ◌-◌, ◌++◌, ℕ, zero, suc, List, [], ◌∷◌, length, take, None, Some, refl, sym, ◌∙◌, ap, subst, arith, ⊎_elim, ◌⊎◌}
use Rattle.std.specs.Prelude.{slice_get}
use Rattle.std.proofs.lemmas.Bool.{cases_eq}
use Rattle.std.proofs.lemmas.Option.{slice_get_within}
use Rattle.volume_core.specs.declared.changes.Change.{Change}
use Rattle.volume_core.specs.declared.changes.Change.TheVariants.{Put}
use Rattle.volume_core.specs.declared.objects.Kind.TheVariants as Kinds
use Rattle.volume_core.specs.declared.objects.Object.{Object}
use Rattle.volume_core.specs.declared.objects.Object.TheVariants.{Block}
use Rattle.volume_core.specs.Volume.{AllApply, Part, added_by, after, block_at, block_in, changed, kind_at, kind_in, objects_of, part_of, refusal_of, staying_of}
use Rattle.tape_buffer.proofs.VolumeLemmas.{IsChanged, changes_so}
use Rattle.tape_buffer.specs.Inner.Seeking.{IsLastOf, SameAt}

-- the volume after the first changes and one more
after_one : (volume : List Part) (changes : List Change) (n : ℕ) (change : Change) → slice_get changes n ≡ Some change
    → after volume (take (suc n) changes) ≡ changed (after volume (take n changes)) change
after_one volume [] n change is = absurd (cc)
after_one volume (c ∷ cs) zero change is = ap (changed volume) (some_is c change is)
  where
    some_is : (a b : Change) → Some a ≡ Some b → a ≡ b
    some_is a b e = cc
after_one volume (c ∷ cs) (suc n) change is = after_one (changed volume c) cs n change is

-- it applies there
applies_one : (volume : List Part) (changes : List Change) (n : ℕ) (change : Change) → slice_get changes n ≡ Some change
    → AllApply volume changes → refusal_of (after volume (take n changes)) change ≡ None
applies_one volume [] n change is all = absurd (cc)
applies_one volume (c ∷ cs) zero change is all =
    subst (λ (x : Change). refusal_of volume x ≡ None) (some_is c change is) all.0
  where
    some_is : (a b : Change) → Some a ≡ Some b → a ≡ b
    some_is a b e = cc
applies_one volume (c ∷ cs) (suc n) change is all = applies_one (changed volume c) cs n change is all.1

-- what stands in the first of two lists, and in the second
get_first : (xs ys : List Object) (k at : ℕ) → at < k → k ≤ length xs
    → slice_get (take k xs ++ ys) at ≡ slice_get xs at
get_first xs ys zero at few long = absurd (omega (arith, few))
get_first [] ys (suc k) at few long = absurd (omega (arith, long))
get_first (x ∷ xs) ys (suc k) zero few long = refl
get_first (x ∷ xs) ys (suc k) (suc at) few long = get_first xs ys k at (omega (arith, few)) (omega (arith, long))

get_second : (xs ys : List Object) (k at : ℕ) → k ≤ at → k ≤ length xs
    → slice_get (take k xs ++ ys) at ≡ slice_get ys (at - k)
get_second xs ys zero at few long = ap (slice_get ys) (omega arith)
get_second [] ys (suc k) at few long = absurd (omega (arith, long))
get_second (x ∷ xs) ys (suc k) zero few long = absurd (omega (arith, few))
get_second (x ∷ xs) ys (suc k) (suc at) few long =
    get_second xs ys k at (omega (arith, few)) (omega (arith, long)) ∙ ap (slice_get ys) (omega arith)

module _ (volume : List Part) (changes : List Change) (number : ℕ) (change : Change) (part at : ℕ)
    (is : slice_get changes number ≡ Some change) (all : AllApply volume changes) where
  abbrev before : List Part
  before = after volume (take number changes)

  so : IsChanged before (changed before change) change
  so = changes_so before change (applies_one volume changes number change is all)

  -- a change of another partition, or behind the object, leaves it
  pub stays_at : (part ≢ part_of change) → SameAt volume changes part at (suc number)
      → SameAt volume changes part at number
  stays_at apart same =
      same ∙ ap (λ (v : List Part). slice_get (objects_of v part) at) (after_one volume changes number change is)
      ∙ ap (λ (l : List Object). slice_get l at) (so.others part apart)

  pub stays_behind : part ≡ part_of change → at < staying_of change → SameAt volume changes part at (suc number)
      → SameAt volume changes part at number
  stays_behind here behind same =
      same ∙ ap (λ (v : List Part). slice_get (objects_of v part) at) (after_one volume changes number change is)
      ∙ ap (λ (p : ℕ). slice_get (objects_of (changed before change) p) at) here
      ∙ ap (λ (l : List Object). slice_get l at) so.objects
      ∙ get_first (objects_of before (part_of change)) (added_by change) (staying_of change) at behind so.staying
      ∙ ap (λ (p : ℕ). slice_get (objects_of before p) at) (sym here)

  pub stands_there : part ≡ part_of change → staying_of change ≤ at → SameAt volume changes part at (suc number)
      → slice_get (objects_of (after volume changes) part) at ≡ slice_get (added_by change) (at - staying_of change)
  stands_there here ahead same =
      same ∙ ap (λ (v : List Part). slice_get (objects_of v part) at) (after_one volume changes number change is)
      ∙ ap (λ (p : ℕ). slice_get (objects_of (changed before change) p) at) here
      ∙ ap (λ (l : List Object). slice_get l at) so.objects
      ∙ get_second (objects_of before (part_of change)) (added_by change) (staying_of change) at ahead so.staying

  -- a change that does not reach the object leaves it
  pub stays_so : (part ≢ part_of change) ⊎ (at < staying_of change) → SameAt volume changes part at (suc number)
      → SameAt volume changes part at number
  stays_so not same =
      ⊎_elim (λ here. ⊎_elim (λ apart. stays_at apart same) (λ behind. stays_behind here behind same) not)
      (λ apart. stays_at apart same) (cases_eq part (part_of change))

-- the block of a change that put one
one_block : (block : List ℕ) (n : ℕ) → kind_in (slice_get (Block block ∷ []) n) ≡ Some Kinds.Block
    → block_in (slice_get (Block block ∷ []) n) ≡ Some block
one_block block zero is = refl
one_block block (suc n) is = absurd (cc)

module _ (volume : List Part) (changes : List Change) (part at number : ℕ)
    (last : IsLastOf volume changes part at (Some number))
    (block : kind_at (after volume changes) part at ≡ Some Kinds.Block) where
  pub last_inside : number < length changes
  last_inside = slice_get_within changes number last.0 last.1

  module _ (change : Change) (is : slice_get changes number ≡ Some change) where
    stands : slice_get (objects_of (after volume changes) part) at
        ≡ slice_get (added_by change) (at - staying_of change)
    stands =
        last.2
        ∙ ap (λ (c : Change). slice_get (added_by c) (at - staying_of c)) (some_is last.0 change (sym last.1 ∙ is))
      where
        some_is : (a b : Change) → Some a ≡ Some b → a ≡ b
        some_is a b e = cc

    kind : kind_in (slice_get (added_by change) (at - staying_of change)) ≡ Some Kinds.Block
    kind = sym (ap kind_in stands) ∙ block

    pub puts_block : (of staying : ℕ) (bytes : List ℕ) → change ≡ Put of staying bytes
        → block_at (after volume changes) part at ≡ Some bytes
    puts_block of staying bytes put =
        ap block_in (stands ∙ ap (λ (c : Change). slice_get (added_by c) (at - staying_of c)) put)
        ∙ one_block bytes (at - staying)
        (subst (λ (c : Change). kind_in (slice_get (added_by c) (at - staying_of c)) ≡ Some Kinds.Block) put kind)
