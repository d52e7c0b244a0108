-- The conditions of each nexus, joined with its set, place by place.
use Rattle.std.proofs.Common.{◌≡◌, ◌≢◌, ℕ, zero, suc, ◌<◌, ◌≤◌, ◌+◌, ◌-◌, List, [], ◌∷◌, Option, None, Some, length, take, get_or, slice_get, slice_set, set, map, option_map, refl, ap, sym, ◌∙◌, min, add-one, arith}
use Rattle.std.proofs.lemmas.Option.{slice_get-map}
use Rattle.scsi_attention.specs.declared.attention_sets.Attention.{Attention}
use Rattle.scsi_attention.specs.AttentionSets.{AttentionSet, union, with_attention}
use Rattle.scsi_attention.specs.Attentions.{established_by, established_for_all, established_for_others, put_back}

-- a place that was not reached yet has its old set
same_at : (sets established : List AttentionSet) (place : ℕ) (any : AttentionSet) → place < length established
    → get_or (established_by sets (take place established)) place any ≡ get_or sets place any
same_at sets [] place any h = absurd (omega arith)
same_at sets (more ∷ established) zero any h = refl
same_at [] (more ∷ established) (suc place) any h = refl
same_at (one ∷ sets) (more ∷ established) (suc place) any h = same_at sets established place any (omega arith)

set_here : (sets established : List AttentionSet) (place : ℕ) (any other : AttentionSet)
    → place < length sets → place < length established
    → set (established_by sets (take place established)) place
    (union (get_or sets place any) (get_or established place other))
    ≡ established_by sets (take (suc place) established)
set_here sets [] place any other h k = absurd (omega arith)
set_here [] (more ∷ established) place any other h k = absurd (omega arith)
set_here (one ∷ sets) (more ∷ established) zero any other h k = refl
set_here (one ∷ sets) (more ∷ established) (suc place) any other h k =
    ap (λ (rest : List AttentionSet). union one more ∷ rest)
    (set_here sets established place any other (omega arith) (omega arith))

-- one more place is joined
pub set_more : (sets established now : List AttentionSet) (place : ℕ) (here more : AttentionSet)
    → place < length sets → place < length established → now ≡ established_by sets (take place established)
    → here ≡ get_or now place here → more ≡ get_or established place more
    → set now place (union here more) ≡ established_by sets (take (place + 1) established)
set_more sets established now place here more h k is at from =
    let before = established_by sets (take place established) in
    let was : here ≡ get_or sets place here =
    at ∙ ap (λ (xs : List AttentionSet). get_or xs place here) is ∙ same_at sets established place here k in
    ap (λ (xs : List AttentionSet). set xs place (union here more)) is
    ∙ ap (λ (x : AttentionSet). set before place (union x more)) was
    ∙ ap (λ (x : AttentionSet). set before place (union (get_or sets place here) x)) from
    ∙ set_here sets established place here more h k
    ∙ ap (λ (count : ℕ). established_by sets (take count established)) (sym (add-one place))

-- all places are joined
pub set_whole : (sets established : List AttentionSet) (count : ℕ) → min (length sets) (length established) ≤ count
    → established_by sets (take count established) ≡ established_by sets established
set_whole sets [] zero h = refl
set_whole sets [] (suc count) h = refl
set_whole [] (more ∷ established) zero h = refl
set_whole [] (more ∷ established) (suc count) h = refl
set_whole (one ∷ sets) (more ∷ established) zero h = absurd (omega arith)
set_whole (one ∷ sets) (more ∷ established) (suc count) h =
    ap (λ (rest : List AttentionSet). union one more ∷ rest) (set_whole sets established count (omega arith))

pub each_set : (sets established : List AttentionSet) (place : ℕ) (one more : AttentionSet)
    → slice_get sets place ≡ Some one → slice_get established place ≡ Some more
    → slice_get (established_by sets established) place ≡ Some (union one more)
each_set sets [] zero one more is from = cc
each_set sets [] (suc place) one more is from = cc
each_set [] (first ∷ established) zero one more is from = cc
each_set [] (first ∷ established) (suc place) one more is from = cc
each_set (was ∷ sets) (first ∷ established) zero one more is from = cc
each_set (was ∷ sets) (first ∷ established) (suc place) one more is from =
    each_set sets established place one more is from

pub others_stay : (sets established : List AttentionSet) (place : ℕ)
    → slice_get established place ≡ None → slice_get (established_by sets established) place ≡ slice_get sets place
others_stay sets [] place none = refl
others_stay [] (first ∷ established) place none = refl
others_stay (was ∷ sets) (first ∷ established) zero none = cc
others_stay (was ∷ sets) (first ∷ established) (suc place) none = others_stay sets established place none

pub none_lost : (sets established : List AttentionSet) → length (established_by sets established) ≡ length sets
none_lost sets [] = refl
none_lost [] (first ∷ established) = refl
none_lost (was ∷ sets) (first ∷ established) = omega (arith, none_lost sets established)

-- where one set is put back after all were joined, every other one is joined
set_but_one : (attention : Attention) (sets : List AttentionSet) (one place : ℕ) (own : AttentionSet) → place ≢ one
    → slice_get (slice_set (map (with_attention attention) sets) one own) place
    ≡ option_map (with_attention attention) (slice_get sets place)
set_but_one attention [] one place own other = refl
set_but_one attention (first ∷ sets) zero zero own other = absurd (other refl)
set_but_one attention (first ∷ sets) zero (suc place) own other = slice_get-map (with_attention attention) sets place
set_but_one attention (first ∷ sets) (suc one) zero own other = refl
set_but_one attention (first ∷ sets) (suc one) (suc place) own other =
    set_but_one attention sets one place own (λ same. other (ap suc same))

-- the one that is put back is there
put_back_there : (attention : Attention) (sets : List AttentionSet) (one : ℕ) (own : AttentionSet)
    → slice_get sets one ≡ Some own
    → slice_get (slice_set (map (with_attention attention) sets) one own) one ≡ Some own
put_back_there attention [] zero own is = cc
put_back_there attention [] (suc one) own is = cc
put_back_there attention (first ∷ sets) zero own is = refl
put_back_there attention (first ∷ sets) (suc one) own is = put_back_there attention sets one own is

others_get : (found : Option AttentionSet) (sets : List AttentionSet) (nexus place : ℕ) (attention : Attention)
    → place ≢ nexus - 1
    → slice_get (put_back found (established_for_all sets attention) nexus) place
    ≡ option_map (with_attention attention) (slice_get sets place)
others_get None sets nexus place attention other = slice_get-map (with_attention attention) sets place
others_get (Some own) sets nexus place attention other = set_but_one attention sets (nexus - 1) place own other

one_same : (found : Option AttentionSet) (sets : List AttentionSet) (nexus : ℕ) (attention : Attention)
    → slice_get sets (nexus - 1) ≡ found
    → slice_get (put_back found (established_for_all sets attention) nexus) (nexus - 1) ≡ slice_get sets (nexus - 1)
one_same None sets nexus attention is =
    slice_get-map (with_attention attention) sets (nexus - 1)
    ∙ ap (λ (set : Option AttentionSet). option_map (with_attention attention) set) is ∙ sym is
one_same (Some own) sets nexus attention is = put_back_there attention sets (nexus - 1) own is ∙ sym is

-- a condition is established for every nexus but one
pub each_other_gets : (sets : List AttentionSet) (nexus place : ℕ) (attention : Attention) → place ≢ nexus - 1
    → slice_get (established_for_others sets nexus attention) place
    ≡ option_map (with_attention attention) (slice_get sets place)
each_other_gets sets nexus place attention other =
    others_get (slice_get sets (nexus - 1)) sets nexus place attention other

-- and not for that one
pub the_one_gets_none : (sets : List AttentionSet) (nexus : ℕ) (attention : Attention)
    → slice_get (established_for_others sets nexus attention) (nexus - 1) ≡ slice_get sets (nexus - 1)
the_one_gets_none sets nexus attention = one_same (slice_get sets (nexus - 1)) sets nexus attention refl
