-- Sets of nexuses and their members; rows of 64 entries.
use Rattle.std.proofs.Common.{◌≡◌, ◌≤◌, ◌<◌, ◌+◌, ◌-◌, ℕ, zero, suc, true, false, List, length, replicate, refl, arith, sym, ◌∙◌, ap, subst, inl, inr, sub-one, add-one, map}
use Rattle.std.proofs.Math.ListN.{get_or}
use Rattle.std.proofs.lemmas.List.{get_or-replicate, length-replicate, ext_get_or}
use Rattle.std.specs.List.{range_with_len}
use Rattle.std.proofs.lemmas.List.Folds.{list_any_at, Any-from_list_any}
use Rattle.std.proofs.lemmas.List.FromFn.{length-range_with_len, get_or-range_with_len, length-map-range_with_len, get_or-map-range_with_len}
use Rattle.std.proofs.lemmas.Bool.{cases_Bool, both_ways}
use Rattle.vtl_base.specs.declared.limits.TheConstants.{NEXUSES}
use Rattle.pr_core.specs.Sets.{Nexuses, IsNexus, Shows, is_some_in, row_at}

-- the entry of the row of all nexuses at a nexus's place is that nexus
at_place : (nexus : ℕ) → IsNexus nexus → 1 + (nexus - 1) ≡ nexus
at_place nexus is = omega arith

-- a set with this member is not empty
pub some_in : (set : Nexuses) (nexus : ℕ) → IsNexus nexus → set nexus ≡ true → is_some_in set ≡ true
unfolding is_some_in
some_in set nexus is member =
    let place : nexus - 1 < length (range_with_len 1 NEXUSES) =
    subst (λ (n : ℕ). nexus - 1 < n) (sym (length-range_with_len 1 NEXUSES)) (omega arith) in
    let entry = get_or-range_with_len 1 NEXUSES (nexus - 1) 0 (omega arith) ∙ at_place nexus is in
    list_any_at set (range_with_len 1 NEXUSES) (nexus - 1) 0 place (ap set entry ∙ member)

-- a set that is not empty has a member
pub who_in : (set : Nexuses) → is_some_in set ≡ true → (nexus : ℕ) × IsNexus nexus × (set nexus ≡ true)
unfolding is_some_in
who_in set some =
    let any = Any-from_list_any set (range_with_len 1 NEXUSES) some in
    let within : any.0 < NEXUSES =
    subst (λ (n : ℕ). any.0 < n) (length-range_with_len 1 NEXUSES) any.2 in
    let is : any.1 ≡ 1 + any.0 = sym any.3 ∙ get_or-range_with_len 1 NEXUSES any.0 any.1 within in
    (any.1, (omega arith, omega arith), any.4)

-- a set without members is empty
pub none_in : (set : Nexuses) → ((nexus : ℕ) → IsNexus nexus → set nexus ≡ false) → is_some_in set ≡ false
none_in set none =
    elim (cases_Bool (is_some_in set)) [
      | inl some ↦ let who = who_in set some in absurd (both_ways (set who.0) (none who.0 who.1) who.2)
      | inr nobody ↦ nobody
    ]

-- an empty set has no member
pub nobody_in :
    (set : Nexuses) → is_some_in set ≡ false → (nexus : ℕ) → IsNexus nexus → set nexus ≡ false
nobody_in set nobody nexus is =
    elim (cases_Bool (set nexus)) [
      | inl member ↦ absurd (both_ways (is_some_in set) nobody (some_in set nexus is member))
      | inr not_in ↦ not_in
    ]

-- the entry of a nexus in a row stands at the place before its number
pub row_at_is :
    {A : Type 0} (nothing : A) (row : List A) (nexus : ℕ) → 1 ≤ nexus
    → row_at nothing row nexus ≡ get_or row (nexus - 1) nothing
row_at_is nothing row zero is = absurd (omega arith)
row_at_is nothing row (suc place) is = rw sub-one refl

-- a row with the same entry for each nexus
pub replicate_shows : {A : Type 0} (nothing : A) → Shows nothing (replicate NEXUSES nothing) (λ nexus. nothing)
replicate_shows {A} nothing = record {
  all = length-replicate NEXUSES nothing;
  each = λ nexus is.
      row_at_is nothing (replicate NEXUSES nothing) nexus is.0
      ∙ get_or-replicate NEXUSES (nexus - 1) nothing nothing (omega arith);
}

-- the entry of the nexus after a place
row_at_next :
    {A : Type 0} (nothing : A) (row : List A) (place : ℕ) → row_at nothing row (place + 1) ≡ get_or row place nothing
row_at_next nothing row place = rw add-one refl

-- two rows that show the same map are the same
pub same_rows :
    {A : Type 0} (nothing : A) (one other : List A) (entries : ℕ → A)
    → Shows nothing one entries → Shows nothing other entries → one ≡ other
same_rows nothing one other entries first second =
    let long : length one ≡ NEXUSES = first.all in
    ext_get_or nothing one other (first.all ∙ sym second.all) (λ place within.
    let is : IsNexus (place + 1) = (omega arith, omega arith) in
    sym (row_at_next nothing one place)
    ∙ (first.each (place + 1) is ∙ (sym (second.each (place + 1) is) ∙ row_at_next nothing other place)))

-- a row that shows a map
pub row_shows :
    {A : Type 0} (nothing : A) (entries : ℕ → A) → Shows nothing (map entries (range_with_len 1 NEXUSES)) entries
row_shows nothing entries = record {
  all = length-map-range_with_len entries 1 NEXUSES;
  each = λ nexus is.
      row_at_is nothing (map entries (range_with_len 1 NEXUSES)) nexus is.0
      ∙ get_or-map-range_with_len entries 1 NEXUSES (nexus - 1) nexus nothing (omega arith) (at_place nexus is);
}
