-- Extents of bodies, which lie before the end.
use Rattle.std.proofs.Common.{◌≡◌, ℕ, suc, ◌+◌, ◌<◌, ◌≤◌, List, [], ◌∷◌, ◌++◌, length, get_or, refl, ap, sym, ◌∙◌, arith}
use Rattle.std.specs.List.{All}
use Rattle.std.proofs.lemmas.List.{get_or_default}
use Rattle.std.proofs.lemmas.List.Elements.{All-push, All-weaker, All-same, All-nil}
use Rattle.gate_journal.specs.State.{IsExtent, LiesInBody, extents_from}

pub further : (end end' : ℕ) → end ≤ end' → (extents : List (ℕ × ℕ)) → All (IsExtent end) extents →
    All (IsExtent end') extents
further end end' more extents all =
    All-weaker (IsExtent end) (IsExtent end')
    (λ place is. record { gate = is.gate; some = is.some; short = is.short; within = omega (arith, is.within, more) })
    extents all

pub one_more : (end size end' : ℕ) (extents extents' : List (ℕ × ℕ)) → All (IsExtent end) extents →
    extents' ≡ extents ++ (end + 5, size) ∷ [] → 1 ≤ size → size ≤ 8388608 → end' ≡ end + 5 + size →
    All (IsExtent end') extents'
one_more end size end' extents extents' all is some short far =
    All-same (IsExtent end') extents' (extents ++ (end + 5, size) ∷ []) is
    (All-push (IsExtent end') extents (end + 5, size) (further end end' (omega (arith, far)) extents all)
    (record { gate = omega arith; some = some; short = short; within = omega (arith, far) }))

pub none_yet : (end : ℕ) (extents : List (ℕ × ℕ)) → extents ≡ [] → All (IsExtent end) extents
none_yet end extents none = All-same (IsExtent end) extents [] none (All-nil (IsExtent end))

pub whole_body : (extents : List (ℕ × ℕ)) (i : ℕ) (place : ℕ × ℕ) → i < length extents →
    place ≡ get_or extents i place → LiesInBody extents place.0 place.1
whole_body extents i place inside is =
    let same : get_or extents i (0, 0) ≡ place = get_or_default extents i (0, 0) place inside ∙ sym is in
    let at : (get_or extents i (0, 0)).0 ≡ place.0 = ap (λ (p : ℕ × ℕ). p.0) same in
    let size : (get_or extents i (0, 0)).1 ≡ place.1 = ap (λ (p : ℕ × ℕ). p.1) same in
    (i, inside, omega (arith, at), omega (arith, at, size))

-- there is an extent for each body
pub extents_count : (at : ℕ) (bodies : List (List ℕ)) → length (extents_from at bodies) ≡ length bodies
extents_count at [] = refl
extents_count at (body ∷ bodies) = ap suc (extents_count (at + 5 + length body) bodies)
