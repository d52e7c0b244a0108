-- What a crash of a disk in memory leaves is an image that its log allows.
use Rattle.std.proofs.Common.{◌≡◌, ℕ, ◌-◌, List, [], ◌∷◌, length, take, replicate, refl, sym, subst, arith, length-append}
use Rattle.std.proofs.lemmas.List.{append-nil, length-take, length-replicate}
use Rattle.tape_disk.specs.Disk.{Smeared, overwritten}
use Rattle.tape_disk.specs.CallLog.{LoggedCall, Wrote, CutTo, Synced, IsImage, landed, unsynced_bytes, torn, smears}

length-landed : (n fill : ℕ) (bytes : List ℕ) → length (landed n fill bytes) ≡ length bytes
length-landed n fill bytes =
    let rest = replicate (length bytes - n) fill in
    omega (arith, length-append (take n bytes) rest, length-take n bytes, length-replicate (length bytes - n) fill)

pub is_allowed : (base : List ℕ) (keep fill : ℕ) (calls : List LoggedCall) →
    IsImage base calls (torn base keep fill calls)
is_allowed base keep fill [] = refl
is_allowed base keep fill (Wrote idle at bytes ∷ older) =
    let before = torn base keep fill older in
    let lands = landed (keep - unsynced_bytes older) fill bytes in
    let long = length-landed (keep - unsynced_bytes older) fill bytes in (
      before,
      is_allowed base keep fill older,
      subst (λ (n : ℕ). Smeared at n before (overwritten at lands before)) long (smears at lands before),
    )
is_allowed base keep fill (CutTo idle len ∷ older) =
    let before = torn base keep fill older in
    (before, is_allowed base keep fill older, ([], sym (append-nil (take len before))))
is_allowed base keep fill (Synced idle ∷ older) = refl
