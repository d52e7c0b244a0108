-- Bytes that are read in so many as are wanted.
use Rattle.std.proofs.Common.{◌≡◌, ℕ, ◌+◌, ◌<◌, ◌≤◌, List, ◌++◌, length, take, drop, Option, sym, subst, arith, length-append, length-take}
use Rattle.std.proofs.KnownBytes.{Consumes-nil, Consumes-trans}
use Rattle.std.proofs.Math.Seq.{take-add}
use Rattle.std.specs.Io.KnownBytes.{Consumes, IsAtEnd}
use Rattle.vtl_wire.specs.Inner.Reading.{EndsWithin, TakesFewer}

-- the first bytes of a slice were read
pub record IsFilled (left left' : Option (List ℕ)) (slice : List ℕ) (filled : ℕ) : Type 0 where
  pub within : filled ≤ length slice
  pub taken : Consumes left left' (take filled slice)

pub filled_none : (known : Option (List ℕ)) (slice : List ℕ) → IsFilled known known slice 0
filled_none known slice = record { within = omega arith; taken = Consumes-nil known }

pub filled_more : (left mid left' : Option (List ℕ)) (old new : List ℕ) (filled count : ℕ)
    → IsFilled left mid old filled → take filled new ≡ take filled old → filled + count ≤ length new
    → Consumes mid left' (take count (drop filled new)) → IsFilled left left' new (filled + count)
filled_more left mid left' old new filled count so same within more = record {
  within = within;
  taken =
      subst (Consumes left left') (sym (take-add filled count new))
      (Consumes-trans left mid left' (take filled new) (take count (drop filled new))
      (subst (Consumes left mid) (sym same) so.taken) more);
}

-- none came
pub filled_same : (left mid left' : Option (List ℕ)) (old new : List ℕ) (filled : ℕ)
    → IsFilled left mid old filled → take filled new ≡ take filled old → filled + 0 ≤ length new
    → Consumes mid left' (take 0 (drop filled new)) → IsFilled left left' new filled
filled_same left mid left' old new filled so same within none =
    let same_place : filled + 0 ≡ filled = omega arith in
    subst (IsFilled left left' new) same_place (filled_more left mid left' old new filled 0 so same within none)

-- the input ended within the bytes of a slice
pub ends_filled : (left left' : Option (List ℕ)) (slice : List ℕ) (count : ℕ)
    → Consumes left left' (take count slice) → count < length slice → IsAtEnd left'
    → length (take count slice) ≡ count → EndsWithin left left' (length slice)
ends_filled left left' slice count taken short ended long =
    record { read = take count slice; taken = taken; short = omega (arith, short, long); ended = ended }

-- and so within more
pub ends_sooner : (left left' : Option (List ℕ)) (few many : ℕ) → EndsWithin left left' few → few ≤ many
    → EndsWithin left left' many
ends_sooner left left' few many ends order =
    record { read = ends.read; taken = ends.taken; short = omega (arith, ends.short, order); ended = ends.ended }

-- what was read before is counted too
pub ends_later : (left mid left' : Option (List ℕ)) (first : List ℕ) (count : ℕ) → Consumes left mid first
    → EndsWithin mid left' count → EndsWithin left left' (length first + count)
ends_later left mid left' first count taken ends = record {
  read = first ++ ends.read;
  taken = Consumes-trans left mid left' first ends.read taken ends.taken;
  short = omega (arith, ends.short, length-append first ends.read);
  ended = ends.ended;
}

-- a read failed within the bytes of a slice
pub fewer_filled : (left mid left' : Option (List ℕ)) (old new : List ℕ) (filled : ℕ)
    → IsFilled left mid old filled → filled < length new → take filled new ≡ take filled old
    → Consumes mid left' (take 0 (drop filled new)) → TakesFewer left left' (length new)
fewer_filled left mid left' old new filled so short same none =
    let kept = filled_same left mid left' old new filled so same (omega (arith, short)) none in
    (take filled new, omega (arith, short, length-take filled new), kept.taken)

-- what was read before is counted too
pub fewer_later : (left mid left' : Option (List ℕ)) (first : List ℕ) (count : ℕ) → Consumes left mid first
    → TakesFewer mid left' count → TakesFewer left left' (length first + count)
fewer_later left mid left' first count taken more = (
  first ++ more.0,
  omega (arith, more.1, length-append first more.0),
  Consumes-trans left mid left' first more.0 taken more.2,
)
