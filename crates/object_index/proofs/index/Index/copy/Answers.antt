use Rattle.std.proofs.Common.{◌≡◌, ◌<◌, ◌+◌, ◌++◌, ℕ, List, [], ◌∷◌, All, length, map, take, slice_index_or, sym, ◌∙◌, ap, subst, arith}
use Rattle.std.proofs.lemmas.Grind.{take_at_read}
use Rattle.std.proofs.lemmas.List.{map-append}
use Rattle.std.proofs.lemmas.List.Elements.{All-append, All-cons, All-nil}
use Rattle.volume_core.specs.Volume.{IsPart, Part}
use Rattle.object_index.specs.Places.{PlacedPart, blank, filled_part, outline, unreserved}
use Rattle.object_index.proofs.index.Index.copy.Goals as goal

-- the first partitions and one more
copied_more : (items so_far new : List PlacedPart) (i : ℕ) (part copy : PlacedPart) → i < length items
    → part ≡ slice_index_or items i part → so_far ≡ map unreserved (take i items) → new ≡ so_far ++ copy ∷ []
    → copy ≡ unreserved part → new ≡ map unreserved (take (i + 1) items)
copied_more items so_far new i part copy inside is before one same =
    one ∙ (λ k. before k ++ (same ∙ ap unreserved is) k ∷ [])
    ∙ sym (map-append unreserved (take i items) (slice_index_or items i part ∷ []))
    ∙ ap (map unreserved) (sym (take_at_read items i part inside).1)

-- each keeps its limits
limits_more : (so_far new : List PlacedPart) (copy : PlacedPart) → All IsPart (outline so_far)
    → new ≡ so_far ++ copy ∷ [] → IsPart (filled_part blank copy) → All IsPart (outline new)
limits_more so_far new copy before one limits =
    subst (All IsPart) (sym (ap outline one ∙ map-append (filled_part blank) so_far (copy ∷ [])))
    (All-append IsPart (outline so_far) (filled_part blank copy ∷ []) before
    (All-cons IsPart (filled_part blank copy) [] limits (All-nil IsPart)))

pub loop-partition-preserved : goal.loop-partition-preserved
loop-partition-preserved c =
    let inv = c.loop-partition.invariant in
    let push = c.push_reserved.ensures in
    record {
      so_far =
          copied_more c.deref-partition-items.result.now c.loop-partition.partitions.items
          c.push_reserved.new.self.items c.loop-partition.partition-index c.partition-item.result
          c.in_ok-copy.field-0 c.loop-partition-test.true c.partition-item.is inv.so_far push.items
          c.in_ok-copy.ensures.part;
      limits =
          limits_more c.loop-partition.partitions.items c.push_reserved.new.self.items c.in_ok-copy.field-0 inv.limits
          push.items c.in_ok-copy.ensures.limits;
      room = omega (arith, inv.room, push.len, push.capacity, c.loop-partition-test.true);
    }
