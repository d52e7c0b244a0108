use Rattle.std.proofs.Common.{◌≡◌, ◌≤◌, ◌+◌, ℕ, List, ◌∷◌, sym, subst, ap, ◌∙◌, arith}
use Rattle.std.specs.Prelude.{sum_by}
use Rattle.std.specs.List.{All}
use Rattle.std.proofs.lemmas.List.Elements.{All-head, All-tail}
use Rattle.object_index.specs.Places.{PlacedPart}
use Rattle.volume_copy.specs.declared.entries.Entry.{Entry}
use Rattle.volume_copy.specs.declared.totals.Packed.{Packed}
use Rattle.vtl_base.specs.declared.limits.TheConstants.{COPY_BODY}
use Rattle.volume_copy.specs.Entries.{entries_from, entries_in, entry_size}
use Rattle.volume_copy.specs.EntryFacts.{part_begins}
use Rattle.volume_copy.specs.FrameFacts.{all_counted, frames_few, more_frames}
use Rattle.volume_copy.specs.Inner.Packed.{packed_with}
use Rattle.volume_copy.specs.SizeFacts.{FitsFrame, entries_few, entries_fit, entries_take}
use Rattle.volume_copy.proofs.PackedLemmas.{packed_on}
use Rattle.volume_copy.proofs.totals.Totals.of.Goals as goal

each : (entries : List Entry) → All FitsFrame entries → All (λ entry. 1 ≤ entry_size entry) entries
each entries fit = λ k d inside. (fit k d inside).0

none_before : (n : ℕ) → 0 + n ≡ n
none_before n = omega arith

-- the whole copy is left
whole : (parts : List PlacedPart) (part at : ℕ) → part ≡ 0 → at ≡ 0 → entries_from parts part at ≡ entries_in parts
whole parts part at first begins = (λ i. entries_from parts (first i) (begins i)) ∙ part_begins parts 0

pub loop-ahead-init : goal.loop-ahead-init
loop-ahead-init c =
    let parts = c.args.index.now in
    let start = c.start-cursor in
    let none = c.none-packed in
    let same = whole parts start.result.part start.result.at start.ensures.part start.ensures.at in
    record {
      frames =
          (λ i. none.ensures.frames i + more_frames entry_size (none.ensures.last i) (same i))
          ∙ none_before (more_frames entry_size COPY_BODY (entries_in parts));
      bytes = omega (arith, none.ensures.bytes, ap (sum_by entry_size) same);
      last = omega (arith, none.ensures.last);
      fit = subst (All FitsFrame) (sym same) (entries_fit parts c.parts.ensures.limits);
      few = entries_few parts c.parts.ensures.limits;
      bound = entries_take parts c.parts.ensures.limits;
    }

pub with-packed-requires-clause-frames : goal.with-packed-requires-clause-frames
with-packed-requires-clause-frames c =
    let inv = c.loop-ahead.invariant in
    omega (arith, inv.frames, inv.few, frames_few entry_size COPY_BODY (entries_in c.args.index.now))

pub loop-ahead-preserved : goal.loop-ahead-preserved
loop-ahead-preserved c =
    let parts = c.args.index.now in
    let inv = c.loop-ahead.invariant in
    let packed = c.loop-ahead.packed in
    let entry = c.in-Some.ahead.entry in
    let behind = entries_from parts c.in-Some.ahead.behind.part c.in-Some.ahead.behind.at in
    let next : entries_from parts c.loop-ahead.cursor.part c.loop-ahead.cursor.at ≡ entry ∷ behind =
    c.in-Some.ensures.some in
    let fit : All FitsFrame (entry ∷ behind) = subst (All FitsFrame) next inv.fit in
    let on = packed_on entry_size packed entry behind (All-head FitsFrame entry behind fit).1 in
    let is : c.with-packed.result ≡ packed_with packed (entry_size entry) =
    c.with-packed.ensures ∙ ap (packed_with packed) c.size.ensures in
    let before = ap (more_frames entry_size packed.last) next in
    let bytes = ap (sum_by entry_size) next in
    record {
      frames =
          (λ i. (is i).frames + more_frames entry_size (is i).last behind)
          ∙ on.0
          ∙ ap (λ (n : ℕ). packed.frames + n) (sym before)
          ∙ inv.frames;
      bytes =
          ap (λ (p : Packed). p.bytes + sum_by entry_size behind) is
          ∙ on.1
          ∙ ap (λ (n : ℕ). packed.bytes + n) (sym bytes)
          ∙ inv.bytes;
      last = subst (λ (n : ℕ). n ≤ COPY_BODY) (ap (λ (p : Packed). p.last) (sym is)) on.2;
      fit = All-tail FitsFrame entry behind fit;
      few = inv.few;
      bound = inv.bound;
    }

pub returns-clause-frames : goal.returns-clause-frames
returns-clause-frames c =
    let parts = c.args.index.now in
    let inv = c.loop-ahead.invariant in
    let none = c.in_default.ensures.none in
    let limits = c.parts.ensures.limits in
    let counted = all_counted entry_size (entries_in parts) (each (entries_in parts) (entries_fit parts limits)) in
    omega (arith, inv.frames, ap (more_frames entry_size c.loop-ahead.packed.last) none, counted)

pub returns-clause-few : goal.returns-clause-few
returns-clause-few c =
    let inv = c.loop-ahead.invariant in
    omega (arith, inv.frames, inv.few, frames_few entry_size COPY_BODY (entries_in c.args.index.now))
