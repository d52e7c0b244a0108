-- A medium's answers, by what its cartridge answered.
use Rattle.std.specs.Prelude.{◌≡◌, ◌++◌, ◌≤◌, List, [], ◌∷◌, Some, Ok, length, take, drop, sum_by, refl}
use Rattle.std.proofs.Common.{sym, ◌∙◌, ap, arith}
use Rattle.std.proofs.lemmas.List.{append-nil, drop_all, take_all}
use Rattle.volume_core.specs.declared.changes.Change.{Change}
use Rattle.volume_core.specs.Volume.{after}
use Rattle.volume_core.specs.Medium.{Settles, frame_size}
use Rattle.volume_core.specs.Stores.{Stores}
use Rattle.cartridge.specs.Answers.{HasStored}
use Rattle.cartridge.specs.Contents.{Contents, volume_made}
use Rattle.cartridge.specs.Extending.{volume_more}
use Rattle.cartridge.specs.State.{OpenCartridge}
use Rattle.tape_buffer.specs.State.{open_state}
use Rattle.tape_buffer.specs.Frames.{with_pending}
use Rattle.tape_buffer.proofs.RoomLemmas.{one_frame_fits}

with_some : (frames : List (List Change)) (pending : List Change) → 1 ≤ length pending
    → with_pending frames pending ≡ frames ++ pending ∷ []
with_some frames [] some = absurd (omega (arith, some))
with_some frames (change ∷ changes) some = refl

module _ {D : Type 0} (c c' : OpenCartridge D) (pending : List Change) (some : 1 ≤ length pending)
    (stored : HasStored c pending c') where
  volume_is : volume_made c'.contents ≡ after (volume_made c.contents) pending
  volume_is = ap volume_made stored.contents ∙ volume_more c.contents pending

  pub frames_stored : c'.contents.frames ≡ with_pending c.contents.frames pending
  frames_stored =
      ap (λ (contents : Contents). contents.frames) stored.contents ∙ sym (with_some c.contents.frames pending some)

  pub settles_stored : Settles (open_state c pending) (Ok tt) (open_state c' [])
  settles_stored =
      (stored.was_fine, refl, record { volume_is = volume_is; works = stored.is_fine; awake = refl })

  pub stores_stored : Stores (open_state c pending) [] (open_state c' [])
  stores_stored =
      let all : take (length pending) (pending ++ []) ≡ pending =
      ap (take (length pending)) (append-nil pending) ∙ take_all (length pending) pending (omega arith) in
      record {
        count = length pending;
        fits = omega (arith, ap length (append-nil pending));
        stored = ap Some (volume_is ∙ ap (after (volume_made c.contents)) (sym all));
        pending =
            sym (ap (drop (length pending)) (append-nil pending) ∙ drop_all (length pending) pending (omega arith));
        room =
            omega (
              arith,
              stored.room,
              one_frame_fits pending some,
              ap (λ (l : List Change). sum_by frame_size l) all,
            );
      }
