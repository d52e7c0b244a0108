use Rattle.std.proofs.Common.{◌≡◌, List, [], ap, sym, subst, ◌∙◌, Option}
use Rattle.std.specs.Prelude.{IfSome}
use Rattle.volume_core.specs.Volume.{Part, after}
use Rattle.tape_disk.specs.TwoDisks.{AreHonest}
use Rattle.cartridge.specs.Contents.{volume_made}
use Rattle.test_known.proofs.VolumeLemmas.{volume_more}
use Rattle.test_known.proofs.beside.Known.store.Goals as goal

pub invariant_of-self-2 : goal.invariant_of-self-2
invariant_of-self-2 g c =
    let old = c.self.inside.cartridge in
    let changes = c.args.changes.now in
    let held = subst
    (λ (v : Option (List Part)). IfSome v (λ volume.
    (volume ≡ volume_made old.contents) × (old.torn ≡ []) × AreHonest g.D.Disk.state old.disks))
    (sym c.in-Some.ensures.value) c.self.invariant in
    let stored = c.in_ok-store_frame.ensures.ok in (
      c.in-Some-carried_out.ensures.apply.1 ∙ ap (λ (v : List Part). after v changes) held.0
          ∙ sym (volume_more old.contents changes) ∙ sym (ap volume_made stored.1),
      stored.0 ∙ held.1,
      c.in_ok-store_frame.ensures.honest held.2,
    )
