use Rattle.std.proofs.Common.{◌≡◌, ◌<◌, ap, ◌∙◌, map, ◌++◌, ◌∷◌, [], arith}
use Rattle.std.proofs.lemmas.List.{map_push}
use Rattle.tape_disk.specs.CallLog.{LoggedCall, Wrote}
use Rattle.tape_disk.specs.Log.{logged_call}
use Rattle.tape_disk.proofs.Replays.{writes_safe, writes_torn}
use Rattle.tape_disk.proofs.log.Log.torn.Goals.{then-syncs-eq0, else-syncs-eq0}
use Rattle.tape_disk.proofs.log.Log.torn.Goals as goal

pub loop-call-preserved-in-Wrote : goal.loop-call-preserved-in-Wrote
loop-call-preserved-in-Wrote c =
    let rest = c.pop_back.new.self in
    let write = Wrote c.in-Wrote.idle.value c.in-Wrote.at c.in-Wrote.bytes.items in
    let split : map logged_call c.loop-call.calls ≡ map logged_call rest ++ write ∷ []
    = ap (map logged_call) c.in-Some.ensures.items
    ∙ map_push logged_call rest c.in-Some.call
    ∙ ap (λ (e : LoggedCall). map logged_call rest ++ e ∷ []) (ap logged_call c.in-Wrote.is) in
    let run = rw split at c.loop-call.invariant.1 in
    let here = c.in_ok-overwrite-in-Wrote.ensures.ok in
    elim c.if-syncs-eq0.branch [
      | then-syncs-eq0 w ↦
          let lands : c.deref.result.now ≡ w.land.new.bytes.items = cc (c.deref.ensures.value, w.bytes-is) in
          let part = lands ∙ w.land.ensures.bytes in
          let fewer = w.left-is ∙ w.land.ensures.left in (
            write ∷ c.loop-call.invariant.0,
            writes_torn _ _ _ _ _ _ _ _ _ _ _ _ _ _ _ here run w.if-syncs-eq0.true part fewer,
          )
      | else-syncs-eq0 w ↦
          let lands : c.deref.result.now ≡ c.in-Wrote.bytes.items = cc (c.deref.ensures.value, w.bytes-is) in
          let some : 0 < c.loop-call.syncs = omega (arith, w.if-syncs-eq0.false) in
          (write ∷ c.loop-call.invariant.0, writes_safe _ _ _ _ _ _ _ _ _ _ _ _ _ _ _ here run some lands w.left-is)
    ]
