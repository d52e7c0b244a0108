use Rattle.std.proofs.Common.{◌≡◌, ◌+◌, ◌-◌, take, drop, ap, ◌∙◌, arith, rules}
use Rattle.std.proofs.lemmas.List.{with_items_is, places}
use Rattle.vtl_script.specs.Inner.Reading.{part, bytes_read}
use Rattle.vtl_script.proofs.ReadingLemmas.{brings_behind}
use Rattle.vtl_script.proofs.read_buffers.ReadBuffer.read.Goals as goal

pub returns-clause-brings : goal.returns-clause-brings
returns-clause-brings g c =
    let before = c.self.inside in
    let at = c.close_up-self-inside.result in
    let filled = at + (before.filled - before.start) in
    let roomed = c.make_room.new.buffer in
    let now = c.read_behind-outcome.new.buffer in
    let items_is = with_items_is roomed now (search (rules, places)) in
    let same : part at filled now ≡ c.args.self.now =
    ap (drop at) (c.read_behind-outcome.ensures.front ∙ ap (take filled) c.as_mut_slice.ensures.value
    ∙ c.make_room.ensures.front) ∙ c.close_up-self-inside.ensures.bytes
    ∙ c.self.view_is in
    rw (items_is, c.count.ensures)
    (brings_behind _ (g.R.Read.remaining c.read_behind-outcome.new.reader) at filled
    (bytes_read c.read_behind-outcome.result) c.args.self.now now same (omega arith)
    c.read_behind-outcome.ensures.within c.read_behind-outcome.ensures.taken)
