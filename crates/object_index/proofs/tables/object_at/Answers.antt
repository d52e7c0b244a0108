use Rattle.std.proofs.Common.{◌≡◌, Some, arith, sym}
use Rattle.std.specs.Prelude.{slice_get, slice_index_or}
use Rattle.std.proofs.lemmas.Option.{slice_get-get_or}
use Rattle.object_index.specs.declared.tables.BlockEntry.{BlockEntry}
use Rattle.object_index.proofs.SplitLemmas.{block_here, mark_before_next, mark_behind_all}
use Rattle.object_index.proofs.tables.object_at.Goals as goal

pub returns-then-before-blocks : goal.returns-then-before-blocks
returns-then-before-blocks c =
    sym (mark_behind_all c.args.blocks.now c.args.count c.args.at c.blocks_before-before.result c.requires.table
    c.requires.within c.blocks_before-before.ensures.split c.blocks_before-before.ensures.within (omega arith)
    (omega arith) (omega arith))

pub returns-then-next-at : goal.returns-then-next-at
returns-then-next-at c =
    let blocks = c.args.blocks.now in
    let next = c.blocks_before-before.result in
    let none : BlockEntry = record { place = 0; cost = 0; number = 0; size = 0 } in
    let here : slice_get blocks next ≡ Some (slice_index_or blocks next none) =
    slice_get-get_or blocks next none (omega arith) in
    sym (mark_before_next blocks c.args.count c.args.at next c.requires.table
    c.requires.within c.blocks_before-before.ensures.split c.blocks_before-before.ensures.within (omega arith)
    (slice_index_or blocks next none) here (omega arith))

pub returns : goal.returns
returns c =
    let blocks = c.args.blocks.now in
    let next = c.blocks_before-before.result in
    let none : BlockEntry = record { place = 0; cost = 0; number = 0; size = 0 } in
    let here : slice_get blocks next ≡ Some (slice_index_or blocks next none) =
    slice_get-get_or blocks next none (omega arith) in
    sym (block_here blocks c.args.count c.args.at next c.requires.table
    c.requires.within c.blocks_before-before.ensures.split c.blocks_before-before.ensures.within (omega arith)
    (slice_index_or blocks next none) here (omega arith))
