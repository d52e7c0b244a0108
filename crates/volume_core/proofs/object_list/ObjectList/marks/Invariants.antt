use Rattle.std.proofs.Common.{◌≡◌, ◌+◌, ◌-◌, ◌≤◌, ◌++◌, take, replicate, vec_len, vec_capacity}
use Rattle.volume_core.specs.declared.objects.Object.TheVariants.{Mark}
use Rattle.volume_core.specs.Volume.{used_of}
use Rattle.volume_core.specs.Inner.ObjectList.{IsTally}
use Rattle.volume_core.proofs.object_list.ObjectList.marks.Given as goal

-- the marks so far, what they take, and room for the others
abbrev pub invariant-loop : goal.invariant-loop
invariant-loop l = record {
  so_far : l.self-inside.objects.items ≡ take l.at l.fn.self ++ replicate l.counter Mark;
  tally : IsTally l.self-inside.objects.items l.self-inside.costs.items;
  taken : l.cost ≡ used_of l.self-inside.objects.items;
  room : vec_len l.self-inside.objects + (l.added - l.counter) ≤ vec_capacity l.self-inside.objects;
  cost_room : vec_len l.self-inside.costs + (l.added - l.counter) ≤ vec_capacity l.self-inside.costs;
}
