-- The invariant of an open store.
use Rattle.std.specs.Prelude.{◌≡◌, ◌≤◌, ℕ, List, length, Bool, is_some}
use Rattle.std.specs.List.{All}
use Rattle.tape_disk.specs.Disk.{DiskState, Each}
use Rattle.gate_journal.specs.declared.header.SideKind.TheVariants.{Store}
use Rattle.gate_journal.specs.Side.{Front, Heading, plain}
use Rattle.vtl_base.specs.declared.layout.TheConstants.{STATE_BYTES}
use Rattle.aptpl_store.specs.Contents.{ShowsStates, state_bodies}
use Rattle.aptpl_store.specs.NotedStates.{NotedStates}
use Rattle.aptpl_store.specs.Spelling.{IsSavable}

-- What holds of an open store over any disk: the noted states can be spelled, and there are as many frames. The store
-- has failed exactly where a save is in doubt, and memory has room for the longest body (own).
pub record IsOpen (heading : Heading) (extents : List (ℕ × ℕ)) (failed : Bool) (capacity : ℕ) (notes : NotedStates)
    : Type 0 where
  pub kind : heading.kind ≡ Store
  pub states : All IsSavable notes.states
  pub at_rest : failed ≡ is_some notes.torn
  pub counted : length extents ≡ length notes.states
  pub body : STATE_BYTES ≤ capacity

-- What holds where the disk is honest: the side is no copy and its pair gate is closed, the bodies spell the noted
-- states, and each image shows them (own).
pub record StoresStates (disk : DiskState) (front : Front) (bodies : List (List ℕ)) (notes : NotedStates)
    : Type 0 where
  pub front_is : front ≡ plain front.head.heading
  pub bodies_are : bodies ≡ state_bodies notes.states
  pub shows : Each disk (ShowsStates front.head.heading notes.states notes.torn)
