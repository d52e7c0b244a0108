-- Laws of the machine.
use Rattle.std.specs.Prelude.{◌≡◌, ◌↔◌, ℕ, List, false}
use Rattle.scsi_attention.specs.AttentionSets.{AttentionSet}
use Rattle.scsi_lists.specs.declared.pr_lists.PrOut.{PrOut}
use Rattle.pr_core.specs.declared.states.PrState.{PrState}
use Rattle.pr_core.specs.declared.states.PrAnswer.{PrAnswer}
use Rattle.pr_core.specs.States.{empty_state, power_loss}
use Rattle.pr_core.specs.Sound.{IsSound}
use Rattle.pr_core.specs.Orders.{Orders}
use Rattle.pr_core.specs.Saves.{AreSavedAlike, needs_save}

-- each order has an answer, conditions for each nexus, and a next state (own)
abbrev pub EachOrderEnds : Type 0
EachOrderEnds =
    (old : PrState) (nexus : ℕ) (order : PrOut)
    → (answer : PrAnswer) × (established : List AttentionSet) × (new : PrState)
    × Orders old nexus order answer established new

-- each order has at most one answer, one set of conditions for each nexus, and one next state (own)
abbrev pub NoOrderEndsTwice : Type 0
NoOrderEndsTwice =
    (old : PrState) (nexus : ℕ) (order : PrOut) (answer other_answer : PrAnswer)
    (established other_established : List AttentionSet)
    (new other : PrState)
    → Orders old nexus order answer established new → Orders old nexus order other_answer other_established other
    → (answer ≡ other_answer) × (established ≡ other_established) × (new ≡ other)

-- a state that meets the rules leads to another that meets them (own)
abbrev pub OrdersKeepRules : Type 0
OrdersKeepRules =
    (old : PrState) (nexus : ℕ) (order : PrOut) (answer : PrAnswer) (established : List AttentionSet) (new : PrState)
    → IsSound old → Orders old nexus order answer established new → IsSound new

-- the state with no registration and no reservation meets the rules (own)
abbrev pub EmptyKeepsRules : Type 0
EmptyKeepsRules = IsSound empty_state

-- the state after a loss of power meets the rules (own)
abbrev pub PowerLossKeepsRules : Type 0
PowerLossKeepsRules = (state : PrState) → IsSound state → IsSound (power_loss state)

-- a second loss of power changes nothing more (own)
abbrev pub PowerLossIsOnce : Type 0
PowerLossIsOnce = (state : PrState) → power_loss (power_loss state) ≡ power_loss state

-- two states with the same saved fields are the same after a loss of power (own)
abbrev pub SavedAlikeAreLostAlike : Type 0
SavedAlikeAreLostAlike = (one other : PrState) → AreSavedAlike one other → power_loss one ≡ power_loss other

-- a save is due exactly where the saved fields differ (own)
abbrev pub SavesAreDueByChange : Type 0
SavesAreDueByChange =
    (old new : PrState) → IsSound old → IsSound new → (needs_save old new ≡ false) ↔ AreSavedAlike old new
