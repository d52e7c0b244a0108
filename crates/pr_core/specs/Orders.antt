-- The machine: what each order does to a state.
use Rattle.std.specs.Prelude.{ℕ, List}
use Rattle.scsi_attention.specs.AttentionSets.{AttentionSet}
use Rattle.scsi_lists.specs.declared.pr_lists.PrOut.{PrOut}
use Rattle.scsi_lists.specs.declared.pr_lists.PrOut.TheVariants.{Register, Reserve, Release, Clear, Preempt, RegisterAndIgnoreExistingKey}
use Rattle.pr_core.specs.declared.states.PrState.{PrState}
use Rattle.pr_core.specs.declared.states.PrAnswer.{PrAnswer}
use Rattle.pr_core.specs.Effects.{Effect, Brings, of_registrant}
use Rattle.pr_core.specs.Register.{register, register_and_ignore}
use Rattle.pr_core.specs.Reserve.{reserve, release, clear}
use Rattle.pr_core.specs.Preempt.{preempt}

-- the effect of an order of a nexus (SPC-4, PERSISTENT RESERVE OUT)
abbrev pub effect_of : PrState → ℕ → PrOut → Effect
effect_of state nexus (Register key new_key aptpl) = register state nexus key new_key aptpl
effect_of state nexus (Reserve key kind) = of_registrant state nexus key (reserve state nexus kind)
effect_of state nexus (Release key kind) = of_registrant state nexus key (release state nexus kind)
effect_of state nexus (Clear key) = of_registrant state nexus key (clear state nexus)
effect_of state nexus (Preempt key preempted kind) = of_registrant state nexus key (preempt state nexus preempted kind)
effect_of state nexus (RegisterAndIgnoreExistingKey new_key aptpl) = register_and_ignore state nexus new_key aptpl

-- the answer, the conditions and the next state are those of this order of a nexus (SPC-4, PERSISTENT RESERVE OUT)
abbrev pub Orders : PrState → ℕ → PrOut → PrAnswer → List AttentionSet → PrState → Type 0
Orders old nexus order answer established new = Brings (effect_of old nexus order) answer established new
