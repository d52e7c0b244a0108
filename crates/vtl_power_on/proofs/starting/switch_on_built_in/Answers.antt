use Rattle.std.proofs.Common.{◌≡◌, subst, ℕ}
use Rattle.vtl_power_on.specs.Inner.Waiting.{PutsHome, SwitchesOnAt}
use Rattle.vtl_power_on.specs.Sides.{IsNewStore, memory_state}
use Rattle.vtl_power_on.specs.Starting.{built_in_barcode, built_in_capacities}
use Rattle.vtl_power_on.proofs.BuiltInLemmas.{built_in_is}
use Rattle.vtl_power_on.proofs.starting.switch_on_built_in.Goals as goal

pub returns-in-Ok-clause-ok : goal.returns-in-Ok-clause-ok
returns-in-Ok-clause-ok c =
    let one : c.in-Some.number ≡ 1 = c.in-Some.ensures.value in
    let cartridge = c.in_ok-cartridge.cartridge in
    let store = c.in_ok-opened.opened.store in
    let puts : PutsHome 1 cartridge c.args.starting.now c.put.new.self =
    subst (λ (n : ℕ). PutsHome n cartridge c.args.starting.now c.put.new.self) one c.in_ok-put.ensures.ok in
    let switched : SwitchesOnAt memory_state 1 store c.put.new.self c.switch_on.new.self =
    subst (λ (n : ℕ). SwitchesOnAt memory_state n store c.put.new.self c.switch_on.new.self) one
    c.in-Ok.ensures.ok in
    built_in_is memory_state built_in_barcode built_in_capacities cartridge store c.args.starting.now
    c.put.new.self c.switch_on.new.self c.requires puts switched
    (subst (λ (n : ℕ). IsNewStore n store) one c.in_ok-opened.ensures.ok) c.in_ok-cartridge.ensures.ok
