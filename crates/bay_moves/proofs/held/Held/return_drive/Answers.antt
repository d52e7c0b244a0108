use Rattle.std.proofs.Common.{◌≡◌, ◌≤◌, ◌<◌, ◌⊎◌, inl, inr, ◌∙◌, ap, ℕ, ◌-◌, set, Some, arith}
use Rattle.bay_moves.specs.Elements.{HeldState}
use Rattle.bay_moves.specs.Inner.Lifted.{with_bay}
use Rattle.bay_moves.specs.Lent.{IsDriveAddress}
use Rattle.bay_moves.proofs.held.Held.return_drive.Goals as goal

-- the address of a drive is neither 0 nor beyond the drives
no_other : (address : ℕ) → IsDriveAddress address → (address ≡ 0) ⊎ (16 < address) → ⊥
no_other address on (inl zero) = let least : 1 ≤ address = on.least in omega (arith, least, zero)
no_other address on (inr beyond) = let most : address ≤ 16 = on.most in omega (arith, most, beyond)

pub returns-in-Some : goal.returns-in-Some
returns-in-Some g c =
    let place : c.place.result ≡ c.args.address - 1 =
    c.place.ensures.place ∙ ap (λ (n : ℕ). n - 1) c.in-Some.ensures.some.0 in
    (λ i. record {
      slots = c.self.inside.slots;
      bays = set c.self.inside.bays.items (place i) (Some (c.insert.ensures.value i));
    })
    ∙ ap (λ (h : HeldState g.row.D.Denot). with_bay c.args.address c.args.bay h) c.self.view_is

pub returns-in-None : goal.returns-in-None
returns-in-None g c = absurd (no_other c.args.address c.requires c.in-None.ensures.none)
