use Rattle.std.proofs.Common.{List, ap, refl, ◌∙◌}
use Rattle.vtl_wire.specs.declared.answers.Answer.TheVariants as answer
use Rattle.vtl_wire.specs.declared.answers.Entry.{Entry}
use Rattle.vtl_serve.specs.Desks.{DeskState}
use Rattle.vtl_serve.specs.Labels.{inventory_of}
use Rattle.vtl_serve.proofs.desks.LibraryDeskDesk.serve.Goals as goal

pub returns-in_ok-entries-in-Inventory-clause-ok :
    goal.returns-in_ok-entries-in-Inventory-clause-ok
returns-in_ok-entries-in-Inventory-clause-ok g c =
    rw c.in-Inventory.is (
      ap (λ (entries : List Entry). answer.Inventory entries c.in-Inventory.tag)
          (c.in_ok-entries-in-Inventory.ensures
          ∙ ap (λ (desk : DeskState). inventory_of desk.drives desk.labels) c.self.view_is),
      refl,
    )
