use Rattle.vtl_power_on.proofs.sides.new_cartridge.Goals as goal

pub returns-in-Ok-clause-ok : goal.returns-in-Ok-clause-ok
returns-in-Ok-clause-ok c = record {
  shelved = c.in-Ok.shelved;
  closed = c.of.ensures;
  known = c.in-Ok.ensures.ok.0;
  torn = c.in-Ok.ensures.ok.1;
  contents = c.in-Ok.ensures.ok.2;
}
