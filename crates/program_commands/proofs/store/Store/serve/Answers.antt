use Rattle.program_commands.proofs.store.Store.serve.Goals as goal

pub returns : goal.returns
returns g c = record { lawful = c.serve.ensures.lawful; runs = c.serve.ensures.serves; sectors = c.serve.ensures.sectors }
