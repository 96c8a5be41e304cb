use Rattle.store_writer.proofs.store.StoreWriter.pass_page.Goals as goal

pub pass-requires : goal.pass-requires
pass-requires g c = c.self.invariant

pub invariant_of-self : goal.invariant_of-self
invariant_of-self g c =
    let (run, handed, is) = c.self.invariant in
    (run, handed, c.pass.ensures.writer run handed is)

pub returns : goal.returns
returns g c =
    let done = c.pass.ensures in
    rw (← c.self.view_is)
    (record { writer = done.writer; passed = done.passed; still = done.still; when = done.when; taken = done.taken })
