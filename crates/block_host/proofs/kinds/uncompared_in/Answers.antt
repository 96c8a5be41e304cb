use Rattle.block_host.proofs.Devices.{as_first, is_read}
use Rattle.block_host.proofs.kinds.uncompared_in.Goals as goal

pub returns-in-Ok-clause-read : goal.returns-in-Ok-clause-read
returns-in-Ok-clause-read g c =
    let done = c.in-Ok.ensures in
    is_read c.args.below c.in-Ok.disk c.requires.moment done.headers done.told done.content done.sound

pub returns-in-Ok-clause-first : goal.returns-in-Ok-clause-first
returns-in-Ok-clause-first g c = as_first c.args.below c.in-Ok.disk c.requires.moment c.in-Ok.ensures.headers
