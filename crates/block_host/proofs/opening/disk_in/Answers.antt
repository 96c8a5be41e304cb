use Rattle.block_host.proofs.Devices.{as_first, opened}
use Rattle.block_host.proofs.opening.disk_in.Goals as goal

pub returns-in-Ok-clause-opened : goal.returns-in-Ok-clause-opened
returns-in-Ok-clause-opened g c =
    let done = c.in-Ok.ensures in
    opened c.args.below c.in-Ok.disk c.requires.moment done.any_moment done.headers done.told done.content done.fits done.handed
    done.again done.alone done.safe c.requires.back done.written_back

pub returns-in-Ok-clause-first : goal.returns-in-Ok-clause-first
returns-in-Ok-clause-first g c = as_first c.args.below c.in-Ok.disk c.requires.moment c.in-Ok.ensures.headers
