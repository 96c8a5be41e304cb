use Rattle.std.proofs.Common.{subst, IfErr, IfOk}
use Rattle.sector_device.specs.Disk.{CrashState}
use Rattle.nsf_c.specs.Calls.{Is, IsNotOpened, IsOpenedOn, sectors_of}
use Rattle.nsf_c.specs.Unopened.{IsUnopened}
use Rattle.nsf_c.proofs.Opened.{not_opened, put_is, put_is_not}
use Rattle.nsf_c.proofs.opening.nsf_open.Goals as goal

pub returns-clause-opened : goal.returns-clause-opened
returns-clause-opened c =
    let opened = subst (λ (s : CrashState). IfOk c.open_sectors.result (λ held. IsOpenedOn (Is s) held.value.store)) c.as_chunks.ensures.front
    c.open_sectors.ensures.ok in
    put_is (IsOpenedOn (Is (sectors_of c.args.bytes.now))) c.open_sectors.result c.put_opened.result c.put_opened.new.handle.value c.put_opened.ensures.ok
    c.put_opened.ensures.err opened

pub returns-clause-refused : goal.returns-clause-refused
returns-clause-refused c =
    let sectors = sectors_of c.args.bytes.now in
    let unopened = subst (λ (s : CrashState). IfErr c.open_sectors.result (IsUnopened (Is s))) c.as_chunks.ensures.front c.open_sectors.ensures.err in
    put_is_not (IsUnopened (Is sectors)) (IsNotOpened sectors) c.open_sectors.result c.put_opened.result c.put_opened.new.handle.value
    c.put_opened.ensures.ok c.put_opened.ensures.err unopened (not_opened sectors)
