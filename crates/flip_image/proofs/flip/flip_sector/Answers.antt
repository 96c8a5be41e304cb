use Rattle.std.proofs.Common.{sym, ap, subst, ◌∙◌}
use Rattle.sector_device.specs.Values.{IsMarked}
use Rattle.sector_device.proofs.KnownSectors.{zero_not_marked, is_marked}
use Rattle.flip_image.specs.Store.{Names, flip_sector}
use Rattle.flip_image.proofs.flip.flip_sector.Goals as goal

pub returns-in-A-clause-is : goal.returns-in-A-clause-is
returns-in-A-clause-is c = c.zero_sector.ensures ∙ ap flip_sector (sym c.in-A.is)

pub returns-in-A-clause-named : goal.returns-in-A-clause-named
returns-in-A-clause-named c = subst (Names c.zero_sector.result) (sym c.in-A.is) (λ marked. zero_not_marked (subst IsMarked c.zero_sector.ensures marked))

pub returns-in-B-clause-is : goal.returns-in-B-clause-is
returns-in-B-clause-is c = c.marked_sector.ensures ∙ ap flip_sector (sym c.in-B.is)

pub returns-in-B-clause-named : goal.returns-in-B-clause-named
returns-in-B-clause-named c = subst (Names c.marked_sector.result) (sym c.in-B.is) (subst IsMarked (sym c.marked_sector.ensures) is_marked)
