use Rattle.std.proofs.Common.{refl, subst, sym}
use Rattle.restart.specs.Store.{CanRun, KeepsAround, OpensSlotsAlone}
use Rattle.restart.specs.declared.event.Event.TheVariants.{Copy, Flush}
use Rattle.restart.proofs.Serving.{answered_by_core, can_run_by_core, is_flush, lawful_as, served_by_core, serves_as}
use Rattle.restart.proofs.Around.{around_in_core, asks_core, keeps_sectors}
use Rattle.restart.proofs.engine.Engine.serve.Goals as goal

pub returns-in-Some-clause-serves : goal.returns-in-Some-clause-serves
returns-in-Some-clause-serves g c =
    rw (← c.self.view_is) (
    served_by_core g.D.Device.past_of g.D.Device.failures c.args.event c.in-Some.reply c.self.inside.parts c.ask_core.new.self c.in-Some.ensures.some
    (record { half = c.each_half.ensures.goes_on; lists = c.each_list.ensures.goes_on; goes = c.goes_on.ensures }))

pub returns-in-Some-clause-lawful : goal.returns-in-Some-clause-lawful
returns-in-Some-clause-lawful g c =
    rw (← c.self.view_is) (
    answered_by_core g.D.Device.past_of g.D.Device.failures c.args.event c.in-Some.reply c.self.inside.parts c.ask_core.new.self c.in-Some.ensures.some)

pub invariant_of-self-in-Some : goal.invariant_of-self-in-Some
invariant_of-self-in-Some g c =
    can_run_by_core g.D.Device.past_of g.D.Device.failures c.args.event c.in-Some.reply c.self.inside.parts c.ask_core.new.self c.in-Some.ensures.some
    (record { half = c.each_half.ensures.goes_on; lists = c.each_list.ensures.goes_on; goes = c.goes_on.ensures }) c.self.invariant

pub flush-requires : goal.flush-requires
flush-requires g c =
    subst (CanRun g.D.Device.past_of) (sym c.in-None.ensures.none.1) c.self.invariant

pub returns-in-Copy-clause-serves : goal.returns-in-Copy-clause-serves
returns-in-Copy-clause-serves g c =
    rw (← c.self.view_is) (
    serves_as c.args.event Copy c.copy.result c.self.inside.parts c.self.inside.parts c.copy.new.self c.in-Copy.is refl g.D.Device.past_of
    c.copy.ensures.serves)

pub returns-in-Copy-clause-lawful : goal.returns-in-Copy-clause-lawful
returns-in-Copy-clause-lawful g c =
    rw (← c.self.view_is) (
    lawful_as c.args.event Copy c.copy.result c.self.inside.parts c.self.inside.parts c.copy.new.self c.in-Copy.is refl g.D.Device.failures
    c.copy.ensures.answer)

pub returns-in-None-clause-serves : goal.returns-in-None-clause-serves
returns-in-None-clause-serves g c =
    rw (← c.self.view_is) (
    serves_as c.args.event Flush c.flush.result c.self.inside.parts c.ask_core.new.self c.flush.new.self
    (is_flush c.args.event c.in-None.ensures.none.0 c.in_default.not-Copy) c.in-None.ensures.none.1 g.D.Device.past_of c.flush.ensures.serves)

pub returns-in-None-clause-lawful : goal.returns-in-None-clause-lawful
returns-in-None-clause-lawful g c =
    rw (← c.self.view_is) (
    lawful_as c.args.event Flush c.flush.result c.self.inside.parts c.ask_core.new.self c.flush.new.self
    (is_flush c.args.event c.in-None.ensures.none.0 c.in_default.not-Copy) c.in-None.ensures.none.1 g.D.Device.failures c.flush.ensures.answer)

pub returns-in-Some-clause-around : goal.returns-in-Some-clause-around
returns-in-Some-clause-around g c =
    rw (← c.self.view_is) (
    λ other. around_in_core g.D.Device.past_of c.self.inside.parts c.ask_core.new.self c.args.event c.in-Some.reply c.in-Some.ensures.some)

pub returns-in-None-clause-around : goal.returns-in-None-clause-around
returns-in-None-clause-around g c =
    rw (← c.self.view_is) (
    λ other. subst (λ parts. KeepsAround g.D.Device.past_of parts c.flush.new.self) c.in-None.ensures.none.1 c.flush.ensures.around)

pub returns-in-Copy-clause-around : goal.returns-in-Copy-clause-around
returns-in-Copy-clause-around g c =
    rw (← c.self.view_is) (
    λ other. absurd (other c.in-Copy.is))

pub returns-in-Some-clause-copied : goal.returns-in-Some-clause-copied
returns-in-Some-clause-copied g c =
    rw (← c.self.view_is) (
    λ copy. absurd (c.in_default.not-Copy copy))

pub returns-in-None-clause-copied : goal.returns-in-None-clause-copied
returns-in-None-clause-copied g c =
    rw (← c.self.view_is) (
    λ copy. absurd (c.in_default.not-Copy copy))

pub returns-in-Some-clause-slot : goal.returns-in-Some-clause-slot
returns-in-Some-clause-slot g c =
    rw (← c.self.view_is) (
    λ flush. absurd (asks_core g.D.Device.past_of c.args.event c.in-Some.reply c.self.inside.parts c.ask_core.new.self c.in-Some.ensures.some flush))

pub returns-in-None-clause-slot : goal.returns-in-None-clause-slot
returns-in-None-clause-slot g c =
    rw (← c.self.view_is) (
    λ flush. subst (λ parts. OpensSlotsAlone g.D.Device.past_of parts c.flush.new.self) c.in-None.ensures.none.1 c.flush.ensures.slot)

pub returns-in-Copy-clause-slot : goal.returns-in-Copy-clause-slot
returns-in-Copy-clause-slot g c =
    rw (← c.self.view_is) (
    λ flush. absurd (cc (c.in-Copy.is, flush)))

pub returns-in-Some-clause-groups : goal.returns-in-Some-clause-groups
returns-in-Some-clause-groups g c =
    rw (← c.self.view_is) (
    λ copy. absurd (c.in_default.not-Copy copy))

pub returns-in-None-clause-groups : goal.returns-in-None-clause-groups
returns-in-None-clause-groups g c =
    rw (← c.self.view_is) (
    λ copy. absurd (c.in_default.not-Copy copy))

pub returns-in-Copy-clause-copied : goal.returns-in-Copy-clause-copied
returns-in-Copy-clause-copied g c =
    rw (← c.self.view_is) (λ copy. c.copy.ensures.around)

pub returns-in-Copy-clause-groups : goal.returns-in-Copy-clause-groups
returns-in-Copy-clause-groups g c =
    rw (← c.self.view_is) (λ copy. c.copy.ensures.groups)

pub returns-in-Copy-clause-sectors : goal.returns-in-Copy-clause-sectors
returns-in-Copy-clause-sectors g c =
    rw (← c.self.view_is) (
    keeps_sectors g.D.Device.past_of c.args.event c.self.inside.parts c.copy.new.self
    (λ other. absurd (other c.in-Copy.is)) (λ copy. c.copy.ensures.around))

pub returns-in-Some-clause-sectors : goal.returns-in-Some-clause-sectors
returns-in-Some-clause-sectors g c =
    rw (← c.self.view_is) (
    keeps_sectors g.D.Device.past_of c.args.event c.self.inside.parts c.ask_core.new.self
    (λ other. around_in_core g.D.Device.past_of c.self.inside.parts c.ask_core.new.self c.args.event c.in-Some.reply c.in-Some.ensures.some)
    (λ copy. absurd (c.in_default.not-Copy copy)))

pub returns-in-None-clause-sectors : goal.returns-in-None-clause-sectors
returns-in-None-clause-sectors g c =
    rw (← c.self.view_is) (
    keeps_sectors g.D.Device.past_of c.args.event c.self.inside.parts c.flush.new.self
    (λ other. subst (λ parts. KeepsAround g.D.Device.past_of parts c.flush.new.self) c.in-None.ensures.none.1 c.flush.ensures.around)
    (λ copy. absurd (c.in_default.not-Copy copy)))
