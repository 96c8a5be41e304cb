use Rattle.std.proofs.Common.{subst, sym, ⊎_elim}
use Rattle.nsf_core.specs.Loading.{IsQuiet}
use Rattle.restart.specs.Parts.{core_of}
use Rattle.restart.specs.Settling.{CopiesAnew}
use Rattle.restart.specs.declared.event.Reply.{Reply}
use Rattle.restart.specs.declared.parts.EngineParts.{EngineParts}
use Rattle.restart.proofs.Settled.{whole_or_refused, written_whole}
use Rattle.restart.proofs.engine.Engine.into_writer.Goals as goal

pub unreachable-requires : goal.unreachable-requires
unreachable-requires g c =
    ⊎_elim (λ n. c.in_default.not-Flipped n.0 n.1) (λ e. c.in_default.not-Refused e.0 e.1)
    (whole_or_refused g.D.Device.failures c.copy_anew.result c.self.inside.parts c.copy_anew.new.self c.copy_anew.ensures.copies.answer)

pub returns-in-Flipped-clause-written : goal.returns-in-Flipped-clause-written
returns-in-Flipped-clause-written g c =
    let quiet : IsQuiet (core_of c.self.inside.parts) =
    subst (λ (parts : EngineParts g.row.D.Denot g.row.A.Denot). IsQuiet (core_of parts)) (sym c.self.view_is) c.requires in
    rw (c.into_writer.ensures, ← c.self.view_is) (
    written_whole g.D.Device.past_of g.D.Device.failures c.copy_anew.result _ c.self.inside.parts c.copy_anew.new.self c.in-Flipped.is
    c.copy_anew.ensures.copies
    c.copy_anew.ensures.can_run quiet c.stands.ensures.sound c.each_list.ensures.shown c.one_copy.ensures)

pub returns-in-Refused-clause-refused : goal.returns-in-Refused-clause-refused
returns-in-Refused-clause-refused g c =
    rw (← c.self.view_is) (
    subst (λ (r : Reply g.row.A.Denot). CopiesAnew g.D.Device.past_of g.D.Device.failures r c.self.inside.parts c.copy_anew.new.self) c.in-Refused.is
    c.copy_anew.ensures.copies)
