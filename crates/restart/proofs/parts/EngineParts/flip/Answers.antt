use Rattle.std.proofs.Common.{refl, arith, subst, sym, ◌∙◌}
use Rattle.restart.specs.Groups.{MayFlip, no_more}
use Rattle.restart.specs.Parts.{writer_of}
use Rattle.restart.proofs.CopiesAround.{as_before, copies_then, none_copied_around}
use Rattle.restart.proofs.CopyAnswers.{answer_then, none_well, well_then}
use Rattle.restart.proofs.Flushing.{stays}
use Rattle.restart.proofs.Grouped.{group_more, groups_then}
use Rattle.restart.proofs.Moving.{can_run_on, moves_then}
use Rattle.restart.proofs.parts.EngineParts.flip.Goals as goal

pub groups-init : goal.groups-init
groups-init g c = record {
  moves = stays g.D.Device.past_of g.D.Device.failures c.args.self.now;
  well = none_well g.D.Device.failures c.args.self.now c.requires.sound;
  all = c.requires.all;
  copying = c.requires.whole;
  halves = refl;
  left = omega arith;
  behind = λ _. refl;
  groups = no_more;
  around = none_copied_around g.D.Device.past_of c.args.self.now;
}

pub flip_or_flush-requires-clause-runs : goal.flip_or_flush-requires-clause-runs
flip_or_flush-requires-clause-runs g c = can_run_on g.D.Device.past_of c.args.self.now c.groups.self c.groups.invariant.moves c.requires.runs

pub flip_or_flush-requires-clause-all : goal.flip_or_flush-requires-clause-all
flip_or_flush-requires-clause-all g c = c.groups.invariant.all

pub flip_or_flush-requires-clause-sound : goal.flip_or_flush-requires-clause-sound
flip_or_flush-requires-clause-sound g c = c.groups.invariant.well.sound

pub flip_or_flush-requires-clause-whole : goal.flip_or_flush-requires-clause-whole
flip_or_flush-requires-clause-whole g c = c.groups.invariant.copying

pub groups-preserved : goal.groups-preserved
groups-preserved g c =
    let first = c.groups.invariant in
    let more = c.in-None.ensures.flushed in
    record {
      moves = moves_then g.D.Device.past_of c.args.self.now c.groups.self c.flip_or_flush.new.self first.moves c.flip_or_flush.ensures.moves;
      well = well_then g.D.Device.failures c.args.self.now c.groups.self c.flip_or_flush.new.self first.well more.well;
      all = more.all;
      copying = more.copying;
      halves = more.halves ∙ first.halves;
      left = omega (arith, first.left, more.left);
      behind = λ may. absurd (more.could-not (subst (λ engine. MayFlip (writer_of engine)) (sym (first.behind may)) may));
      groups = group_more g.D.Device.failures (writer_of c.args.self.now) c.groups.self c.flip_or_flush.new.self first.groups more;
      around = copies_then g.D.Device.past_of c.args.self.now c.groups.self c.flip_or_flush.new.self
          (can_run_on g.D.Device.past_of c.args.self.now c.groups.self first.moves c.requires.runs) first.well.sound first.halves first.around
          (as_before g.D.Device.past_of c.args.self.now c.groups.self c.flip_or_flush.new.self (first.copying ∙ sym c.requires.whole)
          c.flip_or_flush.ensures.around);
    }

pub groups-smaller : goal.groups-smaller
groups-smaller g c = c.in-None.ensures.flushed.fewer

pub returns-in-Some-clause-moves : goal.returns-in-Some-clause-moves
returns-in-Some-clause-moves g c =
    moves_then g.D.Device.past_of c.args.self.now c.groups.self c.flip_or_flush.new.self c.groups.invariant.moves c.flip_or_flush.ensures.moves

pub returns-in-Some-clause-answer : goal.returns-in-Some-clause-answer
returns-in-Some-clause-answer g c =
    answer_then g.D.Device.failures c.args.self.now c.groups.self c.flip_or_flush.new.self c.in-Some.reply c.groups.invariant.well c.groups.invariant.copying
    c.requires.whole c.groups.invariant.halves c.groups.invariant.left c.groups.invariant.behind c.requires.all c.groups.invariant.groups
    c.in-Some.ensures.groups c.in-Some.ensures.answer

pub returns-in-Some-clause-around : goal.returns-in-Some-clause-around
returns-in-Some-clause-around g c =
    let first = c.groups.invariant in
    copies_then g.D.Device.past_of c.args.self.now c.groups.self c.flip_or_flush.new.self
    (can_run_on g.D.Device.past_of c.args.self.now c.groups.self first.moves c.requires.runs) first.well.sound first.halves first.around
    (as_before g.D.Device.past_of c.args.self.now c.groups.self c.flip_or_flush.new.self (first.copying ∙ sym c.requires.whole)
    c.flip_or_flush.ensures.around)

pub returns-in-Some-clause-groups : goal.returns-in-Some-clause-groups
returns-in-Some-clause-groups g c = groups_then c.in-Some.reply (writer_of c.args.self.now) (writer_of c.groups.self)
    (writer_of c.flip_or_flush.new.self) c.groups.invariant.groups c.in-Some.ensures.groups
