use Rattle.std.proofs.Common.{◌∙◌, ap, refl}
use Rattle.shared.specs.Seats.{SeatValue}
use Rattle.program_team.proofs.Keeping.{tells_seat}
use Rattle.program_team.proofs.writer.change_all.Goals as goal

pub loop-number-init : goal.loop-number-init
loop-number-init g c = record { number = refl; tells = λ tells. tells }

pub loop-number-preserved : goal.loop-number-preserved
loop-number-preserved g c = record {
  number = ap (λ (s : SeatValue). s.number) c.note.ensures.seat ∙ (c.change.ensures.adds.0 ∙ c.loop-number.invariant.number);
  tells = λ tells. c.note.ensures.tells
      (tells_seat c.loop-number.writer.seat c.change.new.seat c.loop-number.writer.acks.items c.loop-number.writer.acknowledged.items c.change.ensures.adds
      (c.loop-number.invariant.tells tells));
}

pub note-requires : goal.note-requires
note-requires g c = c.in_ok-rid.ensures.made

pub returns-in_err-rid : goal.returns-in_err-rid
returns-in_err-rid g c = record {
  number = c.change.ensures.adds.0 ∙ c.loop-number.invariant.number;
  tells = λ tells. tells_seat c.loop-number.writer.seat c.change.new.seat c.loop-number.writer.acks.items c.loop-number.writer.acknowledged.items
      c.change.ensures.adds (c.loop-number.invariant.tells tells);
}

pub returns-in_err-note : goal.returns-in_err-note
returns-in_err-note g c = record {
  number = ap (λ (s : SeatValue). s.number) c.note.ensures.seat ∙ (c.change.ensures.adds.0 ∙ c.loop-number.invariant.number);
  tells = λ tells. c.note.ensures.tells
      (tells_seat c.loop-number.writer.seat c.change.new.seat c.loop-number.writer.acks.items c.loop-number.writer.acknowledged.items c.change.ensures.adds
      (c.loop-number.invariant.tells tells));
}

pub returns : goal.returns
returns g c = record { number = c.loop-number.invariant.number; tells = c.loop-number.invariant.tells }
