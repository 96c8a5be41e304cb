use Rattle.std.proofs.Common.{List, [], length, take, ap, sym, subst, arith}
use Rattle.std.proofs.lemmas.List.{take_all}
use Rattle.headline.specs.declared.day.Day.{Day}
use Rattle.headline.specs.Days.{Answer}
use Rattle.headline.specs.Kept.{KeepsDays}
use Rattle.headline.proofs.Stopped.{day_more, one_more}
use Rattle.headline.proofs.daily.live_each_day.Goals as goal

pub loop-day-init : goal.loop-day-init
loop-day-init g c = record {
  even = ap length c.in-Ok.ensures.items;
  room = omega (arith, c.in-Ok.ensures.exact);
  keeps = λ size began keeps. subst (λ (rs : List (Answer _)). KeepsDays g.D.Device.past_of g.D.Device.failures size began [] rs c.args.device)
      (sym c.in-Ok.ensures.items) keeps;
}

pub push_reserved-requires : goal.push_reserved-requires
push_reserved-requires g c =
    omega (arith, c.loop-day.invariant.even, c.loop-day.invariant.room, c.loop-day-test.true, c.loop-day.answers.ok.0)

pub loop-day-preserved : goal.loop-day-preserved
loop-day-preserved g c =
    let inv = c.loop-day.invariant in
    let answers = c.loop-day.answers.items in
    let answer = c.live_one_day-answer.result.0 in
    record {
      even = one_more {X = Answer g.row.A.Denot} answers c.push_reserved.new.self.items answer c.loop-day.day-index inv.even c.push_reserved.ensures.items;
      room = omega (arith, inv.room, c.push_reserved.ensures.capacity);
      keeps = λ size began keeps.
          day_more g.D.Device.past_of g.D.Device.failures size began c.args.days.now c.loop-day.day-index c.day-item.result answers
          c.push_reserved.new.self.items answer
          c.live_one_day-answer.result.1 c.loop-day-test.true c.day-item.is c.push_reserved.ensures.items
          (c.live_one_day-answer.ensures size began (take c.loop-day.day-index c.args.days.now) answers (inv.keeps size began keeps));
    }

pub returns-clause-days : goal.returns-clause-days
returns-clause-days g c = λ size began keeps.
    subst (λ (ds : List (Day _)). KeepsDays g.D.Device.past_of g.D.Device.failures size began ds c.loop-day.answers.items c.loop-day.device)
    (take_all c.loop-day.day-index c.args.days.now c.loop-day-test.false)
    (c.loop-day.invariant.keeps size began keeps)
