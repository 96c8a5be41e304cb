use Rattle.program_team.proofs.Orders.{all_left, all_tell}
use Rattle.program_team.proofs.team.work_staffed.Goals as goal

pub end-requires-clause-seats : goal.end-requires-clause-seats
end-requires-clause-seats g c =
    all_left (λ w. w.seat) g.B.Group.site.seats c.args.staff.writers c.in-Ok.ended.clients c.args.staff.last c.run_all-ran.new.last
    c.requires.seats c.run_all-ran.ensures.last c.in-Ok.ensures.len (λ k w within. (c.in-Ok.ensures.wrote k w within).number)

pub end-requires-clause-told : goal.end-requires-clause-told
end-requires-clause-told g c =
    all_tell (λ w. w.seat) (λ w. w.acks.items) (λ w. w.acknowledged.items) c.args.staff.writers c.in-Ok.ended.clients c.in-Ok.ensures.len
    c.requires.none (λ k w within. (c.in-Ok.ensures.wrote k w within).tells)
