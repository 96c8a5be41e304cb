use Rattle.std.proofs.Common.{◌≡◌, rules, ◌∙◌, ap}
use Rattle.records.specs.ChangeValue.{ChangeValue}
use Rattle.model.proofs.FollowingLaws.{last_is, last_is_not}
use Rattle.model.proofs.list_map.is_last_of.Goals as goal

pub returns-then-eq : goal.returns-then-eq
returns-then-eq c =
    let same : c.last-item.result ≡ c.args.change.now = search rules in
    last_is c.args.changes.now c.args.change.now c.last-item.result c.from.result c.in-len1-up.len_at_least c.last-item.is same (c.from.ensures
    ∙ ap (λ (x : ChangeValue). x.position) c.change.view_is)

pub returns-else-eq : goal.returns-else-eq
returns-else-eq c =
    let other : ¬ (c.last-item.result ≡ c.args.change.now) = search rules in
    let not = last_is_not c.args.changes.now c.args.change.now c.last-item.result c.last-item.is other in
    ((λ is. absurd (search rules)), (λ last. absurd (not last)))
