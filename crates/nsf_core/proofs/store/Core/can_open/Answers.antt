use Rattle.std.proofs.Common.{refl}
use Rattle.nsf_core.specs.Value.{value_of}
use Rattle.core_parts.proofs.Walked.{opens, shows}
use Rattle.nsf_core.proofs.store.Core.can_open.Goals as goal

pub returns-then-entries_may_stand : goal.returns-then-entries_may_stand
returns-then-entries_may_stand g c =
    let v = value_of c.args.self.now in (
      λ yes. opens v c.args.self.now.safe (c.entries_may_stand.ensures.0 c.if-entries_may_stand.true) (c.rows_are_shown.ensures.0 yes),
      λ can.
          c.rows_are_shown.ensures.1 (shows v can),
    )

pub returns-then-is_seen_to_fit : goal.returns-then-is_seen_to_fit
returns-then-is_seen_to_fit g c =
    let v = value_of c.args.self.now in
    let fits = c.is_seen_to_fit.ensures c.if-is_seen_to_fit.true in (
      λ _. opens v c.args.self.now.safe fits.0 fits.1,
      λ _. refl,
    )
