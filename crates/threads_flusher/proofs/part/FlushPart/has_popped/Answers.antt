use Rattle.std.proofs.Common.{◌∙◌}
use Rattle.threads_flusher.proofs.Keeping.{has_all}
use Rattle.threads_flusher.proofs.part.FlushPart.has_popped.Goals as goal

pub returns : goal.returns
returns g c =
    rw (← c.self.view_is) (has_all g.B.Group.site.opened.given.last c.self.inside.last c.args.last c.len.result _ c.self.inside.held.items
    c.checked_sub.result c.eq.result c.self.invariant.3 (c.len.ensures ∙ c.self.inside.held.ok.0) c.checked_sub.ensures c.eq.ensures)
