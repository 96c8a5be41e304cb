use Rattle.threads_flusher.proofs.Keeping.{some_held}
use Rattle.threads_flusher.proofs.part.FlushPart.holds_some.Goals as goal

pub returns : goal.returns
returns g c = rw (← c.self.view_is) (some_held c.self.inside.held.items _ c.is_empty.result c.self.inside.held.ok.0 c.is_empty.ensures)
