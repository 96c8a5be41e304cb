use Rattle.std.proofs.Common.{drop, ap, ◌∙◌}
use Rattle.store_writer.proofs.Underway.{rest_is}
use Rattle.store_writer.proofs.waiting.Waiting.as_slice.Goals as goal

pub returns : goal.returns
returns g c =
    rest_is c.self.inside.taken c.deref.result.now ∙ ap (drop c.self.inside.taken) c.deref.ensures.value ∙ c.self.view_is
