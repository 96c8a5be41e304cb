use Rattle.std.proofs.Common.{◌∙◌, ap}
use Rattle.nsf_c.specs.declared.handle.Handle.{Handle}
use Rattle.nsf_c.proofs.handle.Handle.take.Goals as goal

pub into_loose-requires : goal.into_loose-requires
into_loose-requires c = (c.requires.0, ap (λ (h : Handle). h.value) c.replace.ensures.value ∙ c.requires.1)
