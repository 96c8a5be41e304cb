use Rattle.std.proofs.Common.{refl, sym, ◌∙◌, inl, inr}
use Rattle.program_commands.proofs.guarded.GuardedStore.change.Goals as goal

pub returns-then-is_stepped : goal.returns-then-is_stepped
returns-then-is_stepped g c = record {
  begun = c.serve-reply.result;
  mid = c.serve-reply.new.self;
  begins = c.serve-reply.ensures;
  ends = inl (sym c.is_stepped.ensures ∙ c.if-is_stepped.true, c.settle.ensures);
}

pub returns : goal.returns
returns g c = record {
  begun = c.serve-reply.result;
  mid = c.serve-reply.new.self;
  begins = c.serve-reply.ensures;
  ends = inr (sym c.is_stepped.ensures ∙ c.if-is_stepped.false, refl, refl);
}
