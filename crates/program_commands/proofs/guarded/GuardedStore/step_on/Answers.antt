use Rattle.std.proofs.Common.{refl, sym, ◌∙◌, inl, inr}
use Rattle.program_commands.proofs.guarded.GuardedStore.step_on.Goals as goal

pub returns-then-is_stepped : goal.returns-then-is_stepped
returns-then-is_stepped g c = inl (sym c.is_stepped.ensures ∙ c.if-is_stepped.true, c.serve.ensures)

pub returns : goal.returns
returns g c = inr (sym c.is_stepped.ensures ∙ c.if-is_stepped.false, refl, refl)
