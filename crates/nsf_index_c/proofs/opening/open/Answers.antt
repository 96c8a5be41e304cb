use Rattle.std.proofs.Common.{inl, inr, refl, sym, ◌∙◌}
use Rattle.nsf_index_c.proofs.opening.open.Goals as goal

pub returns-in-Some : goal.returns-in-Some
returns-in-Some c = inr (inl (refl, (c.in-Some.held.value, c.in-Some.ensures.taken)), c.put.ensures ∙ sym c.in-Some.ensures.taken)

pub returns-in-Ok : goal.returns-in-Ok
returns-in-Ok c = inl (
  refl,
  c.in_default.ensures.none,
  c.in-Ok.ensures.size,
  (c.in-Ok.held.value, c.put-in-Ok.ensures, c.in-Ok.ensures.made),
)
