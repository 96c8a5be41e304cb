use Rattle.std.proofs.Common.{inl, inr, refl, sym, true≢false, ◌∙◌}
use Rattle.core_parts.proofs.parts.CoreParts.may_create.Goals as goal

pub returns-then-indexed : goal.returns-then-indexed
returns-then-indexed g c = record { absent = tt; quiet = tt; refused = inl (refl, sym c.indexed.ensures ∙ c.if-indexed.true) }

pub returns-then-not-is_empty : goal.returns-then-not-is_empty
returns-then-not-is_empty g c = record {
  absent = tt;
  quiet = tt;
  refused = inr (refl, sym c.indexed.ensures ∙ c.if-indexed.false, λ none. true≢false (sym (c.is_empty.ensures.1 none) ∙ c.if-not-is_empty.true));
}

pub returns : goal.returns
returns g c = record {
  absent = sym c.indexed.ensures ∙ c.if-indexed.false;
  quiet = c.is_empty.ensures.0 c.if-not-is_empty.false;
  refused = tt;
}
