-- A store that holds nothing, and what replies acknowledge.
use Rattle.std.proofs.Common.{◌≡◌, ℕ, None, Option, Some, max, ◌≤◌, List, [], ◌∷◌, arith}
use Rattle.std.specs.FinMap as map
use Rattle.record_values.specs.GeometryValue.{GeometryValue}
use Rattle.record_values.specs.Orders.{pair_cmp, rid_cmp}
use Rattle.record_values.specs.declared.pair.Mark.{Mark}
use Rattle.core_model.specs.Histories.{CanOpen}
use Rattle.model.specs.Given.{nothing}
use Rattle.restart.specs.declared.event.Reply.{Reply}
use Rattle.restart.specs.declared.event.Reply.TheVariants as reply
use Rattle.restart.specs.History.{acknowledged}
use Rattle.restart.specs.Store.{over}

-- a store that holds nothing may be opened
pub opens_nothing : (g : GeometryValue) → CanOpen (over g nothing)
opens_nothing g = record {
  fits = record {
    rows = λ r row found. absurd (none_there (map.get-empty rid_cmp r) found);
    entries = λ p there. absurd (there (map.get-empty pair_cmp p));
    highest = λ p life. absurd cc;
    room = omega (arith, map.len-empty pair_cmp Mark);
  };
  sound = λ p found. absurd (none_there (map.get-empty pair_cmp p) found);
  complete = λ r row found covered. absurd (none_there (map.get-empty rid_cmp r) found);
  unmarked = λ r row found. absurd (none_there (map.get-empty rid_cmp r) found);
  empty = λ life p. map.get-empty pair_cmp p;
}
  where
    none_there : {X : Type 0} {o : Option X} {x : X} → o ≡ None → o ≡ Some x → ⊥
    none_there none some = absurd cc

-- what was acknowledged counts from the opening on
pub acknowledged_least : {M : Type 0} (n : ℕ) (replies : List (Reply M)) → n ≤ acknowledged n replies
acknowledged_least n [] = omega arith
acknowledged_least n (reply.Txn t ∷ replies) = acknowledged_least n replies
acknowledged_least n (reply.Rid r ∷ replies) = acknowledged_least n replies
acknowledged_least n (reply.Stepped ∷ replies) = acknowledged_least n replies
acknowledged_least n (reply.Undone ∷ replies) = acknowledged_least n replies
acknowledged_least n (reply.Empty ∷ replies) = acknowledged_least n replies
acknowledged_least n (reply.Ended ∷ replies) = acknowledged_least n replies
acknowledged_least n (reply.Ticket t ∷ replies) = acknowledged_least n replies
acknowledged_least n (reply.Built b ∷ replies) = acknowledged_least n replies
acknowledged_least n (reply.Cleaned c ∷ replies) = acknowledged_least n replies
acknowledged_least n (reply.Horizon m ∷ replies) = let rest = acknowledged_least (max n m) replies in omega (arith, rest)
acknowledged_least n (reply.LogFull ∷ replies) = acknowledged_least n replies
acknowledged_least n (reply.Copied ∷ replies) = acknowledged_least n replies
acknowledged_least n (reply.Flipped m ∷ replies) = let rest = acknowledged_least (max n m) replies in omega (arith, rest)
acknowledged_least n (reply.Again ∷ replies) = acknowledged_least n replies
acknowledged_least n (reply.Row row ∷ replies) = acknowledged_least n replies
acknowledged_least n (reply.Found rids ∷ replies) = acknowledged_least n replies
acknowledged_least n (reply.Life life ∷ replies) = acknowledged_least n replies
acknowledged_least n (reply.Skipped ∷ replies) = acknowledged_least n replies
acknowledged_least n (reply.Refused e ∷ replies) = acknowledged_least n replies
