-- What a core begins with.
use Rattle.std.proofs.Common.{arith, refl, ℕ, ◌≤◌}
use Rattle.std.specs.FinMap.{get-empty, len, len-empty}
use Rattle.record_values.specs.GeometryValue.{GeometryValue}
use Rattle.record_values.specs.Orders.{pair_cmp, rid_cmp}
use Rattle.record_values.specs.declared.number.TheConstants.{LAST_NUMBER}
use Rattle.record_values.specs.declared.pair.Mark.{Mark}
use Rattle.model.specs.Given.{Given}
use Rattle.model.specs.Inside.{IsGivenInside}
use Rattle.core_model.proofs.Laws.{not_none}
use Rattle.core_model.specs.Histories.{CanOpen, FitsStore}
use Rattle.core_copies.proofs.LoadedLaws.{stands_for}
use Rattle.core_copies.specs.Loaded.{holding}
use Rattle.core_parts.specs.Moves.{fresh}
use Rattle.core_laws.specs.Calls.{BeginsWith}
use Rattle.core_laws.specs.Openings.{empty_after, store_with}

pub loaded : (g : GeometryValue) (given : Given) → IsGivenInside g.pages given → len given.entries ≤ g.entries → given.last ≤ LAST_NUMBER
    → BeginsWith (store_with g given) (holding g given)
loaded g given inside room last = record { stands = stands_for g given inside room last; none_waits = refl }

module _ (g : GeometryValue) (base : ℕ) where
  inside : IsGivenInside g.pages (empty_after base)
  inside = record {
    rows = λ r row e. absurd (not_none e (get-empty rid_cmp r));
    entries = λ p e. absurd (e (get-empty pair_cmp p));
    life = λ p e. absurd cc;
  }

  none_fits : len (empty_after base).entries ≤ g.entries
  none_fits = omega (arith, len-empty pair_cmp Mark)

  pub made : base ≤ LAST_NUMBER → BeginsWith (store_with g (empty_after base)) (fresh g base)
  made le = loaded g (empty_after base) inside none_fits le

  fits : FitsStore (store_with g (empty_after base))
  fits = record { rows = inside.rows; entries = inside.entries; highest = inside.life; room = none_fits }

  pub can_open : CanOpen (store_with g (empty_after base))
  can_open = record {
    fits = fits;
    sound = λ p e. absurd (not_none e (get-empty pair_cmp p));
    complete = λ r row e. absurd (not_none e (get-empty rid_cmp r));
    unmarked = λ r row e. absurd (not_none e (get-empty rid_cmp r));
    empty = λ e p. get-empty pair_cmp p;
  }
