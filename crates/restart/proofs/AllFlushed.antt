-- One flush after another.
use Rattle.std.proofs.Common.{◌≡◌, ◌≢◌, ◌∙◌, ◌⊎◌, ◌<◌, ◌≤◌, ◌&&◌, ◌+◌, ℕ, zero, suc, Bool, true, false, nat_lt, List, [], ◌∷◌, ◌-◌, drop, Option, Some, None}
use Rattle.std.proofs.Common.{slice_index, refl, sym, ap, subst, inl, inr, ⊎_elim, arith, ltb-true, ltb-false}
use Rattle.std.specs.List.Sorted.{IsStrictlyIncreasing}
use Rattle.std.specs.Option.{option_map_or}
use Rattle.std.proofs.lemmas.List.Elements.{All-nil, All-cons}
use Rattle.sector_device.specs.DevicePast.{DevicePast}
use Rattle.restart.specs.Copies.{IsCopyAnswer}
use Rattle.restart.specs.Lawful.{IsFlushAnswer}
use Rattle.restart.specs.Parts.{horizon_of, log_of, unwritten}
use Rattle.restart.specs.declared.event.Event.TheVariants.{Flush}
use Rattle.restart.specs.declared.event.Reply.{Reply}
use Rattle.restart.specs.declared.event.Reply.TheVariants as reply
use Rattle.restart.specs.declared.parts.EngineParts.{EngineParts}
use Rattle.restart.specs.Repeated.{AreCopied, FlushesOn, FlushesOnce, Serves, TakesImage, asks_again, behind, is_further}

rising_cons : (x n : ℕ) (xs : List ℕ) → x < n → IsStrictlyIncreasing (n ∷ xs) → IsStrictlyIncreasing (x ∷ n ∷ xs)
rising_cons x n xs above rising zero within = above
rising_cons x n xs above rising (suc k) within =
    let next : suc k + 1 ≡ suc (k + 1) = omega arith in
    subst (λ j. slice_index (n ∷ xs) k < slice_index (x ∷ n ∷ xs) j) (sym next) (rising k (omega (arith, within)))

rising_behind : (told : Option ℕ) (n : ℕ) (xs : List ℕ) → is_further told n ≡ true → IsStrictlyIncreasing (n ∷ xs) → IsStrictlyIncreasing (behind told (n ∷ xs))
rising_behind None n xs further rising = rising
rising_behind (Some before) n xs further rising = rising_cons before n xs (ltb-true before n further) rising

rising_none : (told : Option ℕ) → IsStrictlyIncreasing (behind told [])
rising_none None k within = absurd (omega (arith, within))
rising_none (Some before) k within = absurd (omega (arith, within))

both : (a b : Bool) → (a && b) ≡ true → (a ≡ true) × (b ≡ true)
both true b e = (refl, e)
both false b e = cc

one_fails : (a b : Bool) → (a && b) ≡ false → (b ≡ false) ⊎ (a ≡ false)
one_fails true b e = inl e
one_fails false b e = inr refl

-- how many records are yet to be told of
pub smaller : (last : ℕ) (told : Option ℕ) (n : ℕ) → is_further told n ≡ true → n < last → last - n < option_map_or (λ m. last - m) told (last + 1)
smaller last None n further below = omega (arith, below)
smaller last (Some m) n further below = omega (arith, ltb-true m n further, below)

empty_where : {X : Type 0} (xs : List X) → (xs ≢ [] → ⊥) → xs ≡ []
empty_where [] none = refl
empty_where (x ∷ xs) none = absurd (none (λ e. cc))

module _ {D M : Type 0} (past_of : D → DevicePast) (failures : D → ℕ) where
  -- ---- how far the records are synced

  -- no copy lets it fall
  copy_rises : (r : Reply M) (old new : EngineParts D M) → IsCopyAnswer failures r old new → horizon_of old ≤ horizon_of new
  copy_rises (reply.Txn t) old new is = absurd is
  copy_rises (reply.Rid r) old new is = absurd is
  copy_rises reply.Stepped old new is = absurd is
  copy_rises reply.Ended old new is = absurd is
  copy_rises reply.Undone old new is = absurd is
  copy_rises reply.Empty old new is = absurd is
  copy_rises (reply.Ticket t) old new is = absurd is
  copy_rises (reply.Built b) old new is = absurd is
  copy_rises (reply.Cleaned c) old new is = absurd is
  copy_rises (reply.Horizon n) old new is = absurd is
  copy_rises reply.LogFull old new is = absurd is
  copy_rises reply.Copied old new is = is.0.keeps.horizon
  copy_rises (reply.Flipped n) old new is = is.0.keeps.horizon
  copy_rises reply.Again old new is = is.0.keeps.horizon
  copy_rises (reply.Row r) old new is = absurd is
  copy_rises (reply.Found f) old new is = absurd is
  copy_rises (reply.Life l) old new is = absurd is
  copy_rises reply.Skipped old new is = absurd is
  copy_rises (reply.Refused e) old new is = ⊎_elim (λ none. none.1.succeeds.keeps.horizon) (λ failed. failed.4.horizon) is

  copies_rise : (replies : List (Reply M)) (old new : EngineParts D M) → AreCopied past_of failures replies old new → horizon_of old ≤ horizon_of new
  copies_rise [] old new same = omega (arith, ap (λ (s : EngineParts D M). horizon_of s) same)
  copies_rise (r ∷ replies) old new (mid, wrote, on) = omega (arith, copy_rises r old mid wrote.lawful, copies_rise replies mid new on)

  image_rises : (final : Reply M) (old new : EngineParts D M) → TakesImage past_of failures final old new → horizon_of old ≤ horizon_of new
  image_rises final old new taken = omega (arith, copies_rise taken.replies old taken.mid taken.copied, copy_rises final taken.mid new taken.final_copy.lawful)

  -- what a flush tells is how far they are
  told_by : (n : ℕ) (old new : EngineParts D M) → Serves past_of failures Flush (reply.Horizon n) old new → horizon_of new ≡ n
  told_by n old new wrote = sym wrote.lawful.2

  pub synced_by : (n : ℕ) (old new : EngineParts D M) → FlushesOnce past_of failures (reply.Horizon n) old new → horizon_of new ≡ n
  synced_by n old new (inl flushed) = told_by n old new flushed.1
  synced_by n old new (inr (mid, full, inl (k, current, taken, wrote))) = told_by n current new wrote
  synced_by n old new (inr (mid, full, inr (no_flip, taken))) = absurd taken.final_copy.lawful

  -- ---- one flush behind another

  -- an engine that has not flushed
  pub none_flushed : (last : ℕ) (told : Option ℕ) (engine : EngineParts D M) → FlushesOn past_of failures last told engine engine
  none_flushed last told engine = record {
    horizons = [];
    flushed = refl;
    rising = rising_none told;
    below = All-nil (λ n. n < last);
  }

  -- a reply that asks for another flush, before those that follow
  pub one_more : (last : ℕ) (told : Option ℕ) (old next new : EngineParts D M) (r : Reply M) → asks_again last told r ≡ true
      → FlushesOnce past_of failures r old next
      → FlushesOn past_of failures last (Some (horizon_of next)) next new → FlushesOn past_of failures last told old new
  one_more last told old next new (reply.Txn t) again flushed on = cc
  one_more last told old next new (reply.Rid r) again flushed on = cc
  one_more last told old next new reply.Stepped again flushed on = cc
  one_more last told old next new reply.Ended again flushed on = cc
  one_more last told old next new reply.Undone again flushed on = cc
  one_more last told old next new reply.Empty again flushed on = cc
  one_more last told old next new (reply.Ticket t) again flushed on = cc
  one_more last told old next new (reply.Built b) again flushed on = cc
  one_more last told old next new (reply.Cleaned c) again flushed on = cc
  one_more last told old next new (reply.Horizon n) again flushed on =
      let parts = both (nat_lt n last) (is_further told n) again in
      let at : horizon_of next ≡ n = synced_by n old next flushed in
      record {
        horizons = n ∷ on.horizons;
        flushed = (next, flushed, on.flushed);
        rising = rising_behind told n on.horizons parts.1 (subst (λ h. IsStrictlyIncreasing (h ∷ on.horizons)) at on.rising);
        below = All-cons (λ m. m < last) n on.horizons (ltb-true n last parts.0) on.below;
      }
  one_more last told old next new reply.LogFull again flushed on = cc
  one_more last told old next new reply.Copied again flushed on = cc
  one_more last told old next new (reply.Flipped n) again flushed on = cc
  one_more last told old next new reply.Again again flushed on = cc
  one_more last told old next new (reply.Row r) again flushed on = cc
  one_more last told old next new (reply.Found f) again flushed on = cc
  one_more last told old next new (reply.Life l) again flushed on = cc
  one_more last told old next new reply.Skipped again flushed on = cc
  one_more last told old next new (reply.Refused e) again flushed on = cc

  -- a reply that asks for another flush tells of more than were told before, and not yet of all up to the last
  pub rises : (last : ℕ) (told : Option ℕ) (old new : EngineParts D M) (r : Reply M) → asks_again last told r ≡ true → FlushesOnce past_of failures r old new
      → (is_further told (horizon_of new) ≡ true) × (horizon_of new < last)
  rises last told old new (reply.Txn t) again flushed = cc
  rises last told old new (reply.Rid r) again flushed = cc
  rises last told old new reply.Stepped again flushed = cc
  rises last told old new reply.Ended again flushed = cc
  rises last told old new reply.Undone again flushed = cc
  rises last told old new reply.Empty again flushed = cc
  rises last told old new (reply.Ticket t) again flushed = cc
  rises last told old new (reply.Built b) again flushed = cc
  rises last told old new (reply.Cleaned c) again flushed = cc
  rises last told old new (reply.Horizon n) again flushed =
      let parts = both (nat_lt n last) (is_further told n) again in
      let at : n ≡ horizon_of new = sym (synced_by n old new flushed) in
      subst (λ m. (is_further told m ≡ true) × (m < last)) at (parts.1, ltb-true n last parts.0)
  rises last told old new reply.LogFull again flushed = cc
  rises last told old new reply.Copied again flushed = cc
  rises last told old new (reply.Flipped n) again flushed = cc
  rises last told old new reply.Again again flushed = cc
  rises last told old new (reply.Row r) again flushed = cc
  rises last told old new (reply.Found f) again flushed = cc
  rises last told old new (reply.Life l) again flushed = cc
  rises last told old new reply.Skipped again flushed = cc
  rises last told old new (reply.Refused e) again flushed = cc

  -- ---- the final flush

  -- a flush that synced none had none to sync
  none_left : (n : ℕ) (old new : EngineParts D M) → Serves past_of failures Flush (reply.Horizon n) old new → n ≤ horizon_of old → unwritten new ≡ []
  none_left n old new wrote no_further =
      let answer : IsFlushAnswer failures (reply.Horizon n) old new = wrote.lawful in
      let none : unwritten old ≡ [] = empty_where (unwritten old) (λ some. absurd (omega (arith, answer.3 some, no_further))) in
      (answer.5 none).none.left ∙ ap (drop 0) none

  -- a final flush that told no more than the one before had none to sync
  none_waits : (n : ℕ) (old new : EngineParts D M) → n ≤ horizon_of old → FlushesOnce past_of failures (reply.Horizon n) old new → unwritten new ≡ []
  none_waits n old new no_further (inl flushed) = none_left n old new flushed.1 no_further
  none_waits n old new no_further (inr (mid, full, inl (k, current, taken, wrote))) =
      none_left n current new wrote (omega (arith, no_further, full.lawful.4.keeps.horizon, image_rises (reply.Flipped k) mid current taken))
  none_waits n old new no_further (inr (mid, full, inr (no_flip, taken))) = absurd taken.final_copy.lawful

  pub is_final : (last : ℕ) (told : Option ℕ) (old new : EngineParts D M) (r : Reply M) → asks_again last told r ≡ false
      → ((m : ℕ) → told ≡ Some m → horizon_of old ≡ m)
      → FlushesOnce past_of failures r old new → (n : ℕ) → r ≡ reply.Horizon n → (last ≤ n) ⊎ (unwritten new ≡ [])
  is_final last told old new r settled known flushed n is =
      by told known (one_fails (nat_lt n last) (is_further told n) (subst (λ x. asks_again last told x ≡ false) is settled))
    where
      by : (before : Option ℕ) → ((m : ℕ) → before ≡ Some m → horizon_of old ≡ m) → (is_further before n ≡ false) ⊎ (nat_lt n last ≡ false) → (last ≤ n)
          ⊎ (unwritten new ≡ [])
      by before was (inr e) = inl (ltb-false n last e)
      by None was (inl e) = cc
      by (Some m) was (inl e) = inr (none_waits n old new (omega (arith, ltb-false m n e, was m refl))
          (subst (λ x. FlushesOnce past_of failures x old new) is flushed))

  -- behind an image the log has room
  pub has_room : (old new : EngineParts D M) (r : Reply M) → FlushesOnce past_of failures r old new → r ≡ reply.LogFull → (log_of new).open_slots ≡ 0
  has_room old new r flushed is = by (subst (λ x. FlushesOnce past_of failures x old new) is flushed)
    where
      by : FlushesOnce past_of failures reply.LogFull old new → (log_of new).open_slots ≡ 0
      by (inl flushed) = absurd (flushed.0 refl)
      by (inr (mid, full, inl (k, current, taken, wrote))) =
          omega (arith, ap (λ l. l.open_slots) wrote.lawful.4.keeps.log, wrote.lawful.2, taken.final_copy.lawful.2.room)
      by (inr (mid, full, inr (no_flip, taken))) = absurd taken.final_copy.lawful
