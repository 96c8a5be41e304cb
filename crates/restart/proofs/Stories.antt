-- Where a request leaves a run.
use Rattle.std.proofs.Common.{◌≡◌, ℕ, ◌+◌, ◌-◌, ◌≤◌, List, [], ◌∷◌, ◌++◌, length, sym, ap, subst, arith, length-append}
use Rattle.std.proofs.lemmas.List.{length-take-le}
use Rattle.std.specs.FinMap.{len}
use Rattle.records.specs.RecordValue.{RecordValue}
use Rattle.model.specs.Given.{Given, IsBeginning, given_after, recovered}
use Rattle.model.proofs.GivenLaws.{lower_floor}
use Rattle.core_model.specs.Histories.{CanOpen, opened}
use Rattle.core_model.specs.States.{State}
use Rattle.core_model.specs.Events as core
use Rattle.core_model.specs.Events.{Standing, standing_at}
use Rattle.core_model.specs.Served.{HasServed}
use Rattle.core_model.proofs.ReplyLaws.{served_recovers}
use Rattle.store_image_model.specs.Run.{cells_at, end_of, records_to}
use Rattle.sector_device.specs.Disk.{CrashState, IsCrashState}
use Rattle.sector_device.specs.DevicePast.{DevicePast}
use Rattle.store_writer.specs.Contents.{LeftBy}
use Rattle.store_writer.specs.Parts.{device_of}
use Rattle.restart.specs.declared.event.Event.{Event}
use Rattle.restart.specs.declared.event.Reply.{Reply}
use Rattle.restart.specs.declared.parts.EngineParts.{EngineParts}
use Rattle.restart.specs.History.{IsOfKind, acknowledged, answered, asked, both, core_calls}
use Rattle.restart.specs.Parts.{horizon_of, writer_of}
use Rattle.restart.specs.Store.{Past, items_told, acknowledged_by, and_then, last_made, over, run_of, Survives, IsAt, StandsAt}
use Rattle.restart.proofs.Told.{acknowledged_both, kinds_last, pairs_last, stands_over}

-- ---- what a crash leaves

module _ {M : Type 0} (past : Past M) (made : List RecordValue) (s : State) (k : Standing) (can : CanOpen (over past.geometry past.given))
    (has : HasServed (over past.geometry past.given) made (core_calls past.events past.replies) s k) where
  -- what is recovered of the cells after one of the records is a beginning of the history
  module _ (n : ℕ) (low : past.given.last ≤ n) (high : n ≤ end_of (run_of past made)) where
    abbrev count : ℕ
    count = n - past.given.last

    abbrev read : List RecordValue
    read = records_to (run_of past made) n

    begins : IsBeginning past.given (items_told past) (past.given.last + count) (given_after past.given read)
        × CanOpen (over past.geometry (given_after past.given read))
    begins = served_recovers (over past.geometry past.given) can made (core_calls past.events past.replies) s k has count (omega (arith, high))

    size : length read ≡ count
    size = length-take-le count made (omega (arith, high))

    given_is : given_after past.given read ≡ recovered (cells_at (run_of past made) n) n
    given_is = ap (recovered (cells_at (run_of past made) n)) (omega (arith, size, low))

    last_within : n ≤ last_made past
    last_within =
        let told : k.made ≡ last_made past = ap (λ (x : Standing). x.made)
        (stands_over (opened (over past.geometry past.given)) (standing_at past.given.last) (core_calls past.events past.replies) made s k has.served) in
        omega (arith, high, told, has.number)

  pub survives : (handed n floor : ℕ) (image : CrashState) → handed ≤ end_of (run_of past made) → past.given.last ≤ n → floor ≤ n
      → LeftBy (run_of past made) n handed image → Survives past floor image
  survives handed n floor image within low reached left = record {
    given = recovered (cells_at (run_of past made) left.number) left.number;
    gives = left.gives (subst (λ (g : Given). len g.entries ≤ past.geometry.entries) same both.1.fits.room);
    beginning = subst (IsBeginning past.given (items_told past) floor) same
        (lower_floor past.given (items_told past) (past.given.last + (left.number - past.given.last)) floor
        (given_after past.given (records_to (run_of past made) left.number)) both.0 (omega (arith, reached, left.least)));
    within = last_within left.number (omega (arith, low, left.least)) (omega (arith, left.most, within));
    records = record { made = made; state = s; standing = k; served = has.served; same = sym same };
    opens = subst (λ (g : Given). CanOpen (over past.geometry g)) same both.1;
  }
    where
      both : IsBeginning past.given (items_told past) (past.given.last + (left.number - past.given.last))
          (given_after past.given (records_to (run_of past made) left.number))
          × CanOpen (over past.geometry (given_after past.given (records_to (run_of past made) left.number)))
      both = begins left.number (omega (arith, low, left.least)) (omega (arith, left.most, within))

      same : given_after past.given (records_to (run_of past made) left.number) ≡ recovered (cells_at (run_of past made) left.number) left.number
      same = given_is left.number (omega (arith, low, left.least)) (omega (arith, left.most, within))

-- ---- one request more

module _ {D M : Type 0} (past_of : D → DevicePast) (past : Past M) (old new : EngineParts D M) (x : Event) (r : Reply M) (kind : IsOfKind x r)
    (is : IsAt past_of past old) where
  abbrev later : Past M
  later = and_then past (x ∷ []) (r ∷ [])

  abbrev pairs_now : List (core.Event × core.Reply)
  pairs_now = core_calls past.events past.replies ++ both (asked x) (answered r)

  module _ (made : List RecordValue) (handed : ℕ) (s : State) (k : Standing) (has : HasServed (over past.geometry past.given) made pairs_now s k) where
    pub told_then : HasServed (over past.geometry past.given) made (core_calls later.events later.replies) s k
    told_then = subst (λ (l : List (core.Event × core.Reply)). HasServed (over past.geometry past.given) made l s k)
        (sym (pairs_last past.events past.replies x r is.answered)) has

    -- what a request leaves, put together
    pub at_next : StandsAt past_of (run_of past made) handed s k new → acknowledged (acknowledged_by past) (r ∷ []) ≤ horizon_of new → IsAt past_of later new
    at_next stands safe = record {
      answered = omega (arith, is.answered, length-append past.replies (r ∷ []), length-append past.events (x ∷ []));
      kinds = kinds_last past.events past.replies x r is.kinds kind;
      opens = is.opens;
      made = made;
      handed = handed;
      state = s;
      standing = k;
      served = told_then;
      stands = stands;
      safe = omega (arith, safe, acknowledged_both past.given.last past.replies (r ∷ []));
    }

    -- what a crash leaves while it is served, where the writer has all records up to number `handed`, and those up to `n` are synced
    pub left_then : (n : ℕ) → past.given.last ≤ n → handed ≤ end_of (run_of past made) → (image : CrashState) → LeftBy (run_of past made) n handed image
        → Survives later n image
    left_then n low within image left = survives later made s k is.opens told_then handed n n image within low (omega arith) left

-- ---- at any time

-- what a crash leaves of an engine as it is, with all up to what is safe
pub crash_since : {D M : Type 0} (past_of : D → DevicePast) (past : Past M) (engine : EngineParts D M) → IsAt past_of past engine → (floor : ℕ)
    → floor ≤ horizon_of engine → (image : CrashState) → IsCrashState (past_of (device_of (writer_of engine))).disk image
    → Survives past floor image
crash_since past_of past engine is floor safe image crash =
    survives past is.made is.state is.standing is.opens is.served is.handed (horizon_of engine) floor image is.stands.writer.made is.stands.writer.opened safe
    (is.stands.writer.images image crash)

-- what has every item up to a floor has those up to a lower one
pub survives_lower : {M : Type 0} (past : Past M) (floor lower : ℕ) (image : CrashState) → Survives past floor image → lower ≤ floor → Survives past lower image
survives_lower past floor lower image left le = record {
  given = left.given;
  gives = left.gives;
  beginning = lower_floor past.given (items_told past) floor lower left.given left.beginning le;
  within = left.within;
  records = left.records;
  opens = left.opens;
}
