-- What an engine that served is opened with.
use Rattle.std.proofs.Common.{◌≡◌, ◌<◌, ◌≤◌, ℕ, length, sym, ap, subst, arith}
use Rattle.std.proofs.lemmas.List.{nil_from_length}
use Rattle.core_laws.specs.Calls.{BeginsWith}
use Rattle.core_model.specs.Histories.{CanOpen, Opened}
use Rattle.nsf_core.specs.Loading.{IsQuiet}
use Rattle.core_parts.specs.Opening as held
use Rattle.core_parts.specs.View.{CoreValue}
use Rattle.sector_device.specs.Disk.{CrashState, IsCrashState}
use Rattle.sector_device.specs.DevicePast.{DevicePast}
use Rattle.store_writer.specs.Parts.{device_of}
use Rattle.store_writer.specs.declared.writer.Writer.{Writer}
use Rattle.restart.specs.Settling.{IsFresh, IsSettled}
use Rattle.shared.specs.Openings.{IsJustOpened}
use Rattle.threads_lifetime.specs.Openings.{IsNewWriter, Opens}

-- how many transactions are active was counted
module _ (v w : CoreValue) (same : v ≡ w) (n : ℕ) (counted : n ≡ length v.txns.active) where
  count_is : n ≡ length w.txns.active
  count_is = subst (λ (x : CoreValue). n ≡ length x.txns.active) same counted

  pub none_active : n ≤ 0 → IsQuiet w
  none_active none = nil_from_length w.txns.active (omega (arith, count_is))

  pub some_active : 0 < n → IsQuiet w → ⊥
  some_active some quiet = omega (arith, count_is, ap length quiet)

module _ (old new : CoreValue) (fresh : IsFresh old new) (can : CanOpen (held.opened_of old)) where
  pub fresh_begins : IsJustOpened new
  fresh_begins = record {
    opens = subst CanOpen (sym fresh.same) can;
    begins = subst (λ (o : Opened). BeginsWith o new) (sym fresh.same)
        (record { stands = fresh.stands; none_waits = ap (λ (v : CoreValue). v.outbox) fresh.made });
  }

module _ {D A : Type 0} (past_of : D → DevicePast) (o : Opened) (w : Writer D A) (is : IsSettled past_of o w) where
  pub new_settled : IsNewWriter past_of o w
  new_settled = record {
    writer = is.writer;
    pages = is.pages;
    places = is.places;
    fits = is.fits;
    synced = is.synced;
    sound = is.sound;
    empty = is.empty;
    idle = is.idle;
    copying = is.copying;
  }

  pub stays_settled : (image : CrashState) → IsCrashState (past_of (device_of w)).disk image → Opens image o
  stays_settled image crash = record {
    geometry = _;
    given = o.given;
    gives = is.gives image crash;
    opened = λ j. record { given = o.given; pages = sym is.pages j; places = sym is.places j };
  }
