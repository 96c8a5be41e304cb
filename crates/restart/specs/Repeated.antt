-- An image taken as one call, and a flush of every record.
use Rattle.std.specs.Prelude.{◌≡◌, ◌≢◌, ◌⊎◌, ◌<◌, ◌≤◌, ◌&&◌, ℕ, nat_lt, Bool, true, false, List, [], ◌∷◌, map, All}
use Rattle.std.specs.Prelude.{Option, Some, None}
use Rattle.std.specs.List.Sorted.{IsStrictlyIncreasing}
use Rattle.sector_device.specs.DevicePast.{DevicePast}
use Rattle.restart.specs.Lawful.{IsLawful}
use Rattle.restart.specs.Parts.{log_of, unwritten}
use Rattle.restart.specs.Store.{KeepsSectors, ServesOn}
use Rattle.restart.specs.declared.event.Event.{Event}
use Rattle.restart.specs.declared.event.Event.TheVariants.{Flush, Copy}
use Rattle.restart.specs.declared.event.Reply.{Reply}
use Rattle.restart.specs.declared.event.Reply.TheVariants.{Horizon, LogFull, Copied, Flipped, Again}
use Rattle.restart.specs.declared.parts.EngineParts.{EngineParts}

-- whether a number is above the one that was told before, if there was one
abbrev pub is_further : Option ℕ → ℕ → Bool
is_further None number = true
is_further (Some before) number = nat_lt before number

-- whether the reply tells of more synced records than were told before, and not yet of all up to the last
abbrev pub asks_again : {M : Type 0} → ℕ → Option ℕ → Reply M → Bool
asks_again last told (Horizon number) = nat_lt number last && is_further told number
asks_again last told _ = false

-- whether the reply to a copy tells that the image isn't current yet, and that nothing was refused
abbrev pub is_on_the_way : {M : Type 0} → Reply M → Bool
is_on_the_way Copied = true
is_on_the_way Again = true
is_on_the_way _ = false

-- the numbers behind the one that was told before, if there was one
abbrev pub behind : Option ℕ → List ℕ → List ℕ
behind None numbers = numbers
behind (Some before) numbers = before ∷ numbers

module _ {D M : Type 0} (past_of : D → DevicePast) (failures : D → ℕ) where
  -- The request had this lawful reply. At whatever run the engine was, it now is at that run with the request and the
  -- reply behind it. A crash of the device at any moment of it leaves what a prefix of the run left, with every record
  -- up to the horizon before, and so with all that an earlier reply has told to be safe. The device has as many sectors
  -- as before.
  pub record Serves (event : Event) (reply : Reply M) (old new : EngineParts D M) : Type 0 where
    pub lawful : IsLawful failures event reply old new
    pub runs : ServesOn past_of event reply old new
    pub sectors : KeepsSectors past_of old new

  -- One copy after another had these replies.
  abbrev pub AreCopied : List (Reply M) → EngineParts D M → EngineParts D M → Type 0
  AreCopied [] old new = new ≡ old
  AreCopied (reply ∷ replies) old new = (mid : EngineParts D M) × Serves Copy reply old mid × AreCopied replies mid new

  -- Copies were made until the image was current, or a copy was refused: that is the final reply.
  pub record TakesImage (final : Reply M) (old new : EngineParts D M) : Type 0 where
    pub mid : EngineParts D M
    pub replies : List (Reply M)
    pub copied : AreCopied replies old mid
    pub on_the_way : All (λ reply. is_on_the_way reply ≡ true) replies
    pub final_copy : Serves Copy final mid new
    pub ends : is_on_the_way final ≡ false

  -- An image was taken and made current, and the flush behind it had this reply; or the final copy had it, and made
  -- none current.
  abbrev pub FlushesBehindImage : Reply M → EngineParts D M → EngineParts D M → Type 0
  FlushesBehindImage reply old new = ((n : ℕ) × (mid : EngineParts D M) × TakesImage (Flipped n) old mid
      × Serves Flush reply mid new)
      ⊎ (((n : ℕ) → reply ≢ Flipped n) × TakesImage reply old new)

  -- One flush had this reply; or the log was full, and the one behind an image had it.
  abbrev pub FlushesOnce : Reply M → EngineParts D M → EngineParts D M → Type 0
  FlushesOnce reply old new = ((reply ≢ LogFull) × Serves Flush reply old new)
      ⊎ ((mid : EngineParts D M) × Serves Flush LogFull old mid × FlushesBehindImage reply mid new)

  -- One flush after another had these replies.
  abbrev pub AreFlushed : List (Reply M) → EngineParts D M → EngineParts D M → Type 0
  AreFlushed [] old new = new ≡ old
  AreFlushed (reply ∷ replies) old new = (mid : EngineParts D M) × FlushesOnce reply old mid
      × AreFlushed replies mid new

  -- One flush after another told of more synced records than the one before, and not yet of all up to the last.
  pub record FlushesOn (last : ℕ) (told : Option ℕ) (old new : EngineParts D M) : Type 0 where
    pub horizons : List ℕ
    pub flushed : AreFlushed (map Horizon horizons) old new
    pub rising : IsStrictlyIncreasing (behind told horizons)
    pub below : All (λ n. n < last) horizons

  -- Flushes were made until all records up to the last were synced, or one was refused. A final flush that told how far
  -- the records are synced told of all up to the last, or no record waits behind it. None ends with a full log, but
  -- where the log has no slot at all.
  pub record FlushesAll (last : ℕ) (final : Reply M) (old new : EngineParts D M) : Type 0 where
    pub mid : EngineParts D M
    pub before : FlushesOn last None old mid
    pub final_flush : FlushesOnce final mid new
    pub ends : (n : ℕ) → final ≡ Horizon n → (last ≤ n) ⊎ (unwritten new ≡ [])
    pub room : final ≡ LogFull → (log_of new).open_slots ≡ 0
