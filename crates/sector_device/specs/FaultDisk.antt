-- A device that fails once, and the calls that it has counted.
use Rattle.std.specs.Prelude.{◌≡◌, ℕ, ◌+◌, ◌-◌, ◌^◌, min}
use Rattle.sector_device.specs.declared.fault.FaultDisk.{FaultDisk}
use Rattle.sector_device.specs.declared.fault.Which.{Which}

module _ {D : Type 0} where
  -- the device below it
  abbrev pub device_of : FaultDisk D → D
  device_of f = f.device

  -- which calls it counts
  abbrev pub which_of : FaultDisk D → Which
  which_of f = f.which

  -- the number of the call that fails, or 0
  abbrev pub fails_at_of : FaultDisk D → ℕ
  fails_at_of f = f.fails_at

  -- how many calls it has counted
  abbrev pub made_of : FaultDisk D → ℕ
  made_of f = f.made

  -- the next counted call is the one that fails
  abbrev pub IsFailureDue : FaultDisk D → Type 0
  IsFailureDue f = f.made + 1 ≡ f.fails_at

  -- one call more was counted
  pub record CountsCall (old new : FaultDisk D) : Type 0 where
    pub made : new.made ≡ min (old.made + 1) (2 ^ 64 - 1)
    pub fails_at : new.fails_at ≡ old.fails_at
    pub which : new.which ≡ old.which

  -- no call was counted
  pub record CountsNone (old new : FaultDisk D) : Type 0 where
    pub made : new.made ≡ old.made
    pub fails_at : new.fails_at ≡ old.fails_at
    pub which : new.which ≡ old.which
