-- What a store's device holds is what a crash of it may leave.
use Rattle.std.proofs.Common.{refl}
use Rattle.sector_device.specs.Disk.{IsCrashState}
use Rattle.sector_device.specs.DevicePast.{DevicePast}
use Rattle.store_file.specs.FileDisk.{past_of}
use Rattle.program_commands.specs.Guarded.{store_of}
use Rattle.program_commands.specs.Store as serving
use Rattle.nsf_c.specs.Handles.{Opened}
use Rattle.nsf_c.specs.Calls.{IsStoreKept, content_of}

held_now : (h : DevicePast) → IsCrashState h.disk h.disk.content
held_now h = record { sectors = refl; kept = λ k synced. refl; torn = λ k lt unsynced. h.whole k lt }

pub is_kept : (s : Opened) → serving.LeavesItsRun past_of (store_of s) (serving.device_of (store_of s)) → IsStoreKept s (content_of s)
is_kept s leaves past is = leaves past (content_of s) is (held_now (past_of (serving.device_of (store_of s))))
