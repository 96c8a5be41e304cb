use Rattle.std.proofs.Common.{sym, subst, ap, List}
use Rattle.block_device.specs.Blocks.{IsWhole}
use Rattle.block_device.proofs.CrashFiles.{zeros_are_whole}
use Rattle.block_host.specs.declared.held.Run.{Run}
use Rattle.block_host.specs.FileBlocks.{is_in_any}
use Rattle.block_host.proofs.held.Held.new.Goals as goal

pub invariant_of-result : goal.invariant_of-result
invariant_of-result g c = record { whole = subst IsWhole (sym c.in_ok-content.ensures) (zeros_are_whole c.args.blocks) }

pub returns-clause-synced : goal.returns-clause-synced
returns-clause-synced g c = λ n. ap (λ (l : List Run). is_in_any l n) c.new.ensures
