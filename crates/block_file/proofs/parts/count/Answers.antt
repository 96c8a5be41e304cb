use Rattle.std.proofs.Common.{arith}
use Rattle.block_file.proofs.Counting.{counts_damaged, counts_failed, counts_ok, is_err_done, is_ok_done}
use Rattle.block_file.proofs.parts.count.Goals as goal

pub returns-in-Ok : goal.returns-in-Ok
returns-in-Ok c = record {
  ok = is_ok_done c.args.done _ c.in-Ok.is;
  err = tt;
  counts = λ before now read. counts_ok c.args.done _ _ c.in-Ok.is before now c.args.damaged.now read;
}

pub returns-in-Err-FileFailed : goal.returns-in-Err-FileFailed
returns-in-Err-FileFailed c =
    let arm = c.in-Err-FileFailed in
    record {
      ok = tt;
      err = is_err_done c.args.done arm.field-0 arm.is;
      counts = λ before now read. counts_failed c.args.done _ arm.field-0 arm.is (rw arm.is at arm.field-0-is) before now c.args.damaged.now read;
    }

pub returns-in-Err-Damaged : goal.returns-in-Err-Damaged
returns-in-Err-Damaged c =
    let arm = c.in-Err-Damaged in
    record {
      ok = tt;
      err = is_err_done c.args.done arm.field-0 arm.is;
      counts = λ before now read.
          counts_damaged c.args.done _ arm.field-0 arm.is (rw arm.is at arm.field-0-is) before now c.args.damaged.now c.saturating_add.result
          (omega arith) c.saturating_add.ensures read;
    }
