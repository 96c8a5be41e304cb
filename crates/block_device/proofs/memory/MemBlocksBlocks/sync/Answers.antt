use Rattle.std.proofs.Common.{◌∙◌, refl, ap, ◌++◌, ◌∷◌, []}
use Rattle.std.proofs.lemmas.Result.{err_from_is_err_and}
use Rattle.block_device.specs.Blocks.{after_sync}
use Rattle.block_device.specs.MemBlocks.{file_of, torn_of}
use Rattle.block_device.specs.BackRuns.{runs_in}
use Rattle.block_device.proofs.Past.{elapses_pushed, elapses_same}
use Rattle.block_device.proofs.memory.MemBlocksBlocks.sync.Goals as goal

pub returns-in_err-count : goal.returns-in_err-count
returns-in_err-count g c =
    let counted = c.count.ensures in
    let failed = c.in_err-count.ensures in
    rw (err_from_is_err_and c.from_residual.result c.from_residual.ensures.1).1 (record {
      ok = tt;
      err = ap file_of counted.held;
      time = elapses_same file_of _ _ _ _ (λ i. (counted.past i).items) counted.held _ _;
      back = ap runs_in counted.back;
      counts = record { later = counted.counts.later; none = tt; failed = failed.counts.failed };
      succeeds = λ some. failed.succeeds some;
      stops = λ none. refl;
      last_synced = tt;
      last_synced_err = ap (λ h. (torn_of h).synced) counted.held;
      left = counted.left;
    })

pub returns : goal.returns
returns g c =
    let counted = c.count.ensures in
    let fine = c.in_ok-count.ensures in
    record {
      ok = c.settle.ensures.settled ∙ ap (λ h. after_sync (file_of h)) counted.held;
      err = tt;
      time = elapses_pushed file_of _ _ _ _ (c.and-self.ensures ∙ (λ i. (counted.past i).items ++ counted.held i ∷ [])) _ _;
      back = ap runs_in counted.back;
      counts = record { later = counted.counts.later; none = fine.counts.none; failed = tt };
      succeeds = λ some. refl;
      stops = λ none. fine.stops none;
      last_synced = c.settle.ensures.last_synced ∙ ap (λ h. (file_of h).content) counted.held;
      last_synced_err = tt;
      left = counted.left;
    }
