use Rattle.std.proofs.Common.{◌≡◌, refl, ◌∙◌, ap, sym, subst, arith, ℕ, ◌+◌, ◌≤◌, List, length, replicate, slice_index, vec_len, vec_capacity}
use Rattle.std.proofs.Common.{false, slice_index_or}
use Rattle.std.proofs.Math.ListN.{length-replicate}
use Rattle.sector_device.specs.Disk.{IsDiskWhole}
use Rattle.sector_device.specs.Values.{zero_sector}
use Rattle.sector_device.proofs.Record.{represents_crashed, zeros_are_whole, all_zero, synced_count, synced_count_at_most, no_flag}
use Rattle.std.proofs.lemmas.Result.{err_from_is_err_and}
use Rattle.sector_device.specs.Memory.{MemoryState, initial_state, state_after}
use Rattle.sector_device.proofs.memory.MemDisk.new.Goals as goal

pub invariant_of-result : goal.invariant_of-result
invariant_of-result g c =
    let first = c.in_ok-zeros.ensures in
    let content = c.in_ok-zeros-2.ensures in
    let before = c.in_ok-zeros-3.ensures in
    let stamps : c.in_ok-vec.field-0.items ≡ replicate c.args.sectors 0 = c.in_ok-vec.ensures.items_if_clones_equal (λ y is. is) in
    let whole : IsDiskWhole c.in_ok-zeros-2.field-0.items = subst IsDiskWhole (sym content) (zeros_are_whole c.args.sectors) in
    let none : (k : ℕ) → slice_index c.in_ok-vec.field-0.items k ≡ 0 = λ k. ap (λ (l : List ℕ). slice_index l k) stamps ∙ all_zero c.args.sectors k in
    let size : length c.in_ok-zeros-2.field-0.items ≡ c.args.sectors = ap length content ∙ length-replicate c.args.sectors zero_sector in
    let stamps_size : length c.in_ok-vec.field-0.items ≡ c.args.sectors = ap length stamps ∙ length-replicate c.args.sectors 0 in
    let wide : c.args.sectors ≤ vec_capacity c.in_ok-with_capacity.field-0 =
    omega (arith, (rw c.in_ok-room.ensures.ok_part at c.checked_add.ensures).1, c.in_ok-with_capacity.ensures.exact) in
    let empty : vec_len c.in_ok-with_capacity.field-0 ≡ 0 = c.in_ok-with_capacity.ensures.len in
    let fewer = synced_count_at_most 0 c.in_ok-vec.field-0.items in
    let fits : length c.in_ok-zeros-2.field-0.items ≤ vec_capacity c.in_ok-with_capacity.field-0 = omega (arith, size, wide) in
    let room : vec_len c.in_ok-with_capacity.field-0 + synced_count 0 c.in_ok-vec.field-0.items ≤ vec_capacity c.in_ok-with_capacity.field-0 =
    omega (arith, fewer, stamps_size, wide, empty) in
    record {
      represents = represents_crashed _ _ _ _ _ (first ∙ sym content) c.in_ok-with_capacity.ensures.items whole (ap length (before ∙ sym content)) (stamps_size
          ∙ sym size) none;
      first_size = ap length (first ∙ sym content);
      first_whole = subst IsDiskWhole (sym first) (zeros_are_whole c.args.sectors);
      size = fits;
      room = room;
    }

pub returns : goal.returns
returns g c =
    let zeros = replicate c.args.sectors zero_sector in
    let begun : state_after (initial_state c.in_ok-zeros.field-0.items) c.in_ok-with_capacity.field-0.items ≡ initial_state zeros =
    ap (state_after (initial_state c.in_ok-zeros.field-0.items)) c.in_ok-with_capacity.ensures.items ∙ ap initial_state c.in_ok-zeros.ensures in
    let content = ap (λ (s : MemoryState). s.content) begun in
    let size : length c.in_ok-zeros-2.field-0.items ≡ c.args.sectors = ap length c.in_ok-zeros-2.ensures ∙ length-replicate c.args.sectors zero_sector in
    let sum : c.in_ok-room.room ≡ c.args.calls + c.args.sectors = (rw c.in_ok-room.ensures.ok_part at c.checked_add.ensures).1 in
    record {
      zeros = content;
      synced = λ k. ap (λ (s : MemoryState). slice_index_or s.unsynced k false) begun ∙ no_flag (length zeros) k;
      last_synced = ap (λ (s : MemoryState). s.synced) begun ∙ sym content;
      moment = ap length c.in_ok-with_capacity.ensures.items;
      failures = refl;
      room = omega (arith, sum, size, c.in_ok-with_capacity.ensures.exact);
      left = omega (arith, sum, size, c.in_ok-with_capacity.ensures.exact, c.in_ok-with_capacity.ensures.len);
    }

pub returns-in_err-room : goal.returns-in_err-room
returns-in_err-room g c =
    rw (err_from_is_err_and c.from_residual.result c.from_residual.ensures.1).1
    (record { zeros = tt; synced = tt; last_synced = tt; moment = tt; failures = tt; room = tt; left = tt })

pub returns-in_err-zeros : goal.returns-in_err-zeros
returns-in_err-zeros g c =
    rw (err_from_is_err_and c.from_residual-in_err-zeros.result c.from_residual-in_err-zeros.ensures.1).1
    (record { zeros = tt; synced = tt; last_synced = tt; moment = tt; failures = tt; room = tt; left = tt })

pub returns-in_err-with_capacity : goal.returns-in_err-with_capacity
returns-in_err-with_capacity g c =
    rw (err_from_is_err_and c.from_residual-in_err-with_capacity.result c.from_residual-in_err-with_capacity.ensures.1).1
    (record { zeros = tt; synced = tt; last_synced = tt; moment = tt; failures = tt; room = tt; left = tt })

pub returns-in_err-zeros-2 : goal.returns-in_err-zeros-2
returns-in_err-zeros-2 g c =
    rw (err_from_is_err_and c.from_residual-in_err-zeros-2.result c.from_residual-in_err-zeros-2.ensures.1).1
    (record { zeros = tt; synced = tt; last_synced = tt; moment = tt; failures = tt; room = tt; left = tt })

pub returns-in_err-zeros-3 : goal.returns-in_err-zeros-3
returns-in_err-zeros-3 g c =
    rw (err_from_is_err_and c.from_residual-in_err-zeros-3.result c.from_residual-in_err-zeros-3.ensures.1).1
    (record { zeros = tt; synced = tt; last_synced = tt; moment = tt; failures = tt; room = tt; left = tt })

pub returns-in_err-vec : goal.returns-in_err-vec
returns-in_err-vec g c =
    rw (err_from_is_err_and c.from_residual-in_err-vec.result c.from_residual-in_err-vec.ensures.1).1
    (record { zeros = tt; synced = tt; last_synced = tt; moment = tt; failures = tt; room = tt; left = tt })
