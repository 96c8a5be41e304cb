use Rattle.std.proofs.Common.{◌≡◌, ◌∙◌, ap, sym, subst, length, replicate, false, List, Bool, slice_index_or}
use Rattle.std.proofs.Math.ListN.{length-replicate}
use Rattle.block_device.specs.Blocks.{IsWhole, zero_block}
use Rattle.block_device.proofs.CrashFiles.{zeros_are_whole, no_flag}
use Rattle.block_device.proofs.held.Held.new.Goals as goal

pub invariant_of-result : goal.invariant_of-result
invariant_of-result g c =
    let content = c.in_ok-zero_blocks.ensures in
    let synced = c.in_ok-zero_blocks-2.ensures in
    let marks : c.in_ok-vec.field-0.items ≡ replicate c.args.blocks false = c.in_ok-vec.ensures.items_if_clones_equal (λ y is. is) in
    record {
      whole = subst IsWhole (sym content) (zeros_are_whole c.args.blocks);
      synced_whole = subst IsWhole (sym synced) (zeros_are_whole c.args.blocks);
      synced_size = ap length (synced ∙ sym content);
      loose_size = ap length marks ∙ length-replicate c.args.blocks false ∙ sym (ap length content ∙ length-replicate c.args.blocks zero_block);
    }

pub returns-clause-synced : goal.returns-clause-synced
returns-clause-synced g c = λ n.
    let marks : c.in_ok-vec.field-0.items ≡ replicate c.args.blocks false = c.in_ok-vec.ensures.items_if_clones_equal (λ y is. is) in
    ap (λ (l : List Bool). slice_index_or l n false) marks ∙ no_flag c.args.blocks n
