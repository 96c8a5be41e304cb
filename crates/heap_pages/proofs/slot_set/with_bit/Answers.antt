use Rattle.std.proofs.Common.{◌<◌, ◌^◌, cond, w64, sym, ap, subst, ◌∙◌, arith}
use Rattle.std.proofs.lemmas.Nat.{one_shl, or_lt, pow_below}
use Rattle.std.proofs.lemmas.Nat.Bits.{bit_at_set_same, bit_at_set_other, bit_at_clear_same, bit_at_clear_other}
use Rattle.heap_pages.proofs.SlotBits.{still_few}
use Rattle.heap_pages.proofs.slot_set.with_bit.Goals as goal

pub returns-then-is_in : goal.returns-then-is_in
returns-then-is_in c =
    let within : c.args.slot < 64 = omega (arith, c.requires.inside) in
    record {
      few = or_lt 63 c.args.bits _ c.requires.few
          (subst (λ n. n < 2 ^ 63) (sym (one_shl c.args.slot 64 within)) (pow_below c.args.slot 63 c.requires.inside));
      bit = bit_at_set_same w64 c.args.bits c.args.slot within ∙ sym (ap (λ b. cond b 1 0) c.if-is_in.true);
      others = λ i low other. bit_at_set_other w64 c.args.bits c.args.slot within i other;
    }

pub returns-else-is_in : goal.returns-else-is_in
returns-else-is_in c =
    let within : c.args.slot < 64 = omega (arith, c.requires.inside) in
    record {
      few = still_few c.args.bits _ c.requires.few;
      bit = bit_at_clear_same w64 c.args.bits c.args.slot within ∙ sym (ap (λ b. cond b 1 0) c.if-is_in.false);
      others = bit_at_clear_other w64 c.args.bits c.args.slot within;
    }
