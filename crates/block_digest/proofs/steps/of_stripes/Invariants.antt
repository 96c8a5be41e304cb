use Rattle.std.proofs.Common.{◌≡◌, ◌-◌, ◌^◌}
use Rattle.block_digest.specs.Digest.{lane, plus}
use Rattle.block_digest.specs.declared.steps.TheConstants.{PRIME_1, PRIME_2}
use Rattle.block_digest.proofs.steps.of_stripes.Given as goal

abbrev pub invariant-loop-n : goal.invariant-loop-n
invariant-loop-n l = record {
  a : l.a ≡ lane l.bytes 0 (plus (plus l.seed PRIME_1) PRIME_2) l.n;
  b : l.b ≡ lane l.bytes 8 (plus l.seed PRIME_2) l.n;
  c : l.c ≡ lane l.bytes 16 l.seed l.n;
  d : l.d ≡ lane l.bytes 24 (plus l.seed (2 ^ 64 - PRIME_1)) l.n;
}
