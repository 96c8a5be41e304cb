use Rattle.std.proofs.Common.{◌≡◌, inl, inr, ℕ, ◌<◌, ◌||◌, ◌==◌, Bool, List, [], length, slice_index_or, true, false, refl, sym, ◌∙◌, ap, subst, arith}
use Rattle.std.proofs.lemmas.Bool.{cases_eq}
use Rattle.std.proofs.lemmas.Bool.Decides.{nat_tests}
use Rattle.std.proofs.lemmas.List.{get_or_read, set-get_or}
use Rattle.sector_device.specs.Disk.{CrashState, sector, after_write}
use Rattle.sector_device.specs.Memory.{initial_state, state_after, disk_of}
use Rattle.sector_device.proofs.Record.{elapses_same, is_unsynced}
use Rattle.sector_device.proofs.memory.MemDisk.spoil.Goals as goal

pub returns-then-index-self : goal.returns-then-index-self
returns-then-index-self g c =
    let d = c.args.self.now in
    let disk = disk_of (state_after (initial_state d.first.items) d.calls.items) in
    let done = c.put.ensures in
    let inside : c.args.n < length d.content.items = omega (arith, c.requires, ap length d.represents.content_is) in
    let bytes = get_or_read d.content.items _ _ inside c.index-then-index-self.ensures []
    ∙ ap (λ (l : CrashState). sector l c.args.n) (sym d.represents.content_is) in
    record {
      disk = done.disk ∙ ap (after_write disk c.args.n) bytes;
      time = done.time;
      last_synced = done.last_synced;
      failures = done.failures;
      left = done.left;
      room = done.room;
    }

marked : (flags : List Bool) (n k : ℕ) → slice_index_or flags n false ≡ true
    → slice_index_or flags k false ≡ ((k == n) || slice_index_or flags k false)
marked flags n k is = elim (cases_eq k n) [
  | inl same ↦ grind (arith, nat_tests, same, is)
  | inr other ↦ grind (arith, nat_tests, other)
]

pub returns-else-index-self : goal.returns-else-index-self
returns-else-index-self g c =
    let d = c.args.self.now in
    let n = c.args.n in
    let s = state_after (initial_state d.first.items) d.calls.items in
    let there : n < length d.written_at.items = omega (arith, c.requires, ap length d.represents.content_is, d.represents.written_size) in
    let at = get_or_read d.written_at.items _ _ there c.index.ensures 0 in
    let here : slice_index_or s.unsynced n false ≡ true = subst (λ (l : List Bool). slice_index_or l n false ≡ true) (sym d.represents.unsynced_is)
    (is_unsynced d.synced_at d.written_at.items n there (omega (arith, at, c.if-index-self.false))) in
    record {
      disk = λ i. record { content = sym (set-get_or s.content n []) i; unsynced = λ k. marked s.unsynced n k here i };
      time = elapses_same d.first.items d.calls.items d.calls.items d.represents.whole d.represents.whole refl;
      last_synced = refl;
      failures = refl;
      left = omega arith;
      room = omega arith;
    }
