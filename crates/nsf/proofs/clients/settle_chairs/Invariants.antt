use Rattle.std.proofs.Common.{◌≡◌, ◌<◌, ◌≤◌, ℕ, Some, length, map}
use Rattle.std.specs.Prelude.{slice_get}
use Rattle.threads_flusher.specs.Part.{IsSafeSince}
use Rattle.nsf.specs.Serving.{unnamed}
use Rattle.nsf.proofs.clients.settle_chairs.Given as goal

abbrev pub invariant-loop-k : goal.invariant-loop-k
invariant-loop-k g l = record {
  same : l.flush ≡ l.fn.flush;
  counted : length l.chairs.items ≡ length l.fn.chairs.items;
  clients : map (λ d. d.client) l.chairs.items ≡ map (λ d. d.client) l.fn.chairs.items;
  numbers : map (λ d. d.seat.number) l.chairs.items ≡ map (λ d. d.seat.number) l.fn.chairs.items;
  seats : map (λ d. unnamed d.seat) l.chairs.items ≡ map (λ d. unnamed d.seat) l.fn.chairs.items;
  rest : (j : ℕ) → l.k ≤ j → slice_get l.chairs.items j ≡ slice_get l.fn.chairs.items j;
  seen : (j : ℕ) (d : _) → j < l.k → slice_get l.fn.chairs.items j ≡ Some d → d.seat.sight.horizon ≤ l.fn.flush.published.horizon;
  marked : (j : ℕ) (d : _) → j < l.k → slice_get l.fn.chairs.items j ≡ Some d
      → IsSafeSince g.D.Device.marks l.fn.flush.publications d.seat.sight.safe d.seat.sight.mark;
}
