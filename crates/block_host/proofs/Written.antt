-- Runs of blocks that were written since the last sync.
use Rattle.std.proofs.Common.{◌≡◌, ℕ, Bool, true, false, ◌||◌, List, [], ◌∷◌, ◌++◌, length, refl, ◌∙◌, ap}
use Rattle.std.proofs.Math.Path.{fun_ext}
use Rattle.block_device.specs.Blocks.{CrashFile, BlockFile, after_sync, after_write, is_in_run, with_run}
use Rattle.block_host.specs.declared.held.Run.{Run}
use Rattle.block_host.specs.FileBlocks.{is_in_any}

or_swap : (a b c : Bool) → (a || (b || c)) ≡ (b || (a || c))
or_swap true true c = refl
or_swap true false c = refl
or_swap false true c = refl
or_swap false false c = refl

one_more : (runs : List Run) (run : Run) (n : ℕ) → is_in_any (runs ++ run ∷ []) n ≡ (is_in_run run.first run.count n || is_in_any runs n)
one_more [] run n = refl
one_more (r ∷ runs) run n =
    ap (λ (b : Bool). is_in_run r.first r.count n || b) (one_more runs run n)
    ∙ or_swap (is_in_run r.first r.count n) (is_in_run run.first run.count n) (is_in_any runs n)

-- a run is written
pub written : (content now : CrashFile) (runs more : List Run) (first : ℕ) (run : CrashFile) → now ≡ with_run content first run
    → more ≡ runs ++ record { first = first; count = length run } ∷ []
    → Path BlockFile (record { content = now; loose = is_in_any more }) (after_write (record { content = content; loose = is_in_any runs }) first run)
written content now runs more first run is longer = λ i. record { content = is i; loose = flagged i }
  where
    flagged : Path (ℕ → Bool) (is_in_any more) (λ n. is_in_run first (length run) n || is_in_any runs n)
    flagged = ap is_in_any longer ∙ fun_ext (one_more runs (record { first = first; count = length run }))

-- all is synced
pub settled : (content : CrashFile) (runs none : List Run) → none ≡ []
    → Path BlockFile (record { content = content; loose = is_in_any none }) (after_sync (record { content = content; loose = is_in_any runs }))
settled content runs none is = λ i. record { content = content; loose = (ap is_in_any is ∙ fun_ext (λ n. refl)) i }
