use Rattle.std.proofs.Common.{◌≡◌, ⊎_elim, ℕ, ◌+◌, ◌*◌, ◌<◌, List, sym, subst, arith}
use Rattle.std.specs.Prelude.{slice_get}
use Rattle.std.proofs.lemmas.Bool.{cases_lt}
use Rattle.store_image_half.specs.Layout.{cut}
use Rattle.store_image_half.specs.Steps.{IsEntryPlace}
use Rattle.store_image_half.proofs.write.entries_sector.Goals as goal

pub loop-j-preserved : goal.loop-j-preserved
loop-j-preserved c = λ i less.
    let j = c.loop-j.j in
    ⊎_elim
    (λ (lower : i < j). subst (λ (b : List ℕ). IsEntryPlace b (slice_get c.args.entries.now (8 * c.args.k + i))) (sym (c.put_piece.ensures.before i lower))
    (c.loop-j.invariant i lower))
    (λ higher.
    let same : i ≡ j = omega (arith, less, higher) in
    subst (λ n. IsEntryPlace (cut c.put_piece.new.buffer 64 n) (slice_get c.args.entries.now (8 * c.args.k + n))) (sym same)
    (subst (λ (b : List ℕ). IsEntryPlace b (slice_get c.args.entries.now (8 * c.args.k + j))) (sym c.put_piece.ensures.put) c.entry_piece-piece.ensures))
    (cases_lt i j)

pub returns : goal.returns
returns c = λ i below. c.loop-j.invariant i (omega (arith, below, c.loop-j-test.false))
