use Rattle.std.proofs.Common.{◌≡◌, ◌∙◌, ◌++◌, ℕ, List, None, Some, ap, append-nil, append_assoc, arith, subst, sym, take}
use Rattle.std.specs.Io.KnownBytes.{Appends}
use Rattle.std.proofs.KnownBytes.{Appends-trans}
use Rattle.nsf_core.specs.Value.{value_of}
use Rattle.core_scan.specs.Visible.{left_of}
use Rattle.program_rows.specs.Exported.{all_keys, pair_records}
use Rattle.program_rows.specs.declared.exporting.TheConstants.{PAIRS}
use Rattle.program_rows.proofs.PairRecords.{all_left, fewer_left, page_rest, rest_records}
use Rattle.program_rows.proofs.exporting.print_visible.Goals as goal

pub loop-last-init : goal.loop-last-init
loop-last-init g c =
    let core = value_of c.args.core.now in
    let entries = core.index.entries in
    let format = c.args.format in (
      pair_records format core.heap.rows (take PAIRS (left_of entries all_keys None)),
      c.in_ok-last.ensures.printed,
      sym (page_rest entries all_keys None PAIRS (omega arith) format core.heap.rows c.in_ok-last.last c.in_ok-last.ensures.next)
          ∙ all_left format core.heap.rows entries all_keys,
    )

pub loop-last-preserved : goal.loop-last-preserved
loop-last-preserved g c =
    let contents = g.W.Write.contents in
    let core = value_of c.args.core.now in
    let entries = core.index.entries in
    let format = c.args.format in
    let so_far = c.loop-last.invariant in
    let pair = c.in-Some.pair in
    let page = pair_records format core.heap.rows (take PAIRS (left_of entries all_keys (Some pair))) in
    let rest = rest_records entries all_keys format core.heap.rows c.in_ok-last-2.last in
    let so_far_is = rw c.in-Some.is at so_far.2 in (
      so_far.0 ++ page,
      Appends-trans (contents c.args.output.now) (contents c.loop-last.output) (contents c.print_next-in-Some.new.output) so_far.0 page so_far.1
          c.in_ok-last-2.ensures.printed,
      append_assoc so_far.0 page rest
          ∙ ap (λ (l : List ℕ). so_far.0 ++ l) (sym (page_rest entries all_keys (Some pair) PAIRS (omega arith) format core.heap.rows
          c.in_ok-last-2.last c.in_ok-last-2.ensures.next))
          ∙ so_far_is,
    )

pub loop-last-smaller : goal.loop-last-smaller
loop-last-smaller g c =
    let entries = (value_of c.args.core.now).index.entries in
    rw c.in-Some.is (fewer_left entries all_keys c.in-Some.pair PAIRS c.in_ok-last-2.last (omega arith) c.in_ok-last-2.ensures.next)

pub returns-clause-printed : goal.returns-clause-printed
returns-clause-printed g c =
    let contents = g.W.Write.contents in
    let so_far = c.loop-last.invariant in
    let whole = rw c.in_default.is at so_far.2 in
    subst (λ (bytes : List ℕ). Appends (contents c.args.output.now) (contents c.loop-last.output) bytes) (sym (append-nil so_far.0) ∙ whole) so_far.1
