use Rattle.std.proofs.Common.{◌≡◌, ℕ, List, take, ap, sym, subst, arith}
use Rattle.std.specs.Io.KnownBytes.{Appends}
use Rattle.std.proofs.KnownBytes.{Appends-nil, Appends-trans}
use Rattle.std.proofs.lemmas.List.{take_all}
use Rattle.nsf_core.specs.Value.{value_of}
use Rattle.program_rows.specs.Exported.{pair_records, row_record}
use Rattle.program_rows.proofs.PairRecords.{records_more}
use Rattle.program_rows.proofs.exporting.print_pairs.Goals as goal

pub loop-pair-init : goal.loop-pair-init
loop-pair-init g c = Appends-nil (g.W.Write.contents c.args.output.now)

pub loop-pair-preserved : goal.loop-pair-preserved
loop-pair-preserved g c =
    let contents = g.W.Write.contents in
    let rows = (value_of c.args.core.now).heap.rows in
    let pairs = c.args.pairs.now in
    let i = c.loop-pair.pair-index in
    let pair = c.pair-item.result in
    subst (λ (bytes : List ℕ). Appends (contents c.args.output.now) (contents c.print_row.new.output) bytes)
    (sym (records_more c.args.format rows pairs i pair (omega arith) c.pair-item.is))
    (Appends-trans (contents c.args.output.now) (contents c.loop-pair.output) (contents c.print_row.new.output) (pair_records c.args.format rows (take i pairs))
    (row_record c.args.format rows pair.rid) c.loop-pair.invariant c.in_ok-print_row.ensures.printed)

pub returns-clause-printed : goal.returns-clause-printed
returns-clause-printed g c =
    let contents = g.W.Write.contents in
    let rows = (value_of c.args.core.now).heap.rows in
    let pairs = c.args.pairs.now in
    let all : take c.loop-pair.pair-index pairs ≡ pairs = take_all c.loop-pair.pair-index pairs c.loop-pair-test.false in
    subst (λ (bytes : List ℕ). Appends (contents c.args.output.now) (contents c.loop-pair.output) bytes) (ap (pair_records c.args.format rows) all)
    c.loop-pair.invariant
