use Rattle.std.proofs.Common.{◌≡◌, ℕ, List, take, ap, sym, subst, arith}
use Rattle.std.specs.Io.KnownBytes.{Appends}
use Rattle.std.proofs.KnownBytes.{Appends-nil, Appends-trans}
use Rattle.std.proofs.lemmas.List.{take_all}
use Rattle.program_commands.specs.Pages.{pair_line, pair_lines}
use Rattle.program_commands.proofs.PairLines.{lines_more}
use Rattle.program_commands.proofs.pages.print_pairs.Goals as goal

pub loop-pair-init : goal.loop-pair-init
loop-pair-init g c = Appends-nil (g.W.Write.contents c.args.output.now)

pub loop-pair-preserved : goal.loop-pair-preserved
loop-pair-preserved g c =
    let contents = g.W.Write.contents in
    let pairs = c.args.pairs.now in
    let i = c.loop-pair.pair-index in
    let pair = c.pair-item.result in
    subst (λ (bytes : List ℕ). Appends (contents c.args.output.now) (contents c.print_pair.new.output) bytes)
    (sym (lines_more pairs i pair (omega arith) c.pair-item.is))
    (Appends-trans (contents c.args.output.now) (contents c.loop-pair.output) (contents c.print_pair.new.output) (pair_lines (take i pairs)) (pair_line pair)
    c.loop-pair.invariant c.in_ok-print_pair.ensures)

pub returns : goal.returns
returns g c =
    let contents = g.W.Write.contents in
    let pairs = c.args.pairs.now in
    let all : take c.loop-pair.pair-index pairs ≡ pairs = take_all c.loop-pair.pair-index pairs c.loop-pair-test.false in
    subst (λ (bytes : List ℕ). Appends (contents c.args.output.now) (contents c.loop-pair.output) bytes) (ap pair_lines all) c.loop-pair.invariant
