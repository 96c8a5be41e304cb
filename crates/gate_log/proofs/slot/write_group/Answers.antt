use Rattle.std.proofs.Common.{◌+◌, ap, arith, ◌∙◌}
use Rattle.std.specs.List.{concat}
use Rattle.sector_device.proofs.Moments.{joined}
use Rattle.sector_device.proofs.Sectors.{same_part}
use Rattle.gate_log.specs.Steps.{IsPartlyWritten}
use Rattle.sector_device.proofs.Counts.{counts_later}
use Rattle.gate_log.proofs.Runs.{on_ok_always}
use Rattle.gate_log.proofs.Slots.{partly_before, partly_after}
use Rattle.gate_log.proofs.slot.write_group.Goals as goal

pub returns-in_err-write_body-clause-any_moment : goal.returns-in_err-write_body-clause-any_moment
returns-in_err-write_body-clause-any_moment g c = partly_before _ _ c.args.gate c.args.bytes.now c.requires.synced c.write_body.ensures.within

pub returns-clause-any_moment : goal.returns-clause-any_moment
returns-clause-any_moment g c =
    let h = g.D.Device.past_of in
    let old = h c.args.device.now in
    let mid = h c.write_body.new.device in
    let new = h c.open_gate.new.device in
    let gate = c.args.gate in
    let body = c.args.bytes.now in
    joined old mid new (IsPartlyWritten old.disk gate body) (partly_before old mid gate body c.requires.synced c.write_body.ensures.within)
    (partly_after old mid new gate body c.write_body.ensures.outside c.in_ok-write_body.ensures.written c.open_gate.ensures.within)

pub returns-clause-written : goal.returns-clause-written
returns-clause-written g c =
    let h = g.D.Device.past_of in
    let mid = (h c.write_body.new.device).disk.content in
    let new = (h c.open_gate.new.device).disk.content in
    let gate = c.args.gate in
    let gates = c.open_gate.ensures.within.now.content in
    on_ok_always _ c.open_gate.result
    (ap concat (same_part new mid (gate + 1) (gate + 8) gates.sectors (λ k low high. gates.same k (λ is. omega (arith, is, low))))
    ∙ c.in_ok-write_body.ensures.written)

pub returns-clause-outside : goal.returns-clause-outside
returns-clause-outside g c =
    let gates = c.open_gate.ensures.within.now.content in
    let first = c.write_body.ensures.outside in
    record {
      sectors = gates.sectors ∙ first.sectors;
      same = λ k out. gates.same k (λ is. out (omega (arith, is), omega (arith, is)))
          ∙ first.same k (λ inside. out (omega (arith, inside.0), inside.1));
    }

pub returns-in_err-write_body-clause-outside : goal.returns-in_err-write_body-clause-outside
returns-in_err-write_body-clause-outside g c =
    let first = c.write_body.ensures.outside in
    record { sectors = first.sectors; same = λ k out. first.same k (λ inside. out (omega (arith, inside.0), inside.1)) }

pub returns-clause-counts : goal.returns-clause-counts
returns-clause-counts g c = counts_later _ _ _ c.open_gate.result c.in_ok-write_body.ensures.counts.none c.open_gate.ensures.counts
