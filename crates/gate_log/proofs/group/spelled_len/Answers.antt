use Rattle.std.proofs.Common.{◌∙◌, ◌+◌, length, ap, sym, arith}
use Rattle.std.proofs.lemmas.List.{take_all}
use Rattle.gate_log.specs.Group.{spellings}
use Rattle.gate_log.proofs.Groups.{spellings-nil, length_more, front_shorter}
use Rattle.gate_log.proofs.group.spelled_len.Goals as goal

pub loop-record-init : goal.loop-record-init
loop-record-init c = sym (ap length spellings-nil)

pub loop-record-preserved : goal.loop-record-preserved
loop-record-preserved c =
    let more = length_more c.args.records.now c.loop-record.record-index c.record-item.result c.loop-record-test.true c.record-item.is in
    omega (arith, more, c.loop-record.invariant, c.size-len.ensures.size)

pub overflow_add-len : goal.overflow_add-len
overflow_add-len c =
    let records = c.args.records.now in
    let i = c.loop-record.record-index in
    let more = length_more records i c.record-item.result c.loop-record-test.true c.record-item.is in
    let shorter = front_shorter (i + 1) records in
    omega (arith, more, shorter, c.loop-record.invariant, c.size-len.ensures.size, c.requires.short)

pub returns : goal.returns
returns c = c.loop-record.invariant ∙ ap (λ rs. length (spellings rs)) (take_all c.loop-record.record-index c.args.records.now c.loop-record-test.false)
