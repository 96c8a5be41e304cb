use Rattle.std.proofs.Common.{◌≡◌, ◌<◌, ◌≤◌, length, take, sym, ap, ◌∙◌, ⊎_elim, arith}
use Rattle.std.proofs.lemmas.Bool.{cases_lt}
use Rattle.std.proofs.lemmas.List.{take_all, length-take}
use Rattle.records.specs.RecordValue.{RecordValue}
use Rattle.gate_log.specs.Group.{spellings}
use Rattle.gate_log.proofs.Groups.{spellings-nil, length_more}
use Rattle.gate_log.proofs.group.group_len.Goals as goal

pub loop-count-init : goal.loop-count-init
loop-count-init c = record { len = sym (ap length spellings-nil); short = omega arith }

pub loop-count-preserved : goal.loop-count-preserved
loop-count-preserved c =
    let so_far = c.loop-count.invariant in
    let more = length_more c.args.records.now c.loop-count.count c.index-records-count.result c.loop-count-test.true c.index-records-count.is in
    record { len = omega (arith, more, so_far.len, c.size-len.ensures.size); short = c.if-len-gt-GROUP_MAX.false }

pub returns-then-len-gt-GROUP_MAX-clause-most : goal.returns-then-len-gt-GROUP_MAX-clause-most
returns-then-len-gt-GROUP_MAX-clause-most c = λ _.
    let more = length_more c.args.records.now c.loop-count.count c.index-records-count.result c.loop-count-test.true c.index-records-count.is in
    omega (arith, more, c.loop-count.invariant.len, c.size-len.ensures.size, c.if-len-gt-GROUP_MAX.true)

pub returns-then-len-gt-GROUP_MAX-clause-fits : goal.returns-then-len-gt-GROUP_MAX-clause-fits
returns-then-len-gt-GROUP_MAX-clause-fits c = λ _.
    let count = c.loop-count.count in
    let records = c.args.records.now in
    let so_far = c.loop-count.invariant in
    let some : 1 ≤ count = ⊎_elim
    (λ (some : 0 < count). some)
    (λ (none : count ≤ 0).
    let first : count ≡ 0 = omega (arith, none) in
    let empty : length (spellings (take count records)) ≡ 0 = ap (λ n. length (spellings (take n records))) first ∙ ap length spellings-nil in
    absurd (omega (arith, empty, so_far.len, c.size-len.ensures.most, c.if-len-gt-GROUP_MAX.true)))
    (cases_lt 0 count) in
    record { some = omega (arith, some, length-take {A = RecordValue} count records, c.loop-count-test.true); short = omega (arith, so_far.len, so_far.short) }

pub returns-clause-fits : goal.returns-clause-fits
returns-clause-fits c = λ some.
    let records = c.args.records.now in
    let whole : take (length records) records ≡ records = take_all (length records) records (omega arith) in
    let read : take c.loop-count.count records ≡ records = take_all c.loop-count.count records c.loop-count-test.false in
    record {
      some = omega (arith, some, ap length whole);
      short = omega (arith, ap (λ rs. length (spellings rs)) (whole ∙ sym read), c.loop-count.invariant.len, c.loop-count.invariant.short);
    }
