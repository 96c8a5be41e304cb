use Rattle.record_values.specs.declared.key.TheConstants.{KEY_MAX}
use Rattle.std.proofs.Common.{ap, arith, false, is_ok, length, rules, sym, true, true≢false, ◌∙◌, ◌≡◌, ◌≤◌}
use Rattle.online_notes.proofs.Bytes.{key_is, pair_length, slot_is, spelled}
use Rattle.online_notes.proofs.reading.pair_of.Goals as goal

pub returns-in_err-page-clause-none : goal.returns-in_err-page-clause-none
returns-in_err-page-clause-none c = rw c.from_residual.ensures (λ p w e.
    absurd (omega (arith, c.in_err-page.ensures.cases, ap length e, pair_length p)))

pub returns-in_err-slot-clause-none : goal.returns-in_err-slot-clause-none
returns-in_err-slot-clause-none c = rw c.from_residual-in_err-slot.ensures (λ p w e.
    absurd (omega (arith, c.in_err-slot.ensures.cases, c.in_ok-page.ensures.cases.2, ap length e, pair_length p)))

pub returns-then-slot-ge-SLOTS_PER_PAGE-clause-none :
    goal.returns-then-slot-ge-SLOTS_PER_PAGE-clause-none
returns-then-slot-ge-SLOTS_PER_PAGE-clause-none c = λ p w e.
    let is = slot_is c.args.bytes.now c.in_ok-page.rest.now c.in_ok-slot.slot.now p w e c.in_ok-page.ensures.cases.1
    c.in_ok-slot.ensures.cases.0 in
    absurd (omega (arith, is, w.slot, c.slot_of-slot.ensures.number, c.if-slot-ge-SLOTS_PER_PAGE.true))

pub returns-in_default-clause-none : goal.returns-in_default-clause-none
returns-in_default-clause-none c = λ p w e.
    let is = key_is c.args.bytes.now c.in_ok-page.rest.now c.in_ok-slot.key.now p e c.in_ok-page.ensures.cases.1
    c.in_ok-slot.ensures.cases.1 in
    let fits : length c.in_ok-slot.key.now ≤ KEY_MAX = omega (arith, ap length is, w.key) in
    let ok : is_ok c.new.result ≡ true = c.new.ensures.fits.1 fits in
    let failed : is_ok c.new.result ≡ false = search rules in
    absurd (true≢false (sym ok ∙ failed))

pub returns-clause-spelled : goal.returns-clause-spelled
returns-clause-spelled c = spelled c.args.bytes.now c.in_ok-page.page.now c.in_ok-page.rest.now c.in_ok-slot.slot.now c.in_ok-slot.key.now
    _ c.page_of-page.result c.slot_of-slot.result
    c.in_ok-page.ensures.cases.0 c.in_ok-page.ensures.cases.1 c.in_ok-slot.ensures.cases.0 c.in_ok-slot.ensures.cases.1
    c.page_of-page.ensures.spelled c.slot_of-slot.ensures.spelled (search rules)
