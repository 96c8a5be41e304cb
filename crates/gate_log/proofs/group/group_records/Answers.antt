use Rattle.std.proofs.Common.{◌≡◌, ◌∙◌, List, All, drop, take, sym, ap, subst, arith}
use Rattle.std.proofs.lemmas.Bool.{false≢true}
use Rattle.records.specs.RecordValue.{RecordValue}
use Rattle.gate_log.specs.Group.{IsGroupIn}
use Rattle.gate_log.specs.Steps.{AreSpelled}
use Rattle.gate_log.proofs.Groups.{parted, from_parts, found_map}
use Rattle.gate_log.proofs.group.group_records.Goals as goal

pub returns-then-count-eq0-clause-found : goal.returns-then-count-eq0-clause-found
returns-then-count-eq0-clause-found g c = λ records group.
    let numbers = c.read_header-count in
    let parts = parted c.args.version records c.args.body.now (drop 4 c.args.body.now) numbers.result.0 numbers.result.1 (omega arith)
    (omega arith) numbers.ensures group in
    omega (arith, parts.some, c.if-count-eq0.true)

pub returns-then-len-gt-GROUP_MAX-clause-found : goal.returns-then-len-gt-GROUP_MAX-clause-found
returns-then-len-gt-GROUP_MAX-clause-found g c = λ records group.
    let numbers = c.read_header-count in
    let parts = parted c.args.version records c.args.body.now (drop 4 c.args.body.now) numbers.result.0 numbers.result.1 (omega arith)
    (omega arith) numbers.ensures group in
    omega (arith, parts.short, c.if-len-gt-GROUP_MAX.true, c.from-len.ensures)

pub returns-then-not-are_zeros-clause-found : goal.returns-then-not-are_zeros-clause-found
returns-then-not-are_zeros-clause-found g c = λ records group.
    let numbers = c.read_header-count in
    let body = c.args.body.now in
    let parts = parted c.args.version records body (drop 4 body) numbers.result.0 numbers.result.1 (omega arith) (omega arith) numbers.ensures group in
    let zeros : drop numbers.result.1 (drop 4 body) ≡ c.split_at-2.result.1.now = ap (λ n. drop n (drop 4 body)) (sym c.from-len.ensures)
    ∙ ap (drop c.from-len.result) (sym c.split_at.ensures.back) ∙ sym c.split_at-2.ensures.back in
    false≢true (sym c.if-not-are_zeros.true ∙ c.are_zeros.ensures.1 (subst (All (λ b. b ≡ 0)) zeros parts.zeros-are))

pub returns-clause-found : goal.returns-clause-found
returns-clause-found g c =
    let numbers = c.read_header-count in
    let body = c.args.body.now in
    let count = numbers.result.0 in
    let len = numbers.result.1 in
    let rest = drop 4 body in
    let spelled : take len rest ≡ c.split_at-2.result.0.now = ap (λ n. take n rest) (sym c.from-len.ensures)
    ∙ ap (take c.from-len.result) (sym c.split_at.ensures.back) ∙ sym c.split_at-2.ensures.front in
    let zeros : drop len rest ≡ c.split_at-2.result.1.now = ap (λ n. drop n rest) (sym c.from-len.ensures)
    ∙ ap (drop c.from-len.result) (sym c.split_at.ensures.back) ∙ sym c.split_at-2.ensures.back in
    found_map
    ((records : List RecordValue) → ¬ AreSpelled c.args.version records count c.split_at-2.result.0.now)
    ((records : List RecordValue) → ¬ IsGroupIn c.args.version records body)
    (λ v. AreSpelled c.args.version v.items count c.split_at-2.result.0.now)
    (λ v. IsGroupIn c.args.version v.items body)
    c.spelled_records.result
    (λ none records group. none records (subst (AreSpelled c.args.version records count) spelled
    (parted c.args.version records body rest count len (omega arith) (omega arith) numbers.ensures group).are))
    (λ v are. from_parts c.args.version v.items body rest count len c.requires numbers.ensures (record {
      some = omega (arith, c.if-count-eq0.false);
      short = omega (arith, c.if-len-gt-GROUP_MAX.false, c.from-len.ensures);
      are = subst (AreSpelled c.args.version v.items count) (sym spelled) are;
      zeros-are = subst (All (λ b. b ≡ 0)) (sym zeros) (c.are_zeros.ensures.0 c.if-not-are_zeros.false);
    }))
    c.spelled_records.ensures.found
