use Rattle.std.proofs.Common.{Some, None, sym, ◌∙◌, arith}
use Rattle.std.specs.Prelude.{if◌then◌else◌}
use Rattle.block_file.specs.Header.{can_be, plan_for}
use Rattle.block_file.proofs.Telling.{no_digest, no_text, no_version, tells, tells_none, yes_header}
use Rattle.block_file.proofs.header.read_header.Goals as goal

pub returns-then-words-ne-TEXT-clause-told : goal.returns-then-words-ne-TEXT-clause-told
returns-then-words-ne-TEXT-clause-told c =
    let block = c.args.block.now in
    let told = c.words_of-words.ensures in
    sym (tells_none block (no_text block (λ same. c.if-words-ne-TEXT.true (told 0 (omega arith) ∙ same))))

pub returns-then-words-ne-VERSION-clause-told : goal.returns-then-words-ne-VERSION-clause-told
returns-then-words-ne-VERSION-clause-told c =
    let block = c.args.block.now in
    let told = c.words_of-words.ensures in
    sym (tells_none block (no_version block (λ same. c.if-words-ne-VERSION.true (told 1 (omega arith) ∙ same))))

pub returns-then-words-fitting-clause-told : goal.returns-then-words-fitting-clause-told
returns-then-words-fitting-clause-told c =
    let block = c.args.block.now in
    let told = c.words_of-words.ensures in
    sym (tells_none block (no_digest block (λ same. c.if-words-fitting.true (told 511 (omega arith) ∙ same ∙ sym c.digest-fitting.ensures))))

pub returns-clause-told : goal.returns-clause-told
returns-clause-told c =
    let block = c.args.block.now in
    let told = c.words_of-words.ensures in
    let second = told 2 (omega arith) in
    let third = told 3 (omega arith) in
    let fourth = told 4 (omega arith) in
    c.new.ensures.plan
    ∙ (λ i. if can_be (second i) (third i) (fourth i) then Some (plan_for (second i) (third i) (fourth i)) else None)
    ∙ sym (tells block (yes_header block (sym (told 0 (omega arith)) ∙ c.if-words-ne-TEXT.false)
    (sym (told 1 (omega arith)) ∙ c.if-words-ne-VERSION.false) (sym (told 511 (omega arith)) ∙ c.if-words-fitting.false ∙ c.digest-fitting.ensures)))
