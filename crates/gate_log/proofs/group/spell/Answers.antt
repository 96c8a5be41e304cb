use Rattle.std.proofs.Common.{◌∙◌, ◌++◌, List, ℕ, arith, ap}
use Rattle.gate_log.specs.Group.{spellings, header}
use Rattle.gate_log.proofs.Groups.{count-spellings, fits_body, group_filled}
use Rattle.gate_log.proofs.group.spell.Goals as goal

pub overflow_cast-records : goal.overflow_cast-records
overflow_cast-records g c = omega (arith, count-spellings c.args.records.now, c.requires.short)

pub overflow_cast-spelled_len : goal.overflow_cast-spelled_len
overflow_cast-spelled_len g c = omega (arith, c.spelled_len.ensures, c.requires.short)

pub split_at-requires : goal.split_at-requires
split_at-requires g c =
    let front = c.in_ok-extend_from_slice.ensures.items ∙ ap (λ (t : List ℕ). t ++ c.header-header.result) c.in_ok-body.ensures.items
    ∙ c.header-header.ensures ∙ ap (header _) c.spelled_len.ensures in
    let is = c.in_ok-put_all.ensures.ok ∙ ap (λ (t : List ℕ). t ++ spellings c.args.records.now) front in
    let size = fits_body c.args.records.now c.put_all.new.out.items is in
    omega (arith, size, c.requires.short, c.put_all.new.out.ok.0, c.len.ensures)

pub returns-clause-ok : goal.returns-clause-ok
returns-clause-ok g c =
    let all = c.put_all.new.out in
    let front = c.in_ok-extend_from_slice.ensures.items ∙ ap (λ (t : List ℕ). t ++ c.header-header.result) c.in_ok-body.ensures.items
    ∙ c.header-header.ensures ∙ ap (header _) c.spelled_len.ensures in
    let is = c.in_ok-put_all.ensures.ok ∙ ap (λ (t : List ℕ). t ++ spellings c.args.records.now) front in
    group_filled c.args.records.now all.items c.extend_from_slice-2.new.self.items c.len.result c.requires c.in_ok-put_all.ensures.fits is
    (omega (arith, all.ok.0, c.len.ensures)) (c.in_ok-extend_from_slice-2.ensures.items ∙ ap (λ (t : List ℕ). all.items ++ t) c.split_at.ensures.back)
