use Rattle.online_index.proofs.laws.every_range.Goals as goal

pub returns-clause-ascending : goal.returns-clause-ascending
returns-clause-ascending c = λ v range. c.each_visible.ensures.ascending v.entries range

pub returns-clause-rows : goal.returns-clause-rows
returns-clause-rows c = λ b w steps v begun run h complete quiet range p.
    let seen = c.each_visible.ensures.each v.entries range p in
    let row = c.every_index.ensures.exact b w steps v begun run h complete quiet p in (
      λ shown. let s = seen.0 shown in (row.0 s.0, s.1),
      λ is. seen.1 (row.1 is.0, is.1),
    )
