use Rattle.std.proofs.Common.{◌≡◌, sym, ◌∙◌}
use Rattle.store_writer.specs.declared.image.Stage.TheVariants.{Whole, Partly}
use Rattle.store_writer.proofs.image.with_page.Goals as goal

pub unreachable-requires : goal.unreachable-requires
unreachable-requires c =
    let (pages, count, highest, life, at) = c.requires.partly in
    let no : Whole ≡ Partly pages count highest life = sym c.in_default.is ∙ at in
    cc no

pub returns : goal.returns
returns c = λ pages count highest life at.
    let same : Partly pages count highest life ≡ Partly c.in-Partly.pages c.in-Partly.entries c.in-Partly.highest c.in-Partly.life = sym at ∙ c.in-Partly.is in
    cc same
