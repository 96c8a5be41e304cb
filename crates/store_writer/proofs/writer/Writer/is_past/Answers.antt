use Rattle.std.proofs.Common.{◌≡◌, IsTrue, ℕ, ◌+◌, ◌<◌, Option, Some, sym, subst, ◌∙◌, arith}
use Rattle.std.proofs.lemmas.Bool.{false≢true}
use Rattle.std.proofs.lemmas.Option.{none-some}
use Rattle.record_values.specs.GeometryValue.{GeometryValue}
use Rattle.record_values.specs.declared.pair.Pair.{Pair}
use Rattle.model.specs.declared.life.Life.{Life}
use Rattle.store_writer.specs.declared.image.NewImage.{NewImage}
use Rattle.store_writer.specs.declared.image.Stage.TheVariants.{Whole, Partly}
use Rattle.store_writer.specs.declared.writer.Writer.{Writer}
use Rattle.store_writer.specs.Writer.{IsPast}
use Rattle.store_writer.proofs.writer.Writer.is_past.Goals as goal

-- the image at a stage of its copying
counted : {D M : Type 0} (w : Writer D M) (more : ℕ) (image : NewImage) (pages count : ℕ) (highest : Option Pair) (life : Life) → w.image ≡ Some image
    → image.stage ≡ Partly pages count highest life → IsPast w more → w.halves.geometry.entries < count + more
counted w more image pages count highest life is at (i, p, n, h, l, there, from, past) =
    let same : Partly p n h l ≡ Partly pages count highest life = cc (is, there, at, from) in
    let number : n ≡ count = cc same in
    omega (arith, past, number)

not_whole : {D M : Type 0} (w : Writer D M) (more : ℕ) (image : NewImage) → w.image ≡ Some image → image.stage ≡ Whole → ¬ IsPast w more
not_whole w more image is whole (i, pages, count, highest, life, there, at, past) =
    let never : Whole ≡ Partly pages count highest life = cc (is, there, whole, at) in
    cc never

pub returns-in_default : goal.returns-in_default
returns-in_default g c = (λ found. absurd (false≢true found), λ past. absurd (none-some _ (sym c.in_default.is ∙ past.5)))

pub returns-in_default-stage : goal.returns-in_default-stage
returns-in_default-stage g c = (
  λ found. absurd (false≢true found),
  λ past. absurd (not_whole c.args.self.now c.args.more c.in-Some.image c.in-Some.is c.in_default-stage.is past),
)

pub returns : goal.returns
returns g c =
    let w = c.args.self.now in
    let (found, past) = subst (λ (x : GeometryValue). (IsTrue c.has_no_room.result → x.entries < c.in-Partly.entries + c.args.more)
    × (x.entries < c.in-Partly.entries + c.args.more → IsTrue c.has_no_room.result)) c.geometry.ensures c.has_no_room.ensures in (
      λ is. (c.in-Some.image, c.in-Partly.pages, c.in-Partly.entries, c.in-Partly.highest, c.in-Partly.life, c.in-Some.is, c.in-Partly.is, found is),
      λ is. past (counted w c.args.more c.in-Some.image c.in-Partly.pages c.in-Partly.entries c.in-Partly.highest c.in-Partly.life c.in-Some.is
          c.in-Partly.is is),
    )
