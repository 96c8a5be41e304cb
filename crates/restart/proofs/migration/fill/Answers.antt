use Rattle.std.proofs.Common.{◌≡◌, ◌<◌, arith, inl, inr, refl, sym, ap, subst, ◌∙◌}
use Rattle.sector_device.specs.DevicePast.{Rises}
use Rattle.sector_device.proofs.Moments.{content_at_end}
use Rattle.sector_device.proofs.Sectors.{same_outside_then, same_outside_wider}
use Rattle.record_values.specs.GeometryValue.{GeometryValue, sectors_of}
use Rattle.model.specs.Given.{Given, opening_cells}
use Rattle.store_image_half.specs.Source.{FitsImage}
use Rattle.flip_image.specs.Layout.{HalvesValue}
use Rattle.store_reader.specs.Restored.{given_in}
use Rattle.store_reader.specs.Contents.{Gives}
use Rattle.core_model.specs.Events.{standing_at}
use Rattle.core_copies.specs.Loaded.{holding}
use Rattle.core_model.specs.Histories.{opened}
use Rattle.nsf_core.specs.Value.{value_of}
use Rattle.core_parts.specs.View.{IsState}
use Rattle.restart.specs.Store.{over}
use Rattle.store_opener.specs.Reopening.{IsSpare}
use Rattle.restart.proofs.Migrated.{spare_inside}
use Rattle.restart.proofs.migration.fill.Goals as goal

pub write_over-requires-clause-fits : goal.write_over-requires-clause-fits
write_over-requires-clause-fits g c = subst (λ (x : GeometryValue). FitsImage x (opening_cells (given_in c.args.restored)))
    (sym c.in-Ok-format.ensures.geometry) c.requires

pub returns-in-Ok-write_over-clause-filled : goal.returns-in-Ok-write_over-clause-filled
returns-in-Ok-write_over-clause-filled g c =
    let now = g.D.Device.past_of c.write_over.new.device in
    let made = c.in-Ok-write_over.made in
    let written = c.in-Ok-write_over.ensures in
    let given : Given = given_in c.args.restored in
    let size : made.halves.geometry ≡ c.in-Ok-format.halves.geometry = ap (λ (x : HalvesValue). x.geometry) written.halves in
    let same : c.args.restored.geometry ≡ made.halves.geometry = sym (size ∙ c.in-Ok-format.ensures.geometry) in
    record {
      filled = record {
        given = given;
        gives = subst (λ (x : GeometryValue). Gives now.disk.content x given) (sym size) written.gives;
        holds = c.in-Ok.ensures.made ∙ ap (λ (x : GeometryValue). holding x given) same;
        shown = subst (λ (x : GeometryValue). IsState (value_of c.in-Ok.core) (opened (over x given)) (standing_at given.last)) same c.in-Ok.ensures.opened;
        opened-at = written.opened;
      };
      geometry-is = sym same;
      given-is = refl;
    }

pub returns-in-Err-write_over-clause-refused : goal.returns-in-Err-write_over-clause-refused
returns-in-Err-write_over-clause-refused g c =
    inr (
      refl,
      omega (arith, c.sectors.ensures, c.sectors-2.ensures, c.if-sectors.false),
      subst (λ n. Rises n (g.D.Device.failures c.write_over.new.device)) c.in-Ok-format.ensures.quiet c.in-Err-write_over.ensures.counts.failed,
    )

pub returns-in-Ok-write_over-clause-around : goal.returns-in-Ok-write_over-clause-around
returns-in-Ok-write_over-clause-around g c =
    let h = g.D.Device.past_of in
    let halves = c.in-Ok-format.halves in
    let size = c.args.restored.geometry in
    let before = (h c.args.device.now).disk.content in
    let mid = h c.format.new.device in
    let now = h c.write_over.new.device in
    let written = content_at_end mid now _ c.write_over.ensures.images in
    same_outside_then (λ n. n < sectors_of size) before mid.disk.content now.disk.content c.in-Ok-format.ensures.around
    (same_outside_wider (IsSpare halves.geometry halves.current) (λ n. n < sectors_of size) mid.disk.content now.disk.content
    (λ n spare. subst (λ (x : GeometryValue). n < sectors_of x) c.in-Ok-format.ensures.geometry (spare_inside halves.geometry halves.current n spare))
    written.outside)

pub returns-in-Err-clause-refused : goal.returns-in-Err-clause-refused
returns-in-Err-clause-refused g c =
    inr (c.in-Err.ensures.refused.0, omega (arith, c.sectors.ensures, c.sectors-2.ensures, c.if-sectors.false), c.in-Err.ensures.refused.1)

pub returns-then-sectors : goal.returns-then-sectors
returns-then-sectors g c = record {
  filled = tt;
  empty = tt;
  room = tt;
  around = tt;
  refused = inl (refl, omega (arith, c.sectors.ensures, c.sectors-2.ensures, c.if-sectors.true), refl);
  quiet = tt;
}

pub returns-in_default : goal.returns-in_default
returns-in_default g c = record {
  filled = tt;
  empty = tt;
  room = tt;
  around = tt;
  refused = (omega (arith, c.sectors.ensures, c.sectors-2.ensures, c.if-sectors.false), refl);
  quiet = tt;
}

pub returns-in-Ok-write_over-clause-empty : goal.returns-in-Ok-write_over-clause-empty
returns-in-Ok-write_over-clause-empty g c = c.in-Ok-write_over.ensures.empty

pub returns-in-Ok-write_over-clause-room : goal.returns-in-Ok-write_over-clause-room
returns-in-Ok-write_over-clause-room g c = omega (arith, c.sectors.ensures, c.sectors-2.ensures, c.if-sectors.false)

pub format-requires : goal.format-requires
format-requires g c = omega (arith, c.sectors.ensures, c.sectors-2.ensures, c.if-sectors.false)
