use Rattle.std.proofs.Common.{⊎_elim, inl, inr, Err, ap, subst, ◌∙◌, rules}
use Rattle.std.proofs.lemmas.Result.{err_from_is_err_and}
use Rattle.sector_device.specs.Disk.{CrashState, Disk}
use Rattle.sector_device.proofs.Within.{reads_then}
use Rattle.store_image_half.specs.Damage.{SaysSomethingIn, TheHeader}
use Rattle.flip_image.specs.Layout.{header_sector_in}
use Rattle.flip_image.specs.Store.{HoldsImageIn}
use Rattle.store_reader.proofs.Refusals.{image_unread, later_than, not_fewer}
use Rattle.store_reader.proofs.reader.open_store.Goals as goal

pub returns-in_err-halves : goal.returns-in_err-halves
returns-in_err-halves g c =
    let p = err_from_is_err_and c.from_residual.result c.from_residual.ensures.1 in
    rw (p.1 ∙ ap Err p.2) (record {
      opened = tt;
      geometry = tt;
      imaged = tt;
      bare = tt;
      refused = ⊎_elim (λ refused. inr (inl refused)) (λ failed. inl (inr failed)) c.in_err-halves.ensures.refused;
      memory = search rules;
      reads = c.open_in.ensures.reads;
      quiet = tt;
      told = c.in_err-halves.ensures.told;
      later = c.open_in.ensures.later;
    })

pub returns-in_err-cells : goal.returns-in_err-cells
returns-in_err-cells g c =
    let image : CrashState = (g.D.Device.past_of c.args.device.now).disk.content in
    let at = c.in_ok-halves in
    let first = header_sector_in c.args.version at.halves.geometry at.halves.current in
    let same = ap (λ (d : Disk). d.content) c.open_in.ensures.reads.disk in
    let p = err_from_is_err_and c.from_residual-in_err-cells.result c.from_residual-in_err-cells.ensures.1 in
    rw (p.1 ∙ ap Err p.2) (record {
      opened = tt;
      geometry = tt;
      imaged = tt;
      bare = tt;
      refused = image_unread c.args.version image at.halves.geometry at.halves.current _ _ at.ensures.opened _ _ _ same at.ensures.quiet
          c.in_err-cells.ensures.refused;
      memory = λ is. (
        at.halves.geometry,
        at.halves.current,
        at.ensures.opened,
        subst (λ (x : CrashState). SaysSomethingIn c.args.version at.halves.geometry first x TheHeader) same (c.in_err-cells.ensures.memory is),
      );
      reads = reads_then _ _ _ c.open_in.ensures.reads c.read_cells.ensures.reads;
      quiet = tt;
      told = λ other. c.in_err-cells.ensures.told other ∙ at.ensures.quiet;
      later = later_than _ _ _ at.ensures.quiet c.read_cells.ensures.later;
    })

pub returns : goal.returns
returns g c =
    let at = c.in_ok-halves in
    let cells = c.in_ok-cells in
    let quiet = cells.ensures.quiet ∙ at.ensures.quiet in
    record {
      opened = at.ensures.opened;
      geometry = cells.ensures.geometry;
      imaged = subst (λ (x : CrashState). HoldsImageIn c.args.version at.halves.geometry at.halves.current x cells.cells.last cells.cells.cells)
          (ap (λ (d : Disk). d.content) c.open_in.ensures.reads.disk) cells.ensures.imaged;
      bare = cells.ensures.bare;
      refused = tt;
      memory = tt;
      reads = reads_then _ _ _ c.open_in.ensures.reads c.read_cells.ensures.reads;
      quiet = quiet;
      told = tt;
      later = not_fewer _ _ quiet;
    }
