use Rattle.std.proofs.Common.{Err, ⊎_elim, ◌∙◌, ℕ, refl, ap, subst, inl, inr, length, ◌<◌, arith}
use Rattle.std.proofs.lemmas.Result.{err_from_is_err_and}
use Rattle.record_values.specs.GeometryValue.{sectors_in}
use Rattle.record_values.specs.declared.error.Error.TheVariants.{DeviceTooSmall}
use Rattle.sector_device.specs.Disk.{CrashState, Disk, sector}
use Rattle.sector_device.proofs.Within.{reads_none, reads_then}
use Rattle.flip_image.specs.Store.{Names, IsStoreIn, IsDeviceFailure}
use Rattle.flip_image.proofs.Stores.{accepted, one_value, superblock_accepted}
use Rattle.flip_image.proofs.halves.Halves.open_in.Goals as goal

pub returns-then-sectors-lt-FRONT_SECTORS : goal.returns-then-sectors-lt-FRONT_SECTORS
returns-then-sectors-lt-FRONT_SECTORS g c =
    let image : CrashState = (g.D.Device.past_of c.args.device.now).disk.content in
    let small : length image < 2 = omega (arith, c.sectors.ensures, c.if-sectors-lt-FRONT_SECTORS.true) in
    record {
      opened = tt;
      store = λ x half store. tt;
      accepted = λ x half store. absurd (accepted c.args.version x half image DeviceTooSmall store (inl (refl, inl small)));
      refused = inl (inl (refl, inl small));
      reads = reads_none _;
      quiet = tt;
      told = λ _. refl;
      later = omega arith;
    }

pub read_superblock-requires : goal.read_superblock-requires
read_superblock-requires g c = omega (arith, c.sectors.ensures, c.if-sectors-lt-FRONT_SECTORS.false)

pub returns-in_err-geometry : goal.returns-in_err-geometry
returns-in_err-geometry g c =
    let p = err_from_is_err_and c.from_residual.result c.from_residual.ensures.1 in
    let why = c.in_err-geometry.ensures.refused in
    rw (p.1 ∙ ap Err p.2) (record {
      opened = tt;
      store = λ x half store. tt;
      accepted = λ x half store. superblock_accepted c.args.version x half _ _ _ _ store why;
      refused = ⊎_elim (λ failed. inr failed) (λ damaged. inl (inr damaged)) why;
      reads = c.read_superblock.ensures.reads;
      quiet = tt;
      told = c.in_err-geometry.ensures.told;
      later = c.read_superblock.ensures.later;
    })

pub returns-then-sectors-sectors_in : goal.returns-then-sectors-sectors_in
returns-then-sectors-sectors_in g c =
    let image : CrashState = (g.D.Device.past_of c.args.device.now).disk.content in
    let found = c.in_ok-geometry.ensures in
    let small : length image < sectors_in c.args.version c.in_ok-geometry.geometry =
    omega (
      arith,
      c.if-sectors-sectors_in.true,
      c.sectors-2.ensures,
      c.sectors_in.ensures,
      ap (λ (d : Disk). length d.content) c.read_superblock.ensures.reads.disk,
    ) in
    record {
      opened = tt;
      store = λ x half store. tt;
      accepted = λ x half store. absurd (accepted c.args.version x half image DeviceTooSmall store
          (inl (refl, inr (c.in_ok-geometry.geometry, found.limits, found.found, small))));
      refused = inl (inl (refl, inr (c.in_ok-geometry.geometry, found.limits, found.found, small)));
      reads = c.read_superblock.ensures.reads;
      quiet = tt;
      told = λ _. found.quiet;
      later = c.read_superblock.ensures.later;
    }

pub read_flip_sector-requires : goal.read_flip_sector-requires
read_flip_sector-requires g c = omega (
  arith,
  c.sectors.ensures,
  c.if-sectors-lt-FRONT_SECTORS.false,
  ap (λ (d : Disk). length d.content) c.read_superblock.ensures.reads.disk,
)

pub returns-in_err-current : goal.returns-in_err-current
returns-in_err-current g c =
    let before = c.in_ok-geometry.ensures.quiet in
    let failed = subst (λ (n : ℕ). IsDeviceFailure n (g.D.Device.failures c.read_flip_sector.new.device) c.in_err-current.field-0.0) before
    c.in_err-current.ensures.refused in
    let p = err_from_is_err_and c.from_residual-in_err-current.result c.from_residual-in_err-current.ensures.1 in
    rw (p.1 ∙ ap Err p.2) (record {
      opened = tt;
      store = λ x half store. tt;
      accepted = λ x half store. failed;
      refused = inr failed;
      reads = reads_then _ _ _ c.read_superblock.ensures.reads c.read_flip_sector.ensures.reads;
      quiet = tt;
      told = λ other. c.in_err-current.ensures.told other ∙ before;
      later = omega (arith, c.read_superblock.ensures.later, c.read_flip_sector.ensures.later);
    })

pub returns : goal.returns
returns g c =
    let image : CrashState = (g.D.Device.past_of c.args.device.now).disk.content in
    let same = ap (λ (d : Disk). d.content) c.read_superblock.ensures.reads.disk in
    let is : IsStoreIn c.args.version c.in_ok-geometry.geometry c.in_ok-current.current image = record {
      limits = c.in_ok-geometry.ensures.limits;
      room = omega (arith, c.if-sectors-sectors_in.false, c.sectors-2.ensures, c.sectors_in.ensures, ap length same);
      superblock-is = c.in_ok-geometry.ensures.found;
      current = subst (λ (i : CrashState). Names (sector i 1) c.in_ok-current.current) same c.in_ok-current.ensures.found;
    } in
    record {
      opened = is;
      store = λ x half store.
          one_value c.args.version x half (record { geometry = c.in_ok-geometry.geometry; current = c.in_ok-current.current }) image is store;
      accepted = λ x half store. tt;
      refused = tt;
      reads = reads_then _ _ _ c.read_superblock.ensures.reads c.read_flip_sector.ensures.reads;
      quiet = c.in_ok-current.ensures.quiet ∙ c.in_ok-geometry.ensures.quiet;
      told = tt;
      later = omega (arith, c.read_superblock.ensures.later, c.read_flip_sector.ensures.later);
    }
