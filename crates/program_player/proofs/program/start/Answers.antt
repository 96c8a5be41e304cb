use Rattle.std.specs.Prelude.{◌↔◌}
use Rattle.std.proofs.Common.{◌≡◌, ◌≤◌, ◌<◌, ◌⊎◌, ⊎_elim, inl, inr, ℕ, Result, Err, length, refl, ap, sym, subst, ◌∙◌}
use Rattle.record_values.specs.GeometryValue.{GeometryValue, sectors_of}
use Rattle.record_values.specs.declared.error.Error.{Error}
use Rattle.record_values.specs.declared.error.Error.TheVariants.{DeviceFailed, DeviceTooSmall}
use Rattle.std.proofs.lemmas.List.{length-replicate}
use Rattle.std.proofs.lemmas.Bool.{cases_lt}
use Rattle.std.proofs.lemmas.Result.{err_from_is_err_and}
use Rattle.std.specs.declared.alloc.Global.{Global}
use Rattle.sector_device.specs.MemDisk.{past_of}
use Rattle.sector_device.specs.declared.memory.MemDisk.{MemDisk}
use Rattle.model.specs.Given.{nothing}
use Rattle.flip_image.specs.declared.half.Half.TheVariants.{A}
use Rattle.flip_image.specs.Store.{IsDeviceFailure, IsFormatted, AreGatesClosed}
use Rattle.program_player.specs.Disk.{disk_past}
use Rattle.program_player.specs.Plays.{IsNoStart}
use Rattle.program_player.proofs.program.start.Goals as goal

not_both : (e : Error) → Path (Result Unit Error) (Err e) (Err DeviceTooSmall) → e ≡ DeviceFailed → ⊥
not_both e small failed = cc

-- why a disk of so many sectors isn't formatted
not_formatted : (g : GeometryValue) (sectors size before now : ℕ) (e : Error) → size ≡ sectors
    → Path (Result Unit Error) (Err e) (Err DeviceTooSmall) ↔ (size < sectors_of g) → (e ≡ DeviceTooSmall) ⊎ IsDeviceFailure before now e
    → IsNoStart sectors g e
not_formatted g sectors size before now e same too_small (inl small) =
    inl (small, subst (λ n. n < sectors_of g) same (too_small.0 (ap Err small)))
not_formatted g sectors size before now e same too_small (inr failed) = inr (inl (
  failed.0,
  subst (λ n. sectors_of g ≤ n) same (⊎_elim
      (λ less. absurd (not_both e (too_small.1 less) failed.0))
      (λ room. room)
      (cases_lt size (sectors_of g))),
))

pub returns-in_err-memory : goal.returns-in_err-memory
returns-in_err-memory c =
    let p = err_from_is_err_and c.from_residual.result c.from_residual.ensures.1 in
    rw (p.1 ∙ ap Err p.2) (record { starts = tt; refused = inr (inr refl) })

pub returns-in_err-format : goal.returns-in_err-format
returns-in_err-format c =
    let p = err_from_is_err_and c.from_residual-in_err-format.result c.from_residual-in_err-format.ensures.1 in
    let done = c.in_err-format.ensures in
    let size = ap length c.in_ok-memory.ensures.zeros ∙ length-replicate c.args.sectors _ in
    rw (p.1 ∙ ap Err p.2) (record {
      starts = tt;
      refused = not_formatted c.args.geometry c.args.sectors _ _ _ _ size done.too_small done.refused;
    })

pub returns-in-Ok-clause-starts : goal.returns-in-Ok-clause-starts
returns-in-Ok-clause-starts c =
    let g = c.args.geometry in
    let content : length (past_of c.format.new.device).disk.content ≡ c.args.sectors =
    c.in_ok-format.ensures.outside.sectors ∙ ap length c.in_ok-memory.ensures.zeros ∙ length-replicate c.args.sectors _ in
    record {
      disk = c.new-disk.result;
      formatted = subst (λ (d : MemDisk Global). IsFormatted g (past_of d).disk.content) (sym c.new-disk.ensures.device) c.in_ok-format.ensures.formatted;
      closed = subst (λ (d : MemDisk Global). AreGatesClosed g A (past_of d).disk.content) (sym c.new-disk.ensures.device) c.in_ok-format.ensures.closed;
      size = ap (λ (d : MemDisk Global). length (past_of d).disk.content) c.new-disk.ensures.device ∙ content;
      counted = c.new-disk.ensures.which;
      made = c.new-disk.ensures.made;
      fails_at_is = c.new-disk.ensures.fails_at;
      opened = c.in-Ok.ensures;
    }

pub returns-in-Err-clause-refused : goal.returns-in-Err-clause-refused
returns-in-Err-clause-refused c =
    let g = c.args.geometry in
    let image = (disk_past c.new-disk.result).disk.content in
    let formatted = subst (λ (d : MemDisk Global). IsFormatted g (past_of d).disk.content)
    (sym c.new-disk.ensures.device) c.in_ok-format.ensures.formatted in
    let closed = subst (λ (d : MemDisk Global). AreGatesClosed g A (past_of d).disk.content) (sym c.new-disk.ensures.device) c.in_ok-format.ensures.closed in
    let content : length (past_of c.format.new.device).disk.content ≡ c.args.sectors =
    c.in_ok-format.ensures.outside.sectors ∙ ap length c.in_ok-memory.ensures.zeros ∙ length-replicate c.args.sectors _ in
    let room : sectors_of g ≤ c.args.sectors = subst (λ n. sectors_of g ≤ n) content c.in_ok-format.ensures.formatted.store.room in
    let gives = c.format_gives_nothing.ensures.gives g image (disk_past c.new-disk.result).whole formatted closed in
    inr (⊎_elim
    (⊎_elim (λ none. inr none) (λ failed. inl (failed.0, room)))
    (λ unreadable. absurd (c.one_answer.ensures.readable image g nothing c.in-Err.error gives unreadable))
    c.in-Err.ensures.not_opened.why)
