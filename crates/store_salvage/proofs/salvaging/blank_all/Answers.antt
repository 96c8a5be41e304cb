use Rattle.std.proofs.Common.{ℕ, ◌+◌, ◌<◌, List, length, Err, inl, inr, refl, sym, ◌∙◌, ap, subst, arith}
use Rattle.std.proofs.lemmas.List.{length_push}
use Rattle.std.proofs.lemmas.Result.{err_from_is_err_and}
use Rattle.sector_device.specs.Disk.{CrashState, Disk, SameOutside}
use Rattle.sector_device.specs.DevicePast.{Rises}
use Rattle.record_values.specs.GeometryValue.{GeometryValue}
use Rattle.store_reader.specs.Contents.{Gives}
use Rattle.store_salvage.specs.declared.part.Part.{Part}
use Rattle.store_salvage.specs.Salvage.{AreBlanked, InPart, IsStep}
use Rattle.store_salvage.proofs.Parts.{blanked_more, from_err, from_ok, given_up, none_here, some_here, store_behind_part}
use Rattle.store_salvage.proofs.salvaging.blank_all.Goals as goal

pub loop-look-init : goal.loop-look-init
loop-look-init g c =
    let image : CrashState = (g.D.Device.past_of c.args.device.now).disk.content in
    let halves = c.args.halves.now in
    record {
      blanked = subst (λ (parts : List Part). AreBlanked halves.geometry halves.current parts image image) (sym c.new-lost.ensures.items) refl;
      store = c.requires.store;
      count = ap (λ (parts : List Part). length parts) c.new-lost.ensures.items;
      quiet = refl;
    }

pub returns-in_err-part : goal.returns-in_err-part
returns-in_err-part g c =
    let h = g.D.Device.past_of in
    let size = c.args.halves.now.geometry in
    let half = c.args.halves.now.current in
    let start : CrashState = (h c.args.device.now).disk.content in
    let now : CrashState = (h c.loop-look.device).disk.content in
    let so_far = c.loop-look.invariant in
    let p = err_from_is_err_and c.from_residual.result c.from_residual.ensures.1 in
    rw (p.1 ∙ ap Err p.2) (record {
      blanked = tt;
      gives = tt;
      refused = given_up size half c.loop-look.lost.items start now _ _ _ _ so_far.quiet so_far.blanked c.in_err-part.ensures.refused;
      quiet = tt;
    })

pub returns-in_default : goal.returns-in_default
returns-in_default g c =
    let size = c.args.halves.now.geometry in
    let half = c.args.halves.now.current in
    let start : CrashState = (g.D.Device.past_of c.args.device.now).disk.content in
    let so_far = c.loop-look.invariant in
    let same = sym (ap (λ (d : Disk). d.content) c.next_damage.ensures.reads.disk) in
    let whole = none_here _ _ c.in_default.is c.in_ok-part.ensures.whole in
    record {
      blanked = subst (λ (i : CrashState). AreBlanked size half c.loop-look.lost.items start i) same so_far.blanked;
      gives = (whole.0, subst (λ (i : CrashState). Gives i size whole.0) same whole.1);
      refused = tt;
      quiet = c.in_ok-part.ensures.quiet ∙ so_far.quiet;
    }

pub blank-requires : goal.blank-requires
blank-requires g c = record {
  of = some_here _ _ _ c.in-Some.is c.in_ok-part.ensures.fits;
  room = omega (arith, c.loop-look.invariant.store.room, ap (λ (d : Disk). length d.content) c.next_damage.ensures.reads.disk);
}

pub returns-then-is_err : goal.returns-then-is_err
returns-then-is_err g c =
    let before = c.in_ok-part.ensures.quiet ∙ c.loop-look.invariant.quiet in
    let rises = from_err _ c.blank.result (sym c.is_err.ensures.value ∙ c.if-is_err.true) c.blank.ensures.counts.failed in
    record {
      blanked = tt;
      gives = tt;
      refused = inl (inr (refl, subst (λ (n : ℕ). Rises n (g.D.Device.failures c.blank.new.device)) before rises));
      quiet = tt;
    }

pub returns-in_err-push : goal.returns-in_err-push
returns-in_err-push g c =
    let p = err_from_is_err_and c.from_residual-in_err-push.result c.from_residual-in_err-push.ensures.1 in
    rw p.1 (record {
      blanked = tt;
      gives = tt;
      refused = inl (inl p.2);
      quiet = tt;
    })

pub loop-look-preserved : goal.loop-look-preserved
loop-look-preserved g c =
    let h = g.D.Device.past_of in
    let size = c.args.halves.now.geometry in
    let half = c.args.halves.now.current in
    let start : CrashState = (h c.args.device.now).disk.content in
    let now : CrashState = (h c.loop-look.device).disk.content in
    let after : CrashState = (h c.blank.new.device).disk.content in
    let part : Part = c.in-Some.part in
    let so_far = c.loop-look.invariant in
    let found = some_here _ _ _ c.in-Some.is c.in_ok-part.ensures.damaged in
    let done = sym c.is_err.ensures.value ∙ c.if-is_err.false in
    let others : SameOutside (InPart size half part) now after =
    subst (λ (d : Disk). SameOutside (InPart size half part) d.content after) c.next_damage.ensures.reads.disk c.blank.ensures.others in
    let step : IsStep size half part now after = record {
      part-of = some_here _ _ _ c.in-Some.is c.in_ok-part.ensures.fits;
      named = found.0;
      names = found.1;
      damaged = found.2;
      blank = from_ok _ c.blank.result done c.blank.ensures.blank;
      others = others;
    } in
    record {
      blanked = subst (λ (parts : List Part). AreBlanked size half parts start after) (sym c.in_ok-push.ensures.items)
          (blanked_more size half c.loop-look.lost.items part start now after so_far.blanked step);
      store = store_behind_part size half part now after others so_far.store;
      count = ap (λ (parts : List Part). length parts) c.in_ok-push.ensures.items ∙ length_push c.loop-look.lost.items part
          ∙ ap (λ (n : ℕ). n + 1) so_far.count;
      quiet = from_ok _ c.blank.result done c.blank.ensures.counts.none ∙ c.in_ok-part.ensures.quiet ∙ so_far.quiet;
    }

-- more parts were blanked than there are
pub returns : goal.returns
returns g c =
    let size = c.args.halves.now.geometry in
    let so_far = c.loop-look.invariant in
    let same = ap (λ (x : GeometryValue). x.pages + x.slots) c.geometry.ensures in
    let more : size.pages + size.slots < length c.loop-look.lost.items =
    omega (arith, so_far.count, c.loop-look-test.false, c.looks_at-look-end.ensures, same) in
    record {
      blanked = tt;
      gives = tt;
      refused = inr (_, refl, (c.loop-look.lost.items, _, so_far.blanked, inr (c.header_sector.ensures, more)));
      quiet = tt;
    }
