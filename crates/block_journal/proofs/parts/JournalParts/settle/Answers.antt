use Rattle.std.proofs.Common.{◌+◌, ◌%◌, false, refl, sym, ◌∙◌, subst}
use Rattle.block_journal.specs.declared.parts.JournalParts.{JournalParts}
use Rattle.block_journal.specs.Layout.{IsHonest, found}
use Rattle.block_journal.specs.Journal.{AreInAreas}
use Rattle.block_journal.specs.Gathered.{entries_of}
use Rattle.block_journal.proofs.Opening.{found_honest, found_in_areas}
use Rattle.block_journal.proofs.Parting.{settled_opened, sound_opened}
use Rattle.block_journal.proofs.Recovering.{are_found, first_places, its_batch}
use Rattle.block_journal.proofs.Results.{from_ok, from_err}
use Rattle.block_journal.proofs.parts.JournalParts.settle.Goals as goal

pub replay-requires : goal.replay-requires
replay-requires g c = record {
  inside = c.requires.inside;
  small = c.requires.small;
  other = c.requires.next;
  last = c.requires.last;
  low = c.requires.taken.low;
}

pub returns-then-is_err : goal.returns-then-is_err
returns-then-is_err g c =
    let h = g.B.Blocks.past_of in
    let p = c.args.self.now in
    let content = (h p.below).file.content in
    let failed = sym c.is_err.ensures.value ∙ c.if-is_err.true in
    let counts = c.replay.ensures.counts in
    record {
      within = λ image start so_far. c.replay.ensures.within _ image start
          (first_places p.shape content c.args.number c.args.before p.last p.next c.requires.taken) so_far;
      sound = tt;
      good = tt;
      none = tt;
      settled = tt;
      honest = tt;
      found = tt;
      shape = refl;
      refused = refl;
      err = refl;
      back = c.replay.ensures.back;
      counts = record { later = counts.later; none = tt; failed = from_err _ _ failed counts.failed };
    }

pub returns : goal.returns
returns g c =
    let h = g.B.Blocks.past_of in
    let p = c.args.self.now in
    let content = (h p.below).file.content in
    let done = sym c.is_err.ensures.value ∙ c.if-is_err.false in
    let counts = c.replay.ensures.counts in
    let replayed = c.replay.ensures in
    let finds = are_found p.shape content c.args.number c.args.before p.last p.next c.requires.taken in
    let n : JournalParts g.row.B.Denot g.row.A.Denot = record {
      below = c.replay.new.below;
      shape = p.shape;
      number = c.args.number;
      last = p.last;
      next = record p.next { count = 0 };
      offered = c.areas_of-self.result;
      has_failed = false;
      refused = p.refused;
    } in
    let offers = c.areas_of-self.ensures c.args.number c.requires.taken.of_last.1
    (its_batch c.args.before (found p.shape content ((c.args.number + 1) % 2)) ((c.args.number + 1) % 2) p.next c.requires.taken.of_other) in
    let placed = from_ok _ _ done replayed.placed in
    let synced = from_ok _ _ done replayed.synced in
    record {
      within = λ image start so_far. replayed.within _ image start
          (first_places p.shape content c.args.number c.args.before p.last p.next c.requires.taken) so_far;
      sound = sound_opened h p n c.args.number c.args.before c.replay.new.below c.requires.inside c.requires.small c.requires.last c.requires.last_size
          c.requires.next c.requires.next_size finds replayed.size replayed.areas placed synced offers refl;
      good = refl;
      none = refl;
      settled = settled_opened h p n c.args.number c.args.before c.replay.new.below c.requires.inside c.requires.small c.requires.last c.requires.last_size
          c.requires.next c.requires.next_size finds replayed.size replayed.areas placed synced offers refl;
      honest = subst (λ o. IsHonest o p.shape content) (sym offers)
          (found_honest p.shape content (record { number = c.args.number; entries = entries_of p.last }) c.args.before (entries_of p.next) finds);
      found = subst (λ o. AreInAreas p.shape content o) (sym offers)
          (found_in_areas p.shape content (record { number = c.args.number; entries = entries_of p.last }) c.args.before (entries_of p.next) finds);
      shape = refl;
      refused = refl;
      err = tt;
      back = replayed.back;
      counts = record { later = counts.later; none = from_ok _ _ done counts.none; failed = tt };
    }
