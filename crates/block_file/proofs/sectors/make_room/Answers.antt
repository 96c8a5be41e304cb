use Rattle.std.proofs.Common.{List, length, refl, sym, ◌∙◌, ap, arith}
use Rattle.block_batch.specs.Batch.{Batch, Entry}
use Rattle.block_journal.specs.declared.shape.Shape.{Shape}
use Rattle.block_journal.specs.Value.{JournalValue}
use Rattle.block_journal.proofs.OnlyReading.{reads_none}
use Rattle.block_file.proofs.Moving.{kept_commit, moves_commit, moves_none}
use Rattle.block_file.proofs.sectors.make_room.Goals as goal

pub returns-then-room-gt0 : goal.returns-then-room-gt0
returns-then-room-gt0 g c = record {
  room = omega (arith, c.room.ensures, c.if-room-gt0.true);
  gathers = λ _. reads_none (g.B.Blocks.past_of c.args.checked.now.journal.below);
  room_stays = λ _. refl;
  good = refl;
  quiet = refl;
  number = omega arith;
  alone = λ _. refl;
  back = refl;
  fails = tt;
  same = refl;
  moves = moves_none g.B.Blocks.past_of c.args.checked.now c.stands.ensures.survives c.stands.ensures.synced c.stands.ensures.inside c.stands.ensures.here;
  counts = record { later = omega arith; quiet = λ _. refl; rises = λ is. absurd (cc) };
}

pub returns-in-Ok : goal.returns-in-Ok
returns-in-Ok g c =
    let h = g.B.Blocks.past_of in
    let old = c.args.checked.now in
    let new = c.commit.new.self in
    let done = c.commit.ensures in
    record {
      room = omega (arith, ap (λ (l : List Entry). length l) c.in-Ok.ensures.none, ap (λ (s : Shape). s.area) done.shape, c.requires);
      gathers = λ more. absurd (omega (arith, c.room.ensures, c.if-room-gt0.false, more));
      room_stays = λ more. absurd (omega (arith, c.room.ensures, c.if-room-gt0.false, more));
      good = c.in-Ok.ensures.sound.1 ∙ sym c.in-Ok.ensures.sound.0;
      quiet = c.in-Ok.ensures.quiet;
      number = omega (arith, ap (λ (b : Batch). b.number) c.in-Ok.ensures.last);
      alone = λ was. ap (λ (v : JournalValue g.row.B.Denot). v.below) (done.refused was);
      back = done.back;
      fails = tt;
      same = kept_commit h old new c.commit.result done.ok done.none done.err done.kept;
      moves = moves_commit h old new c.commit.result done.shape done.blocks done.ok done.err done.any_moment done.offered done.before
          done.holds done.refused;
      counts = record { later = done.counts.later; quiet = λ _. c.in-Ok.ensures.counts.none; rises = λ is. absurd (cc) };
    }

pub returns-in-Err : goal.returns-in-Err
returns-in-Err g c =
    let h = g.B.Blocks.past_of in
    let old = c.args.checked.now in
    let new = c.commit.new.self in
    let done = c.commit.ensures in
    record {
      room = tt;
      gathers = λ more. absurd (omega (arith, c.room.ensures, c.if-room-gt0.false, more));
      room_stays = λ more. absurd (omega (arith, c.room.ensures, c.if-room-gt0.false, more));
      good = tt;
      quiet = tt;
      number = omega (arith, ap (λ (b : Batch). b.number) c.in-Err.ensures.last_stays);
      alone = λ was. ap (λ (v : JournalValue g.row.B.Denot). v.below) (done.refused was);
      back = done.back;
      fails = c.in-Err.ensures.fails;
      same = kept_commit h old new c.commit.result done.ok done.none done.err done.kept;
      moves = moves_commit h old new c.commit.result done.shape done.blocks done.ok done.err done.any_moment done.offered done.before
          done.holds done.refused;
      counts = record { later = done.counts.later; quiet = λ other. absurd (other refl); rises = λ _. c.in-Err.ensures.counts.failed };
    }
