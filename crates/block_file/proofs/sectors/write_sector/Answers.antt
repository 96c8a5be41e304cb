use Rattle.std.specs.Prelude.{◌↔◌, false}
use Rattle.std.proofs.Common.{◌≡◌, inl, inr, ⊎_elim, ℕ, ◌+◌, ◌/◌, ◌<◌, Err, List, length, slice_set, sym, ◌∙◌, ap, subst, arith}
use Rattle.std.proofs.lemmas.Bool.{false≢true}
use Rattle.std.proofs.lemmas.Result.{err_from_is_err_and}
use Rattle.sector_device.specs.DevicePast.{Rises}
use Rattle.block_device.specs.Blocks.{CrashFile, block}
use Rattle.block_device.specs.BlocksPast.{BlocksPast}
use Rattle.block_journal.specs.declared.shape.Shape.{Shape}
use Rattle.block_journal.specs.Journal.{OnlyReads}
use Rattle.block_journal.specs.Value.{JournalValue, failures_of, room_of, settled_of}
use Rattle.block_journal.proofs.OnlyReading.{reads_then}
use Rattle.block_table.specs.Checked.{CheckedValue, data_now, kept_table}
use Rattle.block_table.specs.Table.{IsFit, data_of}
use Rattle.block_table.proofs.Contents.{length-data, settled_read, table_read}
use Rattle.block_file.specs.Sectors.{part, sectors_of}
use Rattle.block_file.proofs.Counting.{ok_not_err, why_unread}
use Rattle.block_file.proofs.Damage.{fits_put, fits_same}
use Rattle.block_file.proofs.Moving.{moves_then, put_same, read_later, read_same}
use Rattle.block_file.proofs.Patching.{sector_put}
use Rattle.block_file.proofs.sectors.write_sector.Goals as goal

pub make_room-requires : goal.make_room-requires
make_room-requires g c = omega (arith, ap (λ (s : Shape). s.area) c.requires.shape, c.requires.plan.batch)

pub returns-in_err-make_room : goal.returns-in_err-make_room
returns-in_err-make_room g c =
    let p = err_from_is_err_and c.from_residual.result c.from_residual.ensures.1 in
    let done = c.in_err-make_room.ensures in
    rw (p.1 ∙ ap Err p.2) (record {
      ok = tt;
      err = λ i. data_of (done.moves.blocks i) (done.same i);
      failed = ⊎_elim (λ was. inl was) (⊎_elim (λ most. inr (inl most)) (λ up. inr (inr (inl up)))) done.fails;
      sound = tt;
      quiet = tt;
      fits = fits_same c.args.plan _ _ done.same;
      broken = λ _. done.fails;
      number = done.number;
      alone = done.alone;
      back = done.back;
      gathers = done.gathers;
      room = λ more. omega (arith, done.room_stays more);
      moves = done.moves;
      counts = done.counts;
    })

pub read-requires : goal.read-requires
read-requires g c = omega (arith, c.requires.plan.room, c.requires.inside, c.requires.blocks, c.make_room.ensures.moves.blocks)

pub returns-in_err-read : goal.returns-in_err-read
returns-in_err-read g c =
    let p = err_from_is_err_and c.from_residual-in_err-read.result c.from_residual-in_err-read.ensures.1 in
    let h = g.B.Blocks.past_of in
    let old : CheckedValue g.row.B.Denot = c.args.checked.now in
    let mid : CheckedValue g.row.B.Denot = c.make_room.new.checked in
    let new : CheckedValue g.row.B.Denot = c.read.new.self in
    let room = c.in_ok-make_room.ensures in
    let done = c.in_err-read.ensures in
    let journal = read_same mid new (λ x. x.journal) done.rest in
    let blocks = read_same mid new (λ x. x.blocks) done.rest in
    let all : new.blocks ≡ old.blocks = blocks ∙ room.moves.blocks in
    let at : ℕ = (c.args.n + c.args.plan.lead) / 8 in
    let table : kept_table h new ≡ kept_table h old = table_read h mid new done.rest done.reads ∙ room.same in
    rw (p.1 ∙ ap Err p.2) (record {
      ok = tt;
      err = λ i. data_of (all i) (table i);
      failed = ⊎_elim (λ was. inl was) (λ rest. inr (inr rest)) (why_unread _ _ _ _
          (λ is. ⊎_elim (λ was. inl (sym room.good ∙ was)) (λ up. inr (subst (λ (a : ℕ). Rises a (g.B.Blocks.failures new.journal.below)) room.quiet up))
          (done.failed is))
          (λ is fits. done.damaged is (subst (λ (b : ℕ). IsFit b (kept_table h mid) at) (sym (room.moves.blocks ∙ c.requires.blocks))
          (subst (λ (l : CrashFile). IsFit c.args.plan.blocks l at) (sym room.same) fits))));
      sound = tt;
      quiet = tt;
      fits = fits_same c.args.plan _ _ table;
      broken = λ now. inl (sym room.good ∙ sym (read_same mid new (λ x. x.journal.has_failed) done.rest) ∙ now);
      number = omega (arith, room.number, read_same mid new (λ x. x.journal.last.number) done.rest);
      alone = λ was. ap (λ (v : JournalValue g.row.B.Denot). v.below) (done.refused (room.good ∙ was)) ∙ room.alone was;
      back = done.back ∙ room.back;
      gathers = λ more. reads_then _ _ _ (room.gathers more) done.reads;
      room = λ more. omega (arith, room.room_stays more, read_same mid new (λ x. room_of x.journal) done.rest);
      moves = moves_then h old mid new room.moves (read_same mid new (λ x. x.journal.shape) done.rest) blocks
          (read_same mid new (λ x. x.journal.offered) done.rest) (settled_read h mid.journal new.journal journal done.reads) done.reads;
      counts = read_later _ _ _ _ (room.counts.quiet ok_not_err) done.counts;
    })

pub put-requires : goal.put-requires
put-requires g c =
    let rest = c.in_ok-read.ensures.rest in
    let blocks = read_same c.make_room.new.checked c.read.new.self (λ x. x.blocks) rest in
    record {
      inside = omega (arith, c.requires.plan.room, c.requires.inside, c.requires.blocks, c.in_ok-make_room.ensures.moves.blocks, blocks);
      room = subst (λ (k : ℕ). 1 < k) (sym (read_same c.make_room.new.checked c.read.new.self (λ x. room_of x.journal) rest)) c.in_ok-make_room.ensures.room;
    }

pub returns : goal.returns
returns g c =
    let h = g.B.Blocks.past_of in
    let F = g.B.Blocks.failures in
    let plan = c.args.plan in
    let n = c.args.n in
    let old : CheckedValue g.row.B.Denot = c.args.checked.now in
    let mid : CheckedValue g.row.B.Denot = c.make_room.new.checked in
    let read : CheckedValue g.row.B.Denot = c.read.new.self in
    let new : CheckedValue g.row.B.Denot = c.put.new.self in
    let room = c.in_ok-make_room.ensures in
    let done = c.in_ok-read.ensures in
    let put = c.put.ensures in
    let blk : List ℕ = c.put_sector.new.block in
    let journal = read_same mid read (λ x. x.journal) done.rest in
    let blocks = read_same mid read (λ x. x.blocks) done.rest in
    let to_read : read.blocks ≡ old.blocks = blocks ∙ room.moves.blocks in
    let mid_data : data_now h mid ≡ data_now h old = λ i. data_of (room.moves.blocks i) (room.same i) in
    let table : kept_table h read ≡ kept_table h old = table_read h mid read done.rest done.reads ∙ room.same in
    let same_data : data_now h read ≡ data_now h old = λ i. data_of (to_read i) (table i) in
    let size : (n + plan.lead) / 8 < length (data_now h old) =
    omega (arith, length-data h old c.stands.ensures.inside c.stands.ensures.kept, c.requires.plan.room, c.requires.inside, c.requires.blocks) in
    let below : OnlyReads (h mid.journal.below) (h new.journal.below) =
    subst (λ (x : BlocksPast). OnlyReads (h mid.journal.below) x) (sym (put_same read new (λ x. h x.journal.below) put.rest)) done.reads in
    let good : mid.journal.has_failed ≡ false = done.sound ok_not_err in
    let same = done.counts.quiet ok_not_err in
    let refused : read.journal.refused ≡ mid.journal.refused = ap (λ (x : CheckedValue g.row.B.Denot). x.journal.refused) (done.good good) in
    let at : ℕ = (n + plan.lead) / 8 in
    let has : read.blocks ≡ plan.blocks = to_read ∙ c.requires.blocks in
    let counted : failures_of F new.journal ≡ failures_of F old.journal =
    put_same read new (λ x. failures_of F x.journal) put.rest ∙ done.counts.quiet ok_not_err ∙ room.counts.quiet ok_not_err in
    record {
      ok = ap (sectors_of plan.lead plan.sectors) (put.put ∙ ap (λ (l : CrashFile). slice_set l ((n + plan.lead) / 8) blk) same_data)
          ∙ sector_put plan.lead plan.sectors (data_now h old) n c.args.bytes.now blk c.requires.inside size c.put_sector.ensures.here
          (λ j apart. c.put_sector.ensures.others j apart
          ∙ ap (λ (b : List ℕ). part b j) (done.ok ∙ ap (λ (l : CrashFile). block l ((n + plan.lead) / 8)) mid_data));
      err = tt;
      failed = tt;
      sound = (
        sym room.good ∙ good,
        put_same read new (λ x. x.journal.has_failed) put.rest ∙ read_same mid read (λ x. x.journal.has_failed) done.rest ∙ good,
      );
      quiet = put_same read new (λ x. F x.journal.below) put.rest ∙ omega (arith, same, refused) ∙ room.quiet;
      fits = fits_put plan (kept_table h old) (kept_table h new) at
          (subst (λ (l : CrashFile). IsFit plan.blocks l at) room.same
          (subst (λ (b : ℕ). IsFit b (kept_table h mid) at) (room.moves.blocks ∙ c.requires.blocks) done.fits))
          (subst (λ (b : ℕ). IsFit b (kept_table h new) at) has put.fits)
          (λ m low apart. subst (λ (l : CrashFile). IsFit plan.blocks (kept_table h new) m ↔ IsFit plan.blocks l m) table
          (subst (λ (b : ℕ). IsFit b (kept_table h new) m ↔ IsFit b (kept_table h read) m) has (put.others m (omega (arith, low, has)) apart)));
      broken = λ now. absurd (false≢true (sym (put_same read new (λ x. x.journal.has_failed) put.rest
          ∙ read_same mid read (λ x. x.journal.has_failed) done.rest ∙ good) ∙ now));
      number = omega (
        arith,
        room.number,
        read_same mid read (λ x. x.journal.last.number) done.rest,
        put_same read new (λ x. x.journal.last.number) put.rest,
      );
      alone = λ was. absurd (false≢true (sym (sym room.good ∙ good) ∙ was));
      back = put_same read new (λ x. g.B.Blocks.written_back x.journal.below) put.rest ∙ done.back ∙ room.back;
      gathers = λ more. reads_then _ _ _ (room.gathers more) below;
      room = λ more. omega (arith, room.room_stays more, read_same mid read (λ x. room_of x.journal) done.rest, put.room);
      moves = moves_then h old mid new room.moves
          (put_same read new (λ x. x.journal.shape) put.rest ∙ read_same mid read (λ x. x.journal.shape) done.rest)
          (put_same read new (λ x. x.blocks) put.rest ∙ blocks)
          (put_same read new (λ x. x.journal.offered) put.rest ∙ read_same mid read (λ x. x.journal.offered) done.rest)
          (put_same read new (λ x. settled_of h x.journal) put.rest ∙ settled_read h mid.journal read.journal journal done.reads) below;
      counts = record { later = omega (arith, counted); quiet = λ _. counted; rises = λ is. absurd (ok_not_err is) };
    }
