use Rattle.std.proofs.Common.{◌≡◌, ℕ, List, [], length, refl, ◌∙◌, ap, length-set}
use Rattle.std.proofs.lemmas.Grind.{get_or-set_at}
use Rattle.std.proofs.lemmas.List.{get_or-set_other}
use Rattle.std.proofs.lemmas.Result.{err_from_is_err_and}
use Rattle.sector_device.specs.Disk.{Disk, SameOutside, after_write, sector}
use Rattle.store_salvage.proofs.copying.copy_sector.Goals as goal

-- a write changes one sector
outside : (old new : Disk) (n : ℕ) (bytes : List ℕ) → new ≡ after_write old n bytes → SameOutside (λ k. k ≡ n) old.content new.content
outside old new n bytes is = record {
  sectors = ap (λ (d : Disk). length d.content) is ∙ length-set old.content n bytes;
  same = λ k out. ap (λ (d : Disk). sector d.content k) is ∙ get_or-set_other old.content n k bytes [] out;
}

pub returns-in_ok-write-in-Some : goal.returns-in_ok-write-in-Some
returns-in_ok-write-in-Some g c =
    let old = (g.N.Device.past_of c.args.to.now).disk in
    let read = c.in-Some.ensures in
    let done = c.in_ok-write-in-Some.ensures in
    record {
      copied = ap (λ (d : Disk). sector d.content c.args.n) done.ok
          ∙ get_or-set_at old.content c.args.n c.args.n c.in-Some.bytes [] refl c.requires.room ∙ read.read;
      unread = λ same. cc;
      others = outside old _ c.args.n c.in-Some.bytes done.ok;
      kept = read.kept;
      later = read.later;
      counts = record { later = done.counts.later; none = done.counts.none; failed = tt };
    }

pub returns-in_ok-write-in-None : goal.returns-in_ok-write-in-None
returns-in_ok-write-in-None g c =
    let old = (g.N.Device.past_of c.args.to.now).disk in
    let read = c.in-None.ensures in
    let done = c.in_ok-write-in-None.ensures in
    record {
      copied = ap (λ (d : Disk). sector d.content c.args.n) done.ok
          ∙ get_or-set_at old.content c.args.n c.args.n c.unread_sector.result [] refl c.requires.room ∙ c.unread_sector.ensures;
      unread = λ same. read.none;
      others = outside old _ c.args.n c.unread_sector.result done.ok;
      kept = read.kept;
      later = read.later;
      counts = record { later = done.counts.later; none = done.counts.none; failed = tt };
    }

pub returns-in_err-write-in-Some : goal.returns-in_err-write-in-Some
returns-in_err-write-in-Some g c =
    let read = c.in-Some.ensures in
    let done = c.in_err-write-in-Some.ensures in
    rw (err_from_is_err_and c.from_residual.result c.from_residual.ensures.1).1 (record {
      copied = tt;
      unread = tt;
      others = outside _ _ c.args.n done.err.0 done.err.2;
      kept = read.kept;
      later = read.later;
      counts = record { later = done.counts.later; none = tt; failed = done.counts.failed };
    })

pub returns-in_err-write-in-None : goal.returns-in_err-write-in-None
returns-in_err-write-in-None g c =
    let read = c.in-None.ensures in
    let done = c.in_err-write-in-None.ensures in
    rw (err_from_is_err_and c.from_residual-in_err-write-in-None.result c.from_residual-in_err-write-in-None.ensures.1).1 (record {
      copied = tt;
      unread = tt;
      others = outside _ _ c.args.n done.err.0 done.err.2;
      kept = read.kept;
      later = read.later;
      counts = record { later = done.counts.later; none = tt; failed = done.counts.failed };
    })
