use Rattle.std.proofs.Common.{◌-◌, ◌<◌, length, refl, arith}
use Rattle.block_journal.specs.Gathered.{entries_of}
use Rattle.block_journal.proofs.Entries.{length-entries}
use Rattle.block_journal.proofs.Parting.{sound_put}
use Rattle.block_journal.proofs.journal.Journal.gather.Goals as goal

pub put-requires : goal.put-requires
put-requires g c =
    let p = c.self.inside.parts in
    let room : 0 < p.shape.area - 1 - length (entries_of p.next) = rw (← c.self.view_is) at c.requires.room in
    record {
      buffer = c.self.invariant.next;
      room = omega (arith, room, length-entries p.next.area.items p.next.places p.next.count, c.self.invariant.next_size);
    }

pub returns : goal.returns
returns g c =
    rw (← c.self.view_is) (
    let p = c.self.inside.parts in
    let next = c.put.new.self in
    record {
      put = c.put.ensures.put;
      rest = refl;
      room = omega (
        arith,
        length-entries p.next.area.items p.next.places p.next.count,
        length-entries next.area.items next.places next.count,
        c.put.ensures.count,
      );
      in_place = λ there. omega (
        arith,
        length-entries p.next.area.items p.next.places p.next.count,
        length-entries next.area.items next.places next.count,
        c.put.ensures.in_place there,
      );
      places = c.put.ensures.places;
    })

pub invariant_of-self : goal.invariant_of-self
invariant_of-self g c =
    sound_put g.B.Blocks.past_of c.self.inside.parts c.self.invariant c.put.new.self c.put.ensures.buffer c.put.ensures.size
