use Rattle.std.proofs.Common.{◌≡◌, ◌%◌, ◌<◌, ℕ, slice_index, refl, sym, ◌∙◌, ap, arith}
use Rattle.block_batch.specs.Batch.{count_in, place_in}
use Rattle.block_journal.specs.declared.gathered.Gathered.{Gathered}
use Rattle.block_journal.proofs.Buffers.{now_taken, taken_buffer}
use Rattle.block_journal.proofs.Loading.{few_in, other_in}
use Rattle.block_journal.proofs.gathered.Gathered.take.Goals as goal

pub take_places-self-requires : goal.take_places-self-requires
take_places-self-requires g c =
    let few = few_in c.args.self.now.area.items c.requires.batch in
    omega (arith, few.0, c.requires.count)

pub returns-then-parity-a : goal.returns-then-parity-a
returns-then-parity-a g c =
    let b = c.args.self.now in
    record {
      taken = (
        other_in b.area.items c.args.a c.requires.batch
            (λ is. c.if-parity-a.true (ap (λ (n : ℕ). n % 2) (c.number-number.ensures ∙ c.requires.number) ∙ is)),
        c.requires.none,
      );
      buffer = c.requires.buffer;
      size = refl;
    }

pub returns : goal.returns
returns g c =
    let b = c.args.self.now in
    let done = c.take_places-self.ensures in
    let n : Gathered g.row.A.Denot = record {
      area = b.area;
      places = c.take_places-self.new.places;
      count = c.take_places-self.result;
    } in
    let few = few_in b.area.items c.requires.batch in
    let numbered = sym (c.number-number.ensures ∙ c.requires.number) in
    let counted : count_in b.area.items ≡ c.take_places-self.result = sym (done.count ∙ c.requires.count) in
    let placed : (i : ℕ) → i < c.take_places-self.result → place_in b.area.items i ≡ slice_index c.take_places-self.new.places i = λ i below.
    sym (done.places i below ∙ c.requires.places i (omega (arith, below, counted, few.0))) in
    record {
      taken = now_taken b n c.requires.buffer c.args.a c.number-number.result c.take_places-self.result c.requires.batch numbered counted
          c.if-parity-a.false refl refl done.size placed;
      buffer = taken_buffer b n c.requires.buffer c.args.a c.number-number.result c.take_places-self.result c.requires.batch numbered counted
          c.if-parity-a.false refl refl done.size placed;
      size = refl;
    }
