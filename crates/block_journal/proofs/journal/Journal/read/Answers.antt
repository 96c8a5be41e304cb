use Rattle.std.proofs.Common.{◌≡◌, inl, inr, ap, refl, sym, ◌∙◌, arith}
use Rattle.std.proofs.lemmas.Bool.{false≢true}
use Rattle.block_journal.specs.Value.{JournalValue}
use Rattle.block_journal.specs.JournalParts.{value_of}
use Rattle.block_journal.proofs.Parting.{as_read, sound_counted}
use Rattle.block_journal.proofs.OnlyReading.{reads_none}
use Rattle.block_journal.proofs.Results.{counts_refused, counts_with, on_err, on_ok_always}
use Rattle.block_journal.proofs.journal.Journal.read.Goals as goal

pub returns-then-self : goal.returns-then-self
returns-then-self g c =
    rw (← c.self.view_is) (
    let p = c.self.inside.parts in
    record {
      ok = tt;
      err = refl;
      rest = refl;
      good = λ is. absurd (false≢true (sym is ∙ c.if-self.true));
      refused = λ _. refl;
      reads = reads_none (g.B.Blocks.past_of p.below);
      back = refl;
      fails = inl c.if-self.true;
      sound = tt;
      counts = counts_refused (g.B.Blocks.failures p.below) p.refused c.saturating_add-self-inside.result _ (omega arith) c.saturating_add-self-inside.ensures;
    })

pub invariant_of-self : goal.invariant_of-self
invariant_of-self g c = sound_counted g.B.Blocks.past_of c.self.inside.parts c.self.invariant c.saturating_add-self-inside.result

pub read-requires : goal.read-requires
read-requires g c = record { sound = c.self.invariant; kept = rw (← c.self.view_is) at c.requires }

pub returns : goal.returns
returns g c =
    rw (← c.self.view_is) (
    let p = c.self.inside.parts in
    let done = c.read.ensures in
    let refused : c.read.new.self.refused ≡ p.refused = ap (λ (v : JournalValue g.row.B.Denot). v.refused) done.rest in
    record {
      ok = done.ok;
      err = done.err;
      rest = as_read (value_of p) (value_of c.read.new.self) done.rest;
      good = λ _. done.rest;
      refused = λ was. absurd (false≢true (sym c.if-self.false ∙ was));
      reads = done.reads;
      back = done.back;
      fails = on_err _ _ c.read.result (λ rises. inr rises) done.counts.failed;
      sound = on_ok_always _ c.read.result c.if-self.false;
      counts = counts_with _ _ _ _ c.read.result done.counts refused;
    })

pub invariant_of-self-2 : goal.invariant_of-self-2
invariant_of-self-2 g c = c.read.ensures.sound
