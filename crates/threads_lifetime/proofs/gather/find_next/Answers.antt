use Rattle.std.proofs.Common.{◌<◌, ap, ◌∙◌, sym, inl, inr, arith, length}
use Rattle.std.proofs.lemmas.Bool.{cases_eq}
use Rattle.std.specs.Prelude.{reverse, slice_get}
use Rattle.threads_lifetime.specs.Gathered.{heads_with, lists_of}
use Rattle.threads_lifetime.proofs.Gathering.{list_at, list_there, list_within}
use Rattle.threads_lifetime.proofs.gather.find_next.Goals as goal

pub loop-k-preserved : goal.loop-k-preserved
loop-k-preserved g c = λ j list lt at. elim (cases_eq j c.loop-k.k) [
  | inl is ↦
      let same = list_at c.args.lists.now c.loop-k.k c.index-lists-k.result list c.index-lists-k.is (ap (slice_get (lists_of c.args.lists.now)) (sym is)
      ∙ at) in
      ap (heads_with c.args.number) (same ∙ ap reverse (sym c.deref.ensures.value)) ∙ (sym c.heads.ensures ∙ c.if-heads.false)
  | inr not ↦ c.loop-k.invariant j list (omega arith) at
]

pub returns-then-heads : goal.returns-then-heads
returns-then-heads g c =
    let lists = c.args.lists.now in
    let k = c.loop-k.k in
    let list = c.index-lists-k.result in
    let within : k < length lists = omega arith in
    record {
      some = (
        reverse list.items,
        list_there lists k list within c.index-lists-k.is,
        ap (λ l. heads_with c.args.number (reverse l)) (sym c.deref.ensures.value) ∙ (sym c.heads.ensures ∙ c.if-heads.true),
      );
      within = within;
      none = tt;
    }

pub returns-clause-none : goal.returns-clause-none
returns-clause-none g c = λ k list at. let within = list_within c.args.lists.now k list at in c.loop-k.invariant k list (omega arith) at
