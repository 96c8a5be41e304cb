use Rattle.std.proofs.Common.{inr, refl, subst}
use Rattle.nsf_index_c.specs.Seen.{Seen}
use Rattle.nsf_index_c.specs.Cleaning.{Looks}
use Rattle.nsf_index_c.proofs.cleaning.nsf_index_next_marked.Goals as goal

pub returns : goal.returns
returns c = inr (
  c.in-Some.held.value,
  c.in-Some.held.value,
  c.in-Some.ensures.taken,
  c.put.ensures,
  (
    refl,
    subst (λ (v : Seen). Looks c.args.most c.look-looked.result.status c.look-looked.result.did c.args.cursor.now
        c.look-looked.new.cursor v.index) c.deref.ensures c.look-looked.ensures,
  ),
)
