use borrow.Author.Count.{below_more}
use Rattle.core_parts.specs.Opening.{IsRowShown}
use Rattle.nsf_core.specs.Value.{value_of}
use Rattle.nsf_core.proofs.store.Core.is_page_noted.Goals as goal

pub loop-slot-preserved : goal.loop-slot-preserved
loop-slot-preserved g c = below_more (λ k. IsRowShown (value_of c.args.self.now) (record { page = c.args.page; slot = k })) c.loop-slot.slot
    c.loop-slot.invariant (c.is_noted.ensures c.if-not-is_noted.false)
