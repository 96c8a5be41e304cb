use borrow.Author.Count.{below_more}
use Rattle.core_parts.specs.Opening.{IsRowShown}
use Rattle.core_parts.specs.Parts.{parts_of}
use Rattle.core_parts.proofs.parts.CoreParts.is_page_shown.Goals as goal

pub loop-slot-preserved : goal.loop-slot-preserved
loop-slot-preserved g c = below_more (λ k. IsRowShown (parts_of c.args.self.now) (record { page = c.args.page; slot = k })) c.loop-slot.slot
    c.loop-slot.invariant (c.is_row_shown.ensures.0 c.if-not-is_row_shown.false)
