use Rattle.std.proofs.Common.{rules, ◌≡◌, sym, ap, subst, ◌∙◌}
use Rattle.records.specs.RecordValue.{RecordValue}
use Rattle.model.specs.Cells.{Cells, set_by}
use Rattle.model.specs.Following.{CanFollow}
use Rattle.model.specs.Inside.{AreInside}
use Rattle.model.specs.Redo.{cells_of}
use Rattle.model.proofs.InsideLaws.{step_inside}
use Rattle.store_reader.specs.Store.{StoreValue}
use Rattle.store_reader.proofs.store_cells.StoreCells.redo.Goals as goal

pub invariant_of-self-2 : goal.invariant_of-self-2
invariant_of-self-2 g c =
    let cells : Cells = cells_of c.self.inside.maps in
    let pages : c.pages-pages.result ≡ c.self.inside.geometry.pages = c.pages-pages.ensures ∙ sym (ap (λ (v : StoreValue). v.geometry.pages) c.self.view_is) in
    let can : CanFollow c.self.inside.geometry.pages c.self.inside.last cells c.args.next.now =
    subst (λ n. CanFollow n c.self.inside.last cells c.args.next.now) pages (c.can_follow.ensures.0 c.if-not-can_follow.false) in
    let now : cells_of c.redo_one.new.self ≡ set_by cells c.args.next.now.action = c.in_ok-redo_one.ensures.ok
    ∙ ap (λ (x : RecordValue). set_by cells x.action) c.next.view_is in (
      subst (AreInside c.self.inside.geometry.pages) (sym now)
          (step_inside c.self.inside.geometry.pages cells c.args.next.now.action can.allowed c.self.invariant.0),
      c.get-self-inside.ensures.last,
    )

pub returns-then-not-can_follow-clause-unfit : goal.returns-then-not-can_follow-clause-unfit
returns-then-not-can_follow-clause-unfit g c = search rules
