use Rattle.std.proofs.Common.{ap, refl}
use Rattle.std.proofs.lemmas.Result.{err_from_is_err_and, on_err_weaker}
use Rattle.sorted_scan.specs.Scans.{ScanValue}
use Rattle.core_parts.specs.Parts.{parts_of}
use Rattle.core_parts.proofs.Building.{taken_as}
use Rattle.core_parts.proofs.parts.CoreParts.take_page.Goals as goal

pub page_pairs-requires : goal.page_pairs-requires
page_pairs-requires g c = c.requires.inside

pub returns-in_err-pairs : goal.returns-in_err-pairs
returns-in_err-pairs g c =
    let p = err_from_is_err_and c.from_residual.result c.from_residual.ensures.1 in
    rw (p.1, p.2) (record { taken = tt; unchanged = refl; no_memory = c.in_err-pairs.ensures.no_memory })

pub take_page-requires : goal.take_page-requires
take_page-requires g c =
    rw c.deref.ensures.value (record {
      wanted = c.requires.wanted;
      few = c.in_ok-pairs.ensures.few;
      own = c.in_ok-pairs.ensures.own;
      in_slot_order = c.in_ok-pairs.ensures.in_slot_order;
    })

pub returns : goal.returns
returns g c = record {
  taken = taken_as (parts_of c.args.self.now) c.args.page _ c.take_page.new.self c.in_ok-pairs.pairs.items c.deref.ensures.value c.in_ok-pairs.ensures.each
      c.take_page.result c.take_page.ensures.run c.take_page.ensures.place;
  unchanged = on_err_weaker c.take_page.result (ap (λ (s : ScanValue). record (parts_of c.args.self.now) { scan = s })) c.take_page.ensures.unchanged;
  no_memory = c.take_page.ensures.no_memory;
}
