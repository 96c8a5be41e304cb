-- A core is safe as it is made.
use Rattle.std.proofs.Common.{List, None, [], ap, subst, sym, ℕ, ◌∙◌, ◌≡◌, ◌≤◌}
use Rattle.std.specs.FinMap.{empty}
use Rattle.record_values.specs.GeometryValue.{GeometryValue}
use Rattle.records.specs.RecordValue.{RecordValue}
use Rattle.record_values.specs.declared.number.TheConstants.{LAST_NUMBER}
use Rattle.model.specs.declared.life.Life.TheVariants.{Absent}
use Rattle.core_parts.specs.Pages.{HeapValue}
use Rattle.txn_table.specs.Table.{TableValue}
use Rattle.core_parts.specs.Index.{IndexValue}
use Rattle.sorted_scan.specs.Scans.{HasRun, ScanValue, begun, begun_run}
use Rattle.core_parts.specs.Moves.{fresh}
use Rattle.core_parts.specs.View.{CoreValue, IsSafe}
use Rattle.nsf_core.proofs.Beginning.{fresh_safe}

module _ (g : GeometryValue) (base : ℕ) (heap : HeapValue) (txns : TableValue) (index : IndexValue) (scan : ScanValue) (outbox : List RecordValue) where
  abbrev pub made_of : CoreValue
  made_of = record {
    heap = heap;
    txns = txns;
    index = index;
    life = Absent;
    scan = scan;
    cleaned = None;
    last = base;
    tried = 0;
    attempts = 0;
    commits = 0;
    outbox = outbox;
  }

  module _ (n m : ℕ) (pages : n ≡ g.pages) (scan_pages : m ≡ g.pages) (heap_is : heap ≡ record { pages = n; rows = empty })
      (txns_is : txns ≡ (fresh g base).txns) (index_is : index ≡ (fresh g base).index) (scan_is : scan ≡ begun None m) (outbox_is : outbox ≡ []) where
    pub fresh_made : made_of ≡ fresh g base
    fresh_made =
        let heap_of : ℕ → HeapValue = λ k. record { pages = k; rows = empty } in
        λ i. record {
          heap = (heap_is ∙ ap heap_of pages) i;
          txns = txns_is i;
          index = index_is i;
          life = Absent;
          scan = (scan_is ∙ ap (begun None) scan_pages) i;
          cleaned = None;
          last = base;
          tried = 0;
          attempts = 0;
          commits = 0;
          outbox = outbox_is i;
        }

    pub made_safe : base ≤ LAST_NUMBER → HasRun scan (begun_run None m) → IsSafe made_of
    made_safe low run =
        let begins : HasRun (begun None m) (begun_run None m) = subst (λ w. HasRun w (begun_run None m)) scan_is run in
        subst IsSafe (sym fresh_made) (fresh_safe g base low (subst (λ k. HasRun (begun None k) (begun_run None k)) scan_pages begins))
