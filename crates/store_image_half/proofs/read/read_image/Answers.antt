use Rattle.std.proofs.Common.{◌≡◌, ◌≤◌, List, length, Err, refl, sym, ap, ◌∙◌, subst, arith}
use Rattle.std.proofs.lemmas.Result.{err_from_is_err_and}
use Rattle.sector_device.specs.Disk.{Disk, CrashState, sector}
use Rattle.sector_device.proofs.Within.{reads_then}
use Rattle.model.specs.Cells.{Cells}
use Rattle.store_image_parts.specs.declared.head.Head.{Head}
use Rattle.store_image_half.specs.Layout.{heads_at, image_end_in}
use Rattle.store_image_half.specs.Image.{AreHeads}
use Rattle.store_image_half.specs.Steps.{HoldsLists, HoldsPages, HoldsEntries, AreListsRefused}
use Rattle.store_image_half.proofs.Refusing.{header_unread, heads_unread, later_than, not_fewer, lists_unread, pages_unread, entries_unread, whole_image}
use Rattle.store_image_half.proofs.read.read_image.Goals as goal

pub read_header-requires : goal.read_header-requires
read_header-requires g c = omega (arith, c.requires.inside)

pub read_heads-requires : goal.read_heads-requires
read_heads-requires g c = record {
  inside = omega (arith, c.requires.inside, ap (λ (d : Disk). length d.content) c.read_header.ensures.reads.disk);
  number = omega (arith, c.requires.number);
}

pub read_lists-requires : goal.read_lists-requires
read_lists-requires g c =
    let same = c.read_heads.ensures.reads.disk ∙ c.read_header.ensures.reads.disk in
    let now = (g.D.Device.past_of c.read_heads.new.device).disk.content in
    record {
      heads = subst (λ (l : List Head). AreHeads (sector now (heads_at c.args.first)) l) (sym c.deref.ensures.value)
          (subst (λ (d : Disk). AreHeads (sector d.content (heads_at c.args.first)) c.in_ok-heads.heads.items) (sym c.read_heads.ensures.reads.disk)
          c.in_ok-heads.ensures.found);
      empty = ap (λ (x : Cells). x.pending) c.requires.empty;
      inside = omega (arith, c.requires.inside, ap (λ (d : Disk). length d.content) same);
      number = omega (arith, c.requires.number);
    }

pub read_pages-requires : goal.read_pages-requires
read_pages-requires g c =
    let same = c.read_lists.ensures.reads.disk ∙ (c.read_heads.ensures.reads.disk ∙ c.read_header.ensures.reads.disk) in
    record {
      empty = ap (λ (x : Cells). x.rows) c.in_ok-read_lists.ensures.rest ∙ ap (λ (x : Cells). x.rows) c.requires.empty;
      inside = omega (arith, c.requires.inside, ap (λ (d : Disk). length d.content) same);
      number = omega (arith, c.requires.number);
    }

pub read_entries-requires : goal.read_entries-requires
read_entries-requires g c =
    let same = c.read_pages.ensures.reads.disk
    ∙ (c.read_lists.ensures.reads.disk ∙ (c.read_heads.ensures.reads.disk ∙ c.read_header.ensures.reads.disk)) in
    record {
      count = c.in_ok-header.ensures.found.room;
      empty = ap (λ (x : Cells). x.entries) c.in_ok-read_pages.ensures.rest
          ∙ (ap (λ (x : Cells). x.entries) c.in_ok-read_lists.ensures.rest ∙ ap (λ (x : Cells). x.entries) c.requires.empty);
      inside = subst (λ (d : Disk). image_end_in c.args.version c.args.geometry c.args.first ≤ length d.content) (sym same) c.requires.inside;
      number = c.requires.number;
    }

pub returns-in_err-header : goal.returns-in_err-header
returns-in_err-header g c =
    let image : CrashState = (g.D.Device.past_of c.args.device.now).disk.content in
    let p = err_from_is_err_and c.from_residual.result c.from_residual.ensures.1 in
    rw (p.1 ∙ ap Err p.2) (record {
      read = tt;
      refused = header_unread c.args.version c.args.geometry c.args.first image image _ _ _ c.in_err-header.field-0.0 refl refl
          c.in_err-header.ensures.refused;
      reads = c.read_header.ensures.reads;
      quiet = tt;
      told = c.in_err-header.ensures.told;
      memory = λ is. absurd (c.in_err-header.ensures.no_memory is);
      later = c.read_header.ensures.later;
    })

pub returns-in_err-heads : goal.returns-in_err-heads
returns-in_err-heads g c =
    let v = c.args.version in
    let x = c.args.geometry in
    let first = c.args.first in
    let image : CrashState = (g.D.Device.past_of c.args.device.now).disk.content in
    let told = heads_unread v x first image _ _ _ _ c.in_err-heads.field-0.0
    (ap (λ (d : Disk). d.content) c.read_header.ensures.reads.disk) c.in_ok-header.ensures.quiet c.in_ok-header.header c.in_ok-header.ensures.found
    c.in_err-heads.ensures.refused in
    let p = err_from_is_err_and c.from_residual-in_err-heads.result c.from_residual-in_err-heads.ensures.1 in
    let before = c.in_ok-header.ensures.quiet in
    rw (p.1 ∙ ap Err p.2) (record {
      read = tt;
      refused = told;
      reads = reads_then _ _ _ c.read_header.ensures.reads c.read_heads.ensures.reads;
      quiet = tt;
      told = λ other. c.in_err-heads.ensures.told other ∙ before;
      memory = λ _. (c.in_ok-header.header, c.in_ok-header.ensures.found);
      later = later_than _ _ _ before c.read_heads.ensures.later;
    })

pub returns-in_err-read_lists : goal.returns-in_err-read_lists
returns-in_err-read_lists g c =
    let v = c.args.version in
    let x = c.args.geometry in
    let first = c.args.first in
    let image : CrashState = (g.D.Device.past_of c.args.device.now).disk.content in
    let one = ap (λ (d : Disk). d.content) c.read_header.ensures.reads.disk in
    let two = ap (λ (d : Disk). d.content) (c.read_heads.ensures.reads.disk ∙ c.read_header.ensures.reads.disk) in
    let are = subst (λ (y : CrashState). AreHeads (sector y (heads_at first)) c.in_ok-heads.heads.items) one c.in_ok-heads.ensures.found in
    let told = lists_unread v x first image _ _ _ _ c.in_err-read_lists.field-0.0 two (c.in_ok-heads.ensures.quiet
    ∙ c.in_ok-header.ensures.quiet) c.in_ok-header.header c.in_ok-header.ensures.found c.in_ok-heads.heads.items are
    (subst (λ (l : List Head). AreListsRefused v x first (g.D.Device.past_of c.read_heads.new.device).disk.content l
    (g.D.Device.failures c.read_heads.new.device) (g.D.Device.failures c.read_lists.new.device) c.in_err-read_lists.field-0.0) c.deref.ensures.value
    c.in_err-read_lists.ensures.refused) in
    let p = err_from_is_err_and c.from_residual-in_err-read_lists.result c.from_residual-in_err-read_lists.ensures.1 in
    let first_reads = reads_then _ _ _ c.read_header.ensures.reads c.read_heads.ensures.reads in
    let before = c.in_ok-heads.ensures.quiet ∙ c.in_ok-header.ensures.quiet in
    rw (p.1 ∙ ap Err p.2) (record {
      read = tt;
      refused = told;
      reads = reads_then _ _ _ first_reads c.read_lists.ensures.reads;
      quiet = tt;
      told = λ other. c.in_err-read_lists.ensures.told other ∙ before;
      memory = λ _. (c.in_ok-header.header, c.in_ok-header.ensures.found);
      later = later_than _ _ _ before c.read_lists.ensures.later;
    })

pub returns-in_err-read_pages : goal.returns-in_err-read_pages
returns-in_err-read_pages g c =
    let v = c.args.version in
    let x = c.args.geometry in
    let first = c.args.first in
    let image : CrashState = (g.D.Device.past_of c.args.device.now).disk.content in
    let one = ap (λ (d : Disk). d.content) c.read_header.ensures.reads.disk in
    let two = ap (λ (d : Disk). d.content) (c.read_heads.ensures.reads.disk ∙ c.read_header.ensures.reads.disk) in
    let three = ap (λ (d : Disk). d.content) (c.read_lists.ensures.reads.disk ∙ (c.read_heads.ensures.reads.disk ∙ c.read_header.ensures.reads.disk)) in
    let are = subst (λ (y : CrashState). AreHeads (sector y (heads_at first)) c.in_ok-heads.heads.items) one c.in_ok-heads.ensures.found in
    let pending = (g.S.CellSink.cells c.read_lists.new.sink).pending in
    let lists = subst (λ (y : CrashState). HoldsLists v x first y c.in_ok-heads.heads.items pending) two
    (subst (λ (l : List Head). HoldsLists v x first (g.D.Device.past_of c.read_heads.new.device).disk.content l pending) c.deref.ensures.value
    c.in_ok-read_lists.ensures.held) in
    let told = pages_unread v x first image _ _ _ _ c.in_err-read_pages.field-0.0 three (c.in_ok-read_lists.ensures.quiet
    ∙ (c.in_ok-heads.ensures.quiet ∙ c.in_ok-header.ensures.quiet)) c.in_ok-header.header c.in_ok-header.ensures.found c.in_ok-heads.heads.items are
    pending lists c.in_err-read_pages.ensures.refused in
    let p = err_from_is_err_and c.from_residual-in_err-read_pages.result c.from_residual-in_err-read_pages.ensures.1 in
    let first_reads = reads_then _ _ _ c.read_header.ensures.reads c.read_heads.ensures.reads in
    let more_reads = reads_then _ _ _ first_reads c.read_lists.ensures.reads in
    let before = c.in_ok-read_lists.ensures.quiet ∙ (c.in_ok-heads.ensures.quiet ∙ c.in_ok-header.ensures.quiet) in
    rw (p.1 ∙ ap Err p.2) (record {
      read = tt;
      refused = told;
      reads = reads_then _ _ _ more_reads c.read_pages.ensures.reads;
      quiet = tt;
      told = λ other. c.in_err-read_pages.ensures.told other ∙ before;
      memory = λ _. (c.in_ok-header.header, c.in_ok-header.ensures.found);
      later = later_than _ _ _ before c.read_pages.ensures.later;
    })

pub returns-in_err-read_entries : goal.returns-in_err-read_entries
returns-in_err-read_entries g c =
    let v = c.args.version in
    let x = c.args.geometry in
    let first = c.args.first in
    let image : CrashState = (g.D.Device.past_of c.args.device.now).disk.content in
    let one = ap (λ (d : Disk). d.content) c.read_header.ensures.reads.disk in
    let two = ap (λ (d : Disk). d.content) (c.read_heads.ensures.reads.disk ∙ c.read_header.ensures.reads.disk) in
    let three = ap (λ (d : Disk). d.content) (c.read_lists.ensures.reads.disk ∙ (c.read_heads.ensures.reads.disk ∙ c.read_header.ensures.reads.disk)) in
    let four = ap (λ (d : Disk). d.content) c.read_pages.ensures.reads.disk ∙ three in
    let are = subst (λ (y : CrashState). AreHeads (sector y (heads_at first)) c.in_ok-heads.heads.items) one c.in_ok-heads.ensures.found in
    let pending = (g.S.CellSink.cells c.read_lists.new.sink).pending in
    let rows = (g.S.CellSink.cells c.read_pages.new.sink).rows in
    let lists = subst (λ (y : CrashState). HoldsLists v x first y c.in_ok-heads.heads.items pending) two
    (subst (λ (l : List Head). HoldsLists v x first (g.D.Device.past_of c.read_heads.new.device).disk.content l pending) c.deref.ensures.value
    c.in_ok-read_lists.ensures.held) in
    let pages = subst (λ (y : CrashState). HoldsPages v x first y x.pages rows) three c.in_ok-read_pages.ensures.held in
    let told = entries_unread v x first image _ _ _ _ c.in_err-read_entries.field-0.0 four (c.in_ok-read_pages.ensures.quiet
    ∙ (c.in_ok-read_lists.ensures.quiet ∙ (c.in_ok-heads.ensures.quiet ∙ c.in_ok-header.ensures.quiet))) c.in_ok-header.header c.in_ok-header.ensures.found
    c.in_ok-heads.heads.items are
    pending lists rows pages c.in_err-read_entries.ensures.refused in
    let p = err_from_is_err_and c.from_residual-in_err-read_entries.result c.from_residual-in_err-read_entries.ensures.1 in
    let first_reads = reads_then _ _ _ c.read_header.ensures.reads c.read_heads.ensures.reads in
    let more_reads = reads_then _ _ _ first_reads c.read_lists.ensures.reads in
    let most_reads = reads_then _ _ _ more_reads c.read_pages.ensures.reads in
    let before = c.in_ok-read_pages.ensures.quiet ∙ (c.in_ok-read_lists.ensures.quiet ∙ (c.in_ok-heads.ensures.quiet ∙ c.in_ok-header.ensures.quiet)) in
    rw (p.1 ∙ ap Err p.2) (record {
      read = tt;
      refused = told;
      reads = reads_then _ _ _ most_reads c.read_entries.ensures.reads;
      quiet = tt;
      told = λ other. c.in_err-read_entries.ensures.told other ∙ before;
      memory = λ _. (c.in_ok-header.header, c.in_ok-header.ensures.found);
      later = later_than _ _ _ before c.read_entries.ensures.later;
    })

pub returns : goal.returns
returns g c =
    let v = c.args.version in
    let x = c.args.geometry in
    let first = c.args.first in
    let image : CrashState = (g.D.Device.past_of c.args.device.now).disk.content in
    let one = ap (λ (d : Disk). d.content) c.read_header.ensures.reads.disk in
    let two = ap (λ (d : Disk). d.content) (c.read_heads.ensures.reads.disk ∙ c.read_header.ensures.reads.disk) in
    let three = ap (λ (d : Disk). d.content) (c.read_lists.ensures.reads.disk ∙ (c.read_heads.ensures.reads.disk ∙ c.read_header.ensures.reads.disk)) in
    let four = ap (λ (d : Disk). d.content) c.read_pages.ensures.reads.disk ∙ three in
    let are = subst (λ (y : CrashState). AreHeads (sector y (heads_at first)) c.in_ok-heads.heads.items) one c.in_ok-heads.ensures.found in
    let with_lists : Cells = g.S.CellSink.cells c.read_lists.new.sink in
    let with_rows : Cells = g.S.CellSink.cells c.read_pages.new.sink in
    let with_entries : Cells = g.S.CellSink.cells c.read_entries.new.sink in
    let new : Cells = g.S.CellSink.cells c.set_life.new.self in
    let lists = subst (λ (y : CrashState). HoldsLists v x first y c.in_ok-heads.heads.items with_lists.pending) two
    (subst (λ (l : List Head). HoldsLists v x first (g.D.Device.past_of c.read_heads.new.device).disk.content l with_lists.pending) c.deref.ensures.value
    c.in_ok-read_lists.ensures.held) in
    let pages = subst (λ (y : CrashState). HoldsPages v x first y x.pages with_rows.rows) three c.in_ok-read_pages.ensures.held in
    let entries = subst (λ (y : CrashState). HoldsEntries v x first y c.in_ok-header.header.entries with_entries.entries) four c.in_ok-read_entries.ensures.held
    in
    let same_lists : new.pending ≡ with_lists.pending = ap (λ (y : Cells). y.pending) c.set_life.ensures
    ∙ ap (λ (y : Cells). y.pending) c.in_ok-read_entries.ensures.rest ∙ ap (λ (y : Cells). y.pending) c.in_ok-read_pages.ensures.rest in
    let same_rows : new.rows ≡ with_rows.rows = ap (λ (y : Cells). y.rows) c.set_life.ensures ∙ ap (λ (y : Cells). y.rows) c.in_ok-read_entries.ensures.rest in
    let same_entries : new.entries ≡ with_entries.entries = ap (λ (y : Cells). y.entries) c.set_life.ensures in
    let first_reads = reads_then _ _ _ c.read_header.ensures.reads c.read_heads.ensures.reads in
    let more_reads = reads_then _ _ _ first_reads c.read_lists.ensures.reads in
    let most_reads = reads_then _ _ _ more_reads c.read_pages.ensures.reads in
    let quiet = c.in_ok-read_entries.ensures.quiet ∙ (c.in_ok-read_pages.ensures.quiet
    ∙ (c.in_ok-read_lists.ensures.quiet ∙ (c.in_ok-heads.ensures.quiet ∙ c.in_ok-header.ensures.quiet))) in
    record {
      read = whole_image v x first image c.in_ok-header.header c.in_ok-heads.heads.items new c.in_ok-header.ensures.found are
          (subst (HoldsLists v x first image c.in_ok-heads.heads.items) (sym same_lists) lists)
          (subst (HoldsPages v x first image x.pages) (sym same_rows) pages)
          (subst (HoldsEntries v x first image c.in_ok-header.header.entries) (sym same_entries) entries)
          (ap (λ (y : Cells). y.life) c.set_life.ensures);
      refused = tt;
      reads = reads_then _ _ _ most_reads c.read_entries.ensures.reads;
      quiet = quiet;
      told = tt;
      memory = tt;
      later = not_fewer _ _ quiet;
    }
