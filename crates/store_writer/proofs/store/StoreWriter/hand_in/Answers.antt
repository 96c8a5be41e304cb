use Rattle.std.proofs.Math.Seq.{drop-append_seam}
use Rattle.std.proofs.Common.{◌≡◌, ℕ, ◌+◌, ◌-◌, false, List, [], ◌++◌, append-nil, drop, take, length, length-append, refl, sym, ap, subst, ◌∙◌, arith}
use Rattle.records.specs.RecordValue.{RecordValue}
use Rattle.store_image_model.specs.Run.{Run}
use Rattle.store_writer.specs.declared.writer.Writer.{Writer}
use Rattle.store_writer.specs.declared.known.KnownPages.{KnownPages}
use Rattle.store_writer.specs.Known.{KnowsPages, with_changes}
use Rattle.store_writer.specs.Writer.{AreNext, IsWriter, StandsFor}
use Rattle.store_writer.proofs.Knowing.{known_noted}
use Rattle.store_writer.proofs.Underway.{rest_is}
use Rattle.store_writer.proofs.Opening.{handed_writer, kept_writer, known_handed, none_in, some_in}
use Rattle.store_writer.proofs.store.StoreWriter.hand_in.Goals as goal

pub returns-then-is_empty : goal.returns-then-is_empty
returns-then-is_empty g c =
    let old = c.args.self.now in
    let none : c.args.records.items ≡ [] = none_in c.args.records.items _ c.args.records.ok.0 c.if-is_empty.ensures in
    record {
      writer = λ run handed is next.
          let same : handed ≡ handed + length c.args.records.items = omega (arith, ap length none) in
          subst (λ (n : ℕ). IsWriter g.D.Device.past_of run n old) same is;
      waits = sym (ap (λ (l : List RecordValue). old.waiting ++ l) none ∙ append-nil old.waiting);
      unchanged = tt;
      still = tt;
      back = tt;
      some = tt;
      device = refl;
      halves = refl;
      log = refl;
      synced = refl;
      image = refl;
      copying = refl;
      failed = refl;
      notes = (ap (with_changes old.known.changed.items) (sym none), refl, refl);
      knows = tt;
    }

pub returns-in-Err : goal.returns-in-Err
returns-in-Err g c =
    rw (← c.self.view_is) (
    let old = c.self.inside.writer in
    let new : Writer g.row.D.Denot g.row.A.Denot = record {
      device = old.device;
      halves = old.halves;
      log = old.log;
      waiting = c.append.new.self;
      synced = old.synced;
      image = old.image;
      copying = old.copying;
      known = old.known;
      failed = old.failed;
    } in
    let holds : old.failed ≡ false → (run : Run) (handed : ℕ) → IsWriter g.D.Device.past_of run handed old → StandsFor g.D.Device.past_of run new =
    λ sound run handed is.
    let stood = is.holds sound in
    record {
      store = stood.store;
      has = stood.has;
      area-is = stood.area-is;
      groups = stood.groups;
      stands = stood.stands;
      loose = stood.loose;
      image = stood.image;
      copying = stood.copying;
      known = subst (λ (l : List RecordValue). KnowsPages run old.halves.current (g.D.Device.past_of old.device).disk.content (old.synced + length l)
          old.known.changed.items old.known.current old.known.other) (sym c.in-Err.ensures.items) stood.known;
    } in
    record {
      writer = tt;
      waits = tt;
      unchanged = λ run handed is. kept_writer g.D.Device.past_of run handed old is new refl refl refl (λ sound. holds sound run handed is)
          c.in-Err.ensures.items;
      still = c.in-Err.ensures.items;
      back = c.in-Err.ensures.other_items;
      some = some_in c.args.records.items _ c.args.records.ok.0 c.if-is_empty.ensures;
      device = refl;
      halves = refl;
      log = refl;
      synced = refl;
      image = refl;
      copying = refl;
      failed = refl;
      notes = tt;
      knows = (refl, refl, refl);
    })

pub invariant_of-self : goal.invariant_of-self
invariant_of-self g c =
    let (run, handed, is, next) = (rw (← c.self.view_is) at c.requires) in
    let old = c.self.inside.writer in
    let new : Writer g.row.D.Denot g.row.A.Denot = record {
      device = old.device;
      halves = old.halves;
      log = old.log;
      waiting = c.append.new.self;
      synced = old.synced;
      image = old.image;
      copying = old.copying;
      known = old.known;
      failed = old.failed;
    } in
    let holds : old.failed ≡ false → (run : Run) (handed : ℕ) → IsWriter g.D.Device.past_of run handed old → StandsFor g.D.Device.past_of run new =
    λ sound run handed is.
    let stood = is.holds sound in
    record {
      store = stood.store;
      has = stood.has;
      area-is = stood.area-is;
      groups = stood.groups;
      stands = stood.stands;
      loose = stood.loose;
      image = stood.image;
      copying = stood.copying;
      known = subst (λ (l : List RecordValue). KnowsPages run old.halves.current (g.D.Device.past_of old.device).disk.content (old.synced + length l)
          old.known.changed.items old.known.current old.known.other) (sym c.in-Err.ensures.items) stood.known;
    } in
    (run, handed, kept_writer g.D.Device.past_of run handed old is new refl refl refl (λ sound. holds sound run handed is) c.in-Err.ensures.items)

pub returns : goal.returns
returns g c =
    rw (← c.self.view_is) (
    let old = c.self.inside.writer in
    let new : Writer g.row.D.Denot g.row.A.Denot = record {
      device = old.device;
      halves = old.halves;
      log = old.log;
      waiting = c.append.new.self;
      synced = old.synced;
      image = old.image;
      copying = old.copying;
      known = c.note.new.self;
      failed = old.failed;
    } in
    let kept : KnownPages g.row.A.Denot = c.note.new.self in
    let slice : take (length c.as_slice.result.now - c.len-before.result) (drop c.len-before.result c.as_slice.result.now) ≡ c.args.records.items =
    rest_is c.len-before.result c.as_slice.result.now
    ∙ ap (drop c.len-before.result) (c.as_slice.ensures ∙ c.in-Ok.ensures.items)
    ∙ ap (λ (n : ℕ). drop n (old.waiting ++ c.args.records.items)) c.len-before.ensures
    ∙ drop-append_seam old.waiting c.args.records.items in
    let changed : kept.changed.items ≡ with_changes old.known.changed.items c.args.records.items =
    c.note.ensures.changed ∙ ap (with_changes old.known.changed.items) slice in
    let noted : old.failed ≡ false → (run : Run) (handed : ℕ) → IsWriter g.D.Device.past_of run handed old → AreNext run handed c.args.records.items
    → KnowsPages run old.halves.current (g.D.Device.past_of old.device).disk.content (old.synced + length c.append.new.self) kept.changed.items
    kept.current kept.other = λ sound run handed is next.
    known_noted run old.halves.current (g.D.Device.past_of old.device).disk.content _ _ _ _ _ _ _ _
    (omega (arith, ap length c.in-Ok.ensures.items, length-append old.waiting c.args.records.items)) changed c.note.ensures.current c.note.ensures.other
    (known_handed g.D.Device.past_of run handed old is sound c.args.records.items next) in
    let holds : old.failed ≡ false → (run : Run) (handed : ℕ) → IsWriter g.D.Device.past_of run handed old → AreNext run handed c.args.records.items
    → StandsFor g.D.Device.past_of run new = λ sound run handed is next.
    let stood = is.holds sound in
    record {
      store = stood.store;
      has = stood.has;
      area-is = stood.area-is;
      groups = stood.groups;
      stands = stood.stands;
      loose = stood.loose;
      image = stood.image;
      copying = stood.copying;
      known = noted sound run handed is next;
    } in
    record {
      writer = λ run handed is next. handed_writer g.D.Device.past_of run handed old is new c.args.records.items refl refl refl (λ sound.
          holds sound run handed is next) c.in-Ok.ensures.items next;
      waits = c.in-Ok.ensures.items;
      unchanged = tt;
      still = tt;
      back = tt;
      some = tt;
      device = refl;
      halves = refl;
      log = refl;
      synced = refl;
      image = refl;
      copying = refl;
      failed = refl;
      notes = (changed, c.note.ensures.current, c.note.ensures.other);
      knows = tt;
    })

pub invariant_of-self-2 : goal.invariant_of-self-2
invariant_of-self-2 g c =
    let (run, handed, is, next) = (rw (← c.self.view_is) at c.requires) in
    let old = c.self.inside.writer in
    let new : Writer g.row.D.Denot g.row.A.Denot = record {
      device = old.device;
      halves = old.halves;
      log = old.log;
      waiting = c.append.new.self;
      synced = old.synced;
      image = old.image;
      copying = old.copying;
      known = c.note.new.self;
      failed = old.failed;
    } in
    let kept : KnownPages g.row.A.Denot = c.note.new.self in
    let slice : take (length c.as_slice.result.now - c.len-before.result) (drop c.len-before.result c.as_slice.result.now) ≡ c.args.records.items =
    rest_is c.len-before.result c.as_slice.result.now
    ∙ ap (drop c.len-before.result) (c.as_slice.ensures ∙ c.in-Ok.ensures.items)
    ∙ ap (λ (n : ℕ). drop n (old.waiting ++ c.args.records.items)) c.len-before.ensures
    ∙ drop-append_seam old.waiting c.args.records.items in
    let changed : kept.changed.items ≡ with_changes old.known.changed.items c.args.records.items =
    c.note.ensures.changed ∙ ap (with_changes old.known.changed.items) slice in
    let noted : old.failed ≡ false → (run : Run) (handed : ℕ) → IsWriter g.D.Device.past_of run handed old → AreNext run handed c.args.records.items
    → KnowsPages run old.halves.current (g.D.Device.past_of old.device).disk.content (old.synced + length c.append.new.self) kept.changed.items
    kept.current kept.other = λ sound run handed is next.
    known_noted run old.halves.current (g.D.Device.past_of old.device).disk.content _ _ _ _ _ _ _ _
    (omega (arith, ap length c.in-Ok.ensures.items, length-append old.waiting c.args.records.items)) changed c.note.ensures.current c.note.ensures.other
    (known_handed g.D.Device.past_of run handed old is sound c.args.records.items next) in
    let holds : old.failed ≡ false → (run : Run) (handed : ℕ) → IsWriter g.D.Device.past_of run handed old → AreNext run handed c.args.records.items
    → StandsFor g.D.Device.past_of run new = λ sound run handed is next.
    let stood = is.holds sound in
    record {
      store = stood.store;
      has = stood.has;
      area-is = stood.area-is;
      groups = stood.groups;
      stands = stood.stands;
      loose = stood.loose;
      image = stood.image;
      copying = stood.copying;
      known = noted sound run handed is next;
    } in (
      run,
      handed + length c.args.records.items,
      handed_writer g.D.Device.past_of run handed old is new c.args.records.items refl refl refl (λ sound.
          holds sound run handed is next) c.in-Ok.ensures.items next,
    )

pub slice_bounds-note-count : goal.slice_bounds-note-count
slice_bounds-note-count g c =
    let old = c.self.inside.writer in
    omega (
      arith,
      c.len-before.ensures,
      ap length (c.as_slice.ensures ∙ c.in-Ok.ensures.items),
      length-append old.waiting c.args.records.items,
    )

pub slice_bounds-note-start : goal.slice_bounds-note-start
slice_bounds-note-start g c = omega (arith, slice_bounds-note-count g c)

pub offset_bounds-as_slice-before : goal.offset_bounds-as_slice-before
offset_bounds-as_slice-before g c = omega (arith, slice_bounds-note-count g c, c.as_slice.type_inv.1)
