use Rattle.std.proofs.Common.{rules, sym, refl}
use Rattle.std.proofs.lemmas.Option.{slice_get_past, slice_get_read}
use borrow.Author.Tests.{ltb-false}
use Rattle.store_image_model.proofs.chunk.Chunk.place_behind.Goals as goal

pub returns-after-page-geometry : goal.returns-after-page-geometry
returns-after-page-geometry g c = search rules

pub returns-in_ok-last-in-Entries : goal.returns-in_ok-last-in-Entries
returns-in_ok-last-in-Entries g c =
    let read = slice_get_read c.deref.result.now _ 127 _ refl c.in_ok-last-in-Entries.ensures.lookup.3.0 c.in_ok-last-in-Entries.ensures.lookup.1 in
    rw (c.in-Entries.is, ← c.deref.ensures.value, read) refl

pub returns-in_err-last-in-Entries : goal.returns-in_err-last-in-Entries
returns-in_err-last-in-Entries g c =
    let past = slice_get_past c.deref.result.now 127 (ltb-false _ _ (sym c.in_err-last-in-Entries.ensures.lookup.0)) in
    rw (c.from_residual.ensures, c.in-Entries.is, ← c.deref.ensures.value, past) refl
