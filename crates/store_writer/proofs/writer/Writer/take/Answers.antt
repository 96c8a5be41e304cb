use Rattle.std.proofs.Common.{◌≡◌, inl, inr, List, length, None, OnOk, sym, ap, subst, ◌∙◌}
use Rattle.record_values.specs.declared.pair.Pair.{Pair}
use Rattle.record_values.specs.declared.pair.Mark.{Mark}
use Rattle.store_image_model.specs.Places.{place_behind}
use Rattle.store_image_model.specs.declared.chunk.Piece.{Piece}
use Rattle.store_image_model.specs.declared.chunk.Piece.TheVariants.{Whole, Start, Page, Entries}
use Rattle.store_writer.specs.Copying.{entries_behind}
use Rattle.store_writer.specs.Writer.{HasKept, HaveEntries, IsChunk, IsEntriesChunk, IsPast, MustStartAgain}
use Rattle.store_writer.specs.declared.copying.Copying.TheVariants.{Steps}
use Rattle.store_writer.specs.declared.image.NewImage.{NewImage}
use Rattle.store_writer.proofs.Replies.{knows_as, taken_as}
use Rattle.store_writer.proofs.writer.Writer.take.Goals as goal

pub take_whole-requires : goal.take_whole-requires
take_whole-requires g c =
    let (run, handed, is, chunk) = c.requires.chunk in
    let asked = subst (λ (p : Piece g.row.A.Denot). IsChunk run c.args.self.now c.args.number p) c.in-Whole.is chunk in
    record { sound = c.requires.sound; whole = (run, handed, is, asked) }

pub take_start-requires : goal.take_start-requires
take_start-requires g c =
    let (run, handed, is, chunk) = c.requires.chunk in
    let asked = subst (λ (p : Piece g.row.A.Denot). IsChunk run c.args.self.now c.args.number p) c.in-Start.is chunk in
    record { sound = c.requires.sound; start = (run, handed, is, asked) }

pub take_page-requires : goal.take_page-requires
take_page-requires g c =
    let (run, handed, is, chunk) = c.requires.chunk in
    record {
      sound = c.requires.sound;
      some = λ none. c.requires.goes_on (subst (λ (p : Piece g.row.A.Denot). MustStartAgain p c.args.self.now) (sym c.in-Page.is) (inl none));
      page = (run, handed, is, subst (λ (p : Piece g.row.A.Denot). IsChunk run c.args.self.now c.args.number p) c.in-Page.is chunk);
      behind = c.requires.behind ∙ ap (λ (p : Piece g.row.A.Denot). place_behind c.args.self.now.halves.geometry.pages p) c.in-Page.is;
    }

pub take_entries-requires : goal.take_entries-requires
take_entries-requires g c =
    let (run, handed, is, chunk) = c.requires.chunk in
    let asked = subst (λ (p : Piece g.row.A.Denot). IsChunk run c.args.self.now c.args.number p) c.in-Entries.is chunk in
    record {
      sound = c.requires.sound;
      some = λ none. c.requires.goes_on (subst (λ (p : Piece g.row.A.Denot). MustStartAgain p c.args.self.now) (sym c.in-Entries.is) (inl none));
      room = λ past.
          let more = subst (λ (l : List (Pair × Mark)). IsPast c.args.self.now (length l)) c.deref.ensures.value past in
          c.requires.goes_on (subst (λ (p : Piece g.row.A.Denot). MustStartAgain p c.args.self.now) (sym c.in-Entries.is) (inr (inr more)));
      entries = (
        run,
        handed,
        is,
        λ image there. subst (λ (l : List (Pair × Mark)). IsEntriesChunk run image c.args.number l) (sym c.deref.ensures.value) (asked image there),
      );
      behind = c.requires.behind ∙ ap (λ (p : Piece g.row.A.Denot). place_behind c.args.self.now.halves.geometry.pages p) c.in-Entries.is
          ∙ ap entries_behind (sym c.deref.ensures.value);
    }

pub returns-in-Whole : goal.returns-in-Whole
returns-in-Whole g c =
    let made = c.take_whole.ensures in
    record {
      writer = λ run handed is chunk. made.writer run handed is
          (subst (λ (p : Piece g.row.A.Denot). IsChunk run c.args.self.now c.args.number p) c.in-Whole.is chunk);
      images = made.images;
      taken = taken_as c.args.number c.args.piece (Whole c.in-Whole.cells) None c.args.self.now c.take_whole.new.self c.take_whole.result c.in-Whole.is
          (sym (ap (λ (p : Piece g.row.A.Denot). place_behind c.args.self.now.halves.geometry.pages p) c.in-Whole.is)) c.take_whole.ensures.taken;
      synced = made.synced;
      err = made.err;
      quiet = made.quiet;
      later = made.later;
      around = made.around;
      left = made.left;
      knows = knows_as c.args.number c.args.piece (Whole c.in-Whole.cells) c.args.self.now c.take_whole.new.self c.take_whole.result c.in-Whole.is
          made.knows;
    }

pub returns-in-Start : goal.returns-in-Start
returns-in-Start g c =
    let made = c.take_start.ensures in
    record {
      writer = λ run handed is chunk. made.writer run handed is
          (subst (λ (p : Piece g.row.A.Denot). IsChunk run c.args.self.now c.args.number p) c.in-Start.is chunk);
      images = made.images;
      taken = taken_as c.args.number c.args.piece (Start c.in-Start.life c.in-Start.lists) _ c.args.self.now c.take_start.new.self c.take_start.result
          c.in-Start.is
          (sym (ap (λ (p : Piece g.row.A.Denot). place_behind c.args.self.now.halves.geometry.pages p) c.in-Start.is)) c.take_start.ensures.taken;
      synced = made.synced;
      err = made.err;
      quiet = made.quiet;
      later = made.later;
      around = made.around;
      left = made.left;
      knows = knows_as c.args.number c.args.piece (Start c.in-Start.life c.in-Start.lists) c.args.self.now c.take_start.new.self c.take_start.result
          c.in-Start.is made.knows;
    }

pub returns-in-Page : goal.returns-in-Page
returns-in-Page g c =
    let made = c.take_page.ensures in
    record {
      writer = λ run handed is chunk. made.writer run handed is
          (subst (λ (p : Piece g.row.A.Denot). IsChunk run c.args.self.now c.args.number p) c.in-Page.is chunk);
      images = made.images;
      taken = taken_as c.args.number c.args.piece (Page c.in-Page.page c.in-Page.rows) c.args.behind c.args.self.now c.take_page.new.self c.take_page.result
          c.in-Page.is c.requires.behind c.take_page.ensures.taken;
      synced = made.synced;
      err = made.err;
      quiet = made.quiet;
      later = made.later;
      around = made.around;
      left = made.left;
      knows = knows_as c.args.number c.args.piece (Page c.in-Page.page c.in-Page.rows) c.args.self.now c.take_page.new.self c.take_page.result
          c.in-Page.is made.knows;
    }

pub returns-in-Entries : goal.returns-in-Entries
returns-in-Entries g c =
    let made = c.take_entries.ensures in
    record {
      writer = λ run handed is chunk.
          let asked = subst (λ (p : Piece g.row.A.Denot). IsChunk run c.args.self.now c.args.number p) c.in-Entries.is chunk in
          c.take_entries.ensures.writer run handed is (λ image there.
          subst (λ (l : List (Pair × Mark)). IsEntriesChunk run image c.args.number l) (sym c.deref.ensures.value) (asked image there));
      images = made.images;
      taken = taken_as c.args.number c.args.piece (Entries c.in-Entries.entries) c.args.behind c.args.self.now c.take_entries.new.self c.take_entries.result
          c.in-Entries.is c.requires.behind
          (subst (λ (l : List (Pair × Mark)). OnOk c.take_entries.result ((image : NewImage) × HasKept image c.args.self.now c.take_entries.new.self
          × HaveEntries c.args.number l c.args.self.now image × (c.take_entries.new.self.copying ≡ Steps c.args.behind))) c.deref.ensures.value
          c.take_entries.ensures.taken);
      synced = made.synced;
      err = made.err;
      quiet = made.quiet;
      later = made.later;
      around = made.around;
      left = made.left;
      knows = knows_as c.args.number c.args.piece (Entries c.in-Entries.entries) c.args.self.now c.take_entries.new.self c.take_entries.result
          c.in-Entries.is made.knows;
    }
