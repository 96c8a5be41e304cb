-- Records that are popped and handed in, under the lock.
use Rattle.std.proofs.Common.{◌≡◌, List, [], ◌++◌, Result, Ok, Err, OnOk, OnErr, refl, sym, ap, ◌∙◌, subst, append-nil, append_assoc}
use Rattle.records.specs.RecordValue.{RecordValue}
use Rattle.record_values.specs.declared.error.Error.{Error}
use Rattle.board.specs.Views.{FlusherCount}
use Rattle.store_writer.specs.declared.writer.Writer.{Writer}
use Rattle.store_writer.specs.Parts.{copying_of, waiting_of}
use Rattle.threads_flusher.specs.Going.{TakesIn}
use Rattle.threads_flusher.specs.Part.{FlushValue, HasGot, LooksForStop, popped_by}

-- nothing was published
told_same : (old new : FlusherCount) → new ≡ old → new ≡ record old { stopped = new.stopped }
told_same old new is = subst (λ (c : FlusherCount). c ≡ record old { stopped = c.stopped }) (sym is) refl

module _ {D A : Type 0} where
  pub got_none : (w : Writer D A) → HasGot [] w w
  got_none w = record { device = refl; halves = refl; log = refl; waiting = sym (append-nil (waiting_of w)); synced = refl; failed = refl; image = refl }

  -- no record was popped
  pub took_none : (f : FlushValue D A) → TakesIn f f
  took_none f = record {
    popped = [];
    popped-are = sym (append-nil (popped_by f));
    more = [];
    handed = sym (append-nil f.handed);
    got = got_none f.writer;
    copying = refl;
    published = refl;
    publications = refl;
  }

  -- it looked whether all are asked to stop
  pub took_look : (old new : FlushValue D A) → LooksForStop old new → TakesIn old new
  took_look old new looks = subst (TakesIn old) (sym looks)
      (record {
        popped = [];
        popped-are = sym (append-nil (popped_by old));
        more = [];
        handed = sym (append-nil old.handed);
        got = got_none old.writer;
        copying = refl;
        published = refl;
        publications = refl;
      })

  -- none was popped, or some were and then more
  pub popped_none : (f : FlushValue D A) → f ≡ record f { held = f.held ++ [] }
  popped_none f = ap (λ (l : List RecordValue). record f { held = l }) (sym (append-nil f.held))

  pub popped_then : (old mid new : FlushValue D A) (first second : List RecordValue) → mid ≡ record old { held = old.held ++ first }
      → new ≡ record mid { held = mid.held ++ second } → new ≡ record old { held = old.held ++ (first ++ second) }
  popped_then old mid new first second one two = two ∙ ap (λ (f : FlushValue D A). record f { held = f.held ++ second }) one
      ∙ ap (λ (l : List RecordValue). record old { held = l }) (append_assoc old.held first second)

  module _ (old mid : FlushValue D A) (popped : List RecordValue) (is : mid ≡ record old { held = old.held ++ popped }) where
    all_are : popped_by mid ≡ popped_by old ++ popped
    all_are = ap popped_by is ∙ sym (append_assoc old.handed old.held popped)

    -- some were popped
    pub took_more : TakesIn old mid
    took_more = record {
      popped = popped;
      popped-are = all_are;
      more = [];
      handed = ap (λ (f : FlushValue D A). f.handed) is ∙ sym (append-nil old.handed);
      got = subst (λ (f : FlushValue D A). HasGot [] old.writer f.writer) (sym is) (got_none old.writer);
      copying = ap (λ (f : FlushValue D A). copying_of f.writer) is;
      published = told_same old.published mid.published (ap (λ (f : FlushValue D A). f.published) is);
      publications = ap (λ (f : FlushValue D A). f.publications) is;
    }

    -- and all else is as it was
    pub same_published : (told : FlusherCount) → told ≡ mid.published → told ≡ old.published
    same_published told now = now ∙ ap (λ (f : FlushValue D A). f.published) is

    pub same_handed : (handed : List RecordValue) → handed ≡ mid.handed → handed ≡ old.handed
    same_handed handed now = now ∙ ap (λ (f : FlushValue D A). f.handed) is

    module _ (new : FlushValue D A) (told : new.published ≡ mid.published) (noted : new.publications ≡ mid.publications)
        (still : copying_of new.writer ≡ copying_of mid.writer) where
      published_is : new.published ≡ old.published
      published_is = same_published new.published told

      noted_is : new.publications ≡ old.publications
      noted_is = noted ∙ ap (λ (f : FlushValue D A). f.publications) is

      -- and then all that is held was handed in
      got_all : (new.handed ≡ popped_by mid) × (new.held ≡ []) → HasGot mid.held mid.writer new.writer → TakesIn old new
      got_all ok got = record {
        popped = popped;
        popped-are = ap (λ l. new.handed ++ l) ok.1 ∙ append-nil new.handed ∙ ok.0 ∙ all_are;
        more = old.held ++ popped;
        handed = ok.0 ∙ ap popped_by is;
        got = subst (λ (f : FlushValue D A). HasGot f.held f.writer new.writer) is got;
        copying = still ∙ ap (λ (f : FlushValue D A). copying_of f.writer) is;
        published = told_same old.published new.published published_is;
        publications = noted_is;
      }

      -- or nothing was
      got_nothing : (new.handed ≡ mid.handed) × (new.held ≡ mid.held) → HasGot [] mid.writer new.writer → TakesIn old new
      got_nothing err got = record {
        popped = popped;
        popped-are = ap (λ l. l ++ new.held) err.0 ∙ ap (λ l. mid.handed ++ l) err.1 ∙ all_are;
        more = [];
        handed = err.0 ∙ ap (λ (f : FlushValue D A). f.handed) is ∙ sym (append-nil old.handed);
        got = subst (λ (f : FlushValue D A). HasGot [] f.writer new.writer) is got;
        copying = still ∙ ap (λ (f : FlushValue D A). copying_of f.writer) is;
        published = told_same old.published new.published published_is;
        publications = noted_is;
      }

      pub took_in : (result : Result (Unit {0}) Error) → OnOk result ((new.handed ≡ popped_by mid) × (new.held ≡ []))
          → OnOk result (HasGot mid.held mid.writer new.writer) → OnErr result ((new.handed ≡ mid.handed) × (new.held ≡ mid.held))
          → OnErr result (HasGot [] mid.writer new.writer)
          → TakesIn old new
      took_in (Ok x) ok got err kept = got_all ok got
      took_in (Err e) ok got err kept = got_nothing err kept

  -- some were popped and handed in, and then more
  pub took_then : (old mid new : FlushValue D A) → TakesIn old mid → TakesIn mid new → TakesIn old new
  took_then old mid new first second = record {
    popped = first.popped ++ second.popped;
    popped-are = second.popped-are ∙ ap (λ l. l ++ second.popped) first.popped-are ∙ append_assoc (popped_by old) first.popped second.popped;
    more = first.more ++ second.more;
    handed = second.handed ∙ ap (λ l. l ++ second.more) first.handed ∙ append_assoc old.handed first.more second.more;
    got = record {
      device = second.got.device ∙ first.got.device;
      halves = second.got.halves ∙ first.got.halves;
      log = second.got.log ∙ first.got.log;
      waiting = second.got.waiting ∙ ap (λ l. l ++ second.more) first.got.waiting ∙ append_assoc (waiting_of old.writer) first.more second.more;
      synced = second.got.synced ∙ first.got.synced;
      failed = second.got.failed ∙ first.got.failed;
      image = second.got.image ∙ first.got.image;
    };
    copying = second.copying ∙ first.copying;
    published = second.published ∙ ap (λ (c : FlusherCount). record c { stopped = new.published.stopped }) first.published;
    publications = second.publications ∙ first.publications;
  }
