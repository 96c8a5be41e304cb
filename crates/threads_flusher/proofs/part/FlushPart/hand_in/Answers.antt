use Rattle.std.proofs.Common.{◌+◌, List, [], ◌++◌, append-nil, length, refl, sym, subst, take, ap, map, ◌≡◌, ◌∙◌}
use Rattle.records.specs.RecordValue.{RecordValue}
use Rattle.locked_core.specs.Locked.{locked_of}
use Rattle.locked_core.specs.Value.{value_of}
use Rattle.locked_core.specs.Halves.{shown}
use Rattle.threads_queue.specs.Ends.{Handed}
use Rattle.store_writer.specs.Parts.{waiting_of}
use Rattle.threads_flusher.specs.Part.{MayOpenAgain}
use Rattle.threads_flusher.proofs.Keeping.{all_in, can_hand_in, kept_by_refusal, kept_by_taking, last_then, same_front}
use Rattle.threads_flusher.proofs.Openings.{popped_open}
use Rattle.threads_flusher.proofs.part.FlushPart.hand_in.Goals as goal

pub compare-requires : goal.compare-requires
compare-requires g c = record { queue = c.requires; popper = c.self.invariant.0 }

pub hand_in-requires : goal.hand_in-requires
hand_in-requires g c =
    let same : c.replace-held.result.items ≡ c.self.inside.held.items = ap (λ v. v.items) c.replace-held.ensures.value in
    can_hand_in g.D.Device.past_of g.D.Device.marks g.B.Group.site.opened _ _ _ _ _ (
      c.self.invariant.1,
      c.self.invariant.2,
    ) c.compare.ensures.following c.compare.ensures.fits c.goes_on.ensures c.longer_run.ensures.next _ same

pub invariant_of-self : goal.invariant_of-self
invariant_of-self g c =
    let same : c.replace-held.result.items ≡ c.self.inside.held.items = ap (λ v. v.items) c.replace-held.ensures.value in
    let all : c.compare.new.popper.records ≡ c.self.inside.popper.records = ap (λ (p : Handed). p.records) c.compare.ensures.popper in
    let none : c.replace-held.new.dest.items ≡ [] =
    ◌∙◌ {a = c.replace-held.new.dest.items} (ap (λ v. v.items) {x = c.replace-held.new.dest} c.replace-held.ensures.after) c.new.ensures.items in
    let size : c.len-more.result ≡ length c.replace-held.result.items = c.len-more.ensures ∙ c.replace-held.result.ok.0 in
    let l = c.args.locked.now in
    let opens : MayOpenAgain g.B.Group.site.opened c.self.inside.popper.records =
    popped_open g.B.Group.site.opened (value_of l.core) l.pusher.records
    (map shown l.book.items) c.self.inside.popper.records c.compare.ensures.beginning l.shared in
    let kept = kept_by_taking g.D.Device.past_of g.D.Device.marks g.B.Group.site.opened _ _ _ _ _ (
      c.self.invariant.1,
      c.self.invariant.2,
    ) c.compare.ensures.following c.compare.ensures.fits c.goes_on.ensures c.longer_run.ensures.next _ same opens
    c.compare.new.popper.records c.replace-held.new.dest.items
    c.hand_in.new.self all none c.in-Ok.ensures.writer c.hand_in.ensures.device c.hand_in.ensures.synced c.hand_in.ensures.failed in (
      ap (λ (p : Handed). p.queue) c.compare.ensures.popper ∙ c.self.invariant.0,
      kept.0,
      kept.1,
      last_then g.D.Device.past_of g.D.Device.marks g.B.Group.site.opened _ _ _ _ _ (
        c.self.invariant.1,
        c.self.invariant.2,
      ) _ c.self.invariant.3 _ same c.len-more.result c.compare.new.popper.records c.replace-held.new.dest.items c.hand_in.new.self
          c.self.inside.view size all none,
      c.self.invariant.4,
    )

pub returns-in-Ok : goal.returns-in-Ok
returns-in-Ok g c =
    let same : c.replace-held.result.items ≡ c.self.inside.held.items = ap (λ v. v.items) c.replace-held.ensures.value in
    let all : c.compare.new.popper.records ≡ c.self.inside.popper.records = ap (λ (p : Handed). p.records) c.compare.ensures.popper in
    let none : c.replace-held.new.dest.items ≡ [] =
    ◌∙◌ {a = c.replace-held.new.dest.items} (ap (λ v. v.items) {x = c.replace-held.new.dest} c.replace-held.ensures.after) c.new.ensures.items in
    rw (← c.self.view_is) (record {
      handed = (all_in _ _ _ all none ∙ c.self.invariant.1, none);
      got = record {
        device = c.hand_in.ensures.device;
        halves = c.hand_in.ensures.halves;
        log = c.hand_in.ensures.log;
        waiting = c.in-Ok.ensures.waits ∙ ap (λ (l : List RecordValue). waiting_of c.self.inside.writer ++ l) same;
        synced = c.hand_in.ensures.synced;
        failed = c.hand_in.ensures.failed;
        image = c.hand_in.ensures.image;
      };
      kept = tt;
      still = tt;
      no_memory = tt;
      copying = c.hand_in.ensures.copying;
      published = refl;
      publications = refl;
      beginning = subst (λ (l : List RecordValue). l ≡ take (length l) (locked_of c.args.locked.now).pushed) c.self.invariant.1 c.compare.ensures.beginning;
      locked = c.compare.ensures.same;
    })

pub returns-in-Err : goal.returns-in-Err
returns-in-Err g c =
    let same : c.replace-held.result.items ≡ c.self.inside.held.items = ap (λ v. v.items) c.replace-held.ensures.value in
    let all : c.compare.new.popper.records ≡ c.self.inside.popper.records = ap (λ (p : Handed). p.records) c.compare.ensures.popper in
    let back : c.in-Err.back.items ≡ c.self.inside.held.items = c.in-Err.ensures.back ∙ same in
    rw (← c.self.view_is) (record {
      handed = tt;
      got = tt;
      kept = (same_front _ _ _ _ all back, back);
      still = record {
        device = c.hand_in.ensures.device;
        halves = c.hand_in.ensures.halves;
        log = c.hand_in.ensures.log;
        waiting = c.in-Err.ensures.still ∙ sym (append-nil (waiting_of c.self.inside.writer));
        synced = c.hand_in.ensures.synced;
        failed = c.hand_in.ensures.failed;
        image = c.hand_in.ensures.image;
      };
      no_memory = refl;
      copying = c.hand_in.ensures.copying;
      published = refl;
      publications = refl;
      beginning = subst (λ (l : List RecordValue). l ≡ take (length l) (locked_of c.args.locked.now).pushed) c.self.invariant.1 c.compare.ensures.beginning;
      locked = c.compare.ensures.same;
    })

pub invariant_of-self-in-Err : goal.invariant_of-self-in-Err
invariant_of-self-in-Err g c =
    let same : c.replace-held.result.items ≡ c.self.inside.held.items = ap (λ v. v.items) c.replace-held.ensures.value in
    let all : c.compare.new.popper.records ≡ c.self.inside.popper.records = ap (λ (p : Handed). p.records) c.compare.ensures.popper in
    let o = g.B.Group.site.opened in
    let kept = kept_by_refusal g.D.Device.past_of g.D.Device.marks o _ _ _ _ _ (
      c.self.invariant.1,
      c.self.invariant.2,
    ) c.compare.ensures.following c.compare.ensures.fits c.goes_on.ensures c.longer_run.ensures.next _ same
    c.compare.new.popper.records c.in-Err.back.items
    c.hand_in.new.self all c.in-Err.ensures.back c.in-Err.ensures.unchanged c.hand_in.ensures.device c.hand_in.ensures.synced c.hand_in.ensures.failed in (
      ap (λ (p : Handed). p.queue) c.compare.ensures.popper ∙ c.self.invariant.0,
      kept.0,
      kept.1,
      c.self.invariant.3 ∙ sym (ap (λ (l : List RecordValue). o.given.last + length l) (same_front _ _ _ _ all (c.in-Err.ensures.back ∙ same))),
      c.self.invariant.4,
    )
