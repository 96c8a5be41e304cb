-- What is answered to a copy, by what the writer answered.
use Rattle.std.proofs.Common.{◌≡◌, ◌≢◌, ◌⊎◌, false, true, inl, inr, ℕ, ◌-◌, ◌≤◌, List, [], ◌∷◌, ◌++◌, None, Some, length, take, drop, refl, sym, ◌∙◌, ap, subst}
use Rattle.std.proofs.Common.{arith, append-nil, ⊎_elim}
use Rattle.std.proofs.lemmas.Bool.{false≢true}
use Rattle.std.proofs.lemmas.List.{drop-drop, drop-take}
use Rattle.records.specs.RecordValue.{RecordValue}
use Rattle.record_values.specs.declared.error.Error.{Error}
use Rattle.record_values.specs.declared.error.Error.TheVariants.{NoMemory, DeviceFailed}
use Rattle.store_image_model.specs.Run.{Run, records_above, records_between}
use Rattle.store_image_model.specs.declared.chunk.CopyPlace.{CopyPlace}
use Rattle.core_parts.specs.View.{CoreValue}
use Rattle.sector_device.specs.DevicePast.{DevicePast, Rises}
use Rattle.store_writer.specs.Copying.{next_place}
use Rattle.store_writer.specs.Image.{reach}
use Rattle.store_writer.specs.Parts as writer
use Rattle.store_writer.specs.Writer.{HasFailed, HasPiece, IsWriter}
use Rattle.store_writer.specs.declared.copying.Copying.{Copying}
use Rattle.store_writer.specs.declared.copying.Copying.TheVariants.{GivenUp, Steps}
use Rattle.store_writer.specs.declared.image.NewImage.{NewImage}
use Rattle.flip_image.specs.Layout.{other}
use Rattle.store_image_model.specs.declared.chunk.Piece.{Piece}
use Rattle.store_image_model.specs.Places.{place_behind}
use Rattle.restart.specs.declared.event.Reply.{Reply}
use Rattle.restart.specs.declared.event.Reply.TheVariants as reply
use Rattle.restart.specs.declared.parts.EngineParts.{EngineParts}
use Rattle.restart.specs.Copies.{CannotFlip, CannotTake, IsCopyAnswer, IsFlippedAtOnce, IsPieceNow, IsPutOff, KeepsAll, MakesCurrent, Succeeds}
use Rattle.restart.specs.Copies.{TakesPiece, WantsMemory, copies_left, left_at}
use Rattle.restart.specs.Groups.{MayFlip, WritesByGroups, WritesGroups}
use Rattle.restart.specs.Handing.{HandsOver}
use Rattle.restart.specs.History.{IsOfCopy, acknowledged}
use Rattle.restart.specs.Parts.{copying_of, core_of, device_of, has_failed, horizon_of, unhanded, unwritten, writer_of}
use Rattle.restart.specs.Store.{CanRun}
use Rattle.restart.proofs.Numbers.{count_between}
use Rattle.restart.proofs.Before.{has_as, must_as, piece_before}
use Rattle.restart.proofs.Grouped.{all_over, groups_then, has_each}
use Rattle.restart.proofs.Keeping.{keeps_both, keeps_over, keeps_same}

-- those that wait behind a later record are the rest of those that waited
between_later : (run : Run) (m n handed : ℕ) → run.last ≤ m → m ≤ n → n ≤ handed → records_between run n handed ≡ drop (n - m) (records_between run m handed)
between_later run m n handed low le high = sym
    (ap (λ k. drop (n - m) (take k (records_above run m))) (omega (arith, le, high))
    ∙ drop-take (n - m) (handed - n) (records_above run m)
    ∙ ap (take (handed - n)) (drop-drop (n - m) (m - run.last) run.records ∙ ap (λ k. drop k run.records) (omega (arith, low, le))))

module _ {D M : Type 0} (past_of : D → DevicePast) (failures : D
    → ℕ) (old new : EngineParts D M) (all : unhanded old ≡ []) (can : CanRun past_of old) (core_is : core_of new ≡ core_of old)
    (rest : unhanded new ≡ unhanded old)
    (after : IsWriter past_of can.0 can.1 (writer_of new)) (grows : horizon_of old ≤ horizon_of new)
    (later : failures (device_of old) ≤ failures (device_of new)) where
  -- no record is lost by the writer's calls
  pub all_kept : KeepsAll failures old new
  all_kept = record {
    horizon = grows;
    left =
        (ap (λ (l : List RecordValue). writer.waiting_of (writer_of new) ++ l) (rest ∙ all) ∙ append-nil (writer.waiting_of (writer_of new)))
        ∙ (after.waits ∙ between_later can.0 (horizon_of old) (horizon_of new) can.1 before.opened grows after.reached
        ∙ ap (drop (horizon_of new - horizon_of old)) (sym before.waits))
        ∙ ap (drop (horizon_of new - horizon_of old)) (sym (ap (λ (l : List RecordValue). writer.waiting_of (writer_of old) ++ l) all
        ∙ append-nil (writer.waiting_of (writer_of old))));
    core = core_is ∙ ap (λ (o : List RecordValue). record (core_of old) { outbox = o }) (sym (ap (λ v. v.outbox) core_is));
    later = later;
  }
    where
      before : IsWriter past_of can.0 can.1 (writer_of old)
      before = can.4.writer

  pub all_well : has_failed old ≡ false → has_failed new ≡ false → failures (device_of new) ≡ failures (device_of old) → Succeeds failures old new
  all_well before after quiet = record { keeps = all_kept; sound-before = before; sound = after; quiet = quiet }

  pub copy_failed : (e : Error) → has_failed old ≡ false → HasFailed failures e (writer_of old) (writer_of new)
      → IsCopyAnswer failures (reply.Refused e) old new
  copy_failed e sound failed = inr (failed.0, failed.1, failed.2, (λ before. absurd (false≢true (sym sound ∙ before))), all_kept)

-- the device fails at a call behind those that did not
pub failed_later : {D M : Type 0} (past_of : D → DevicePast) (failures : D → ℕ) (old mid new : EngineParts D M) → unhanded old ≡ [] → (can : CanRun past_of old)
    → core_of new ≡ core_of old → unhanded new ≡ unhanded old
    → IsWriter past_of can.0 can.1 (writer_of new) → horizon_of old ≤ horizon_of new → failures (device_of old) ≤ failures (device_of new) → (e : Error)
    → has_failed old ≡ false → has_failed mid ≡ false → failures (device_of mid) ≡ failures (device_of old)
    → HasFailed failures e (writer_of mid) (writer_of new) → IsCopyAnswer failures (reply.Refused e) old new
failed_later past_of failures old mid new all can core_is rest after grows later e sound between quiet failed =
    inr (
      failed.0,
      failed.1,
      (λ _. subst (λ n. Rises n (failures (device_of new))) quiet (failed.2 between)),
      (λ before. absurd (false≢true (sym sound ∙ before))),
      all_kept past_of failures old new all can core_is rest after grows later,
    )

-- ---- behind a group that was flushed

-- how many records are not synced, where the writer has all
pub count_left : {D M : Type 0} (past_of : D → DevicePast) (run : Run) (handed : ℕ) (engine : EngineParts D M) → IsWriter past_of run handed (writer_of engine)
    → unhanded engine ≡ [] → length (unwritten engine) ≡ handed - horizon_of engine
count_left past_of run handed engine is all =
    ap length (ap (λ (l : List RecordValue). writer.waiting_of (writer_of engine) ++ l) all ∙ append-nil (writer.waiting_of (writer_of engine)) ∙ is.waits)
    ∙ count_between run (horizon_of engine) handed is.opened is.made

module _ {D M : Type 0} (failures : D → ℕ) (old mid new : EngineParts D M) where
  pub keeps_then : KeepsAll failures old mid → KeepsAll failures mid new → KeepsAll failures old new
  keeps_then first second = record {
    horizon = omega (arith, first.horizon, second.horizon);
    left =
        second.left ∙ ap (drop (horizon_of new - horizon_of mid)) first.left
        ∙ drop-drop (horizon_of new - horizon_of mid) (horizon_of mid - horizon_of old) (unwritten old)
        ∙ ap (λ n. drop n (unwritten old)) (omega (arith, first.horizon, second.horizon));
    core = second.core ∙ ap (λ (v : CoreValue). record v { outbox = (core_of new).outbox }) first.core;
    later = omega (arith, first.later, second.later);
  }

  pub well_then : Succeeds failures old mid → Succeeds failures mid new → Succeeds failures old new
  well_then first second = record {
    keeps = keeps_then first.keeps second.keeps;
    sound-before = first.sound-before;
    sound = second.sound;
    quiet = second.quiet
        ∙ first.quiet;
  }

  no_next : mid.writer.copying ≡ Steps None → (place : CopyPlace) → next_place mid.writer.copying ≡ Some place → ⊥
  no_next whole place next = none (sym (ap next_place whole) ∙ next)
    where
      none : None ≡ Some place → ⊥
      none same = cc

  -- what is answered where a whole image was to be made current
  pub answer_then : (r : Reply M) → Succeeds failures old mid → mid.writer.copying ≡ Steps None → old.writer.copying ≡ Steps None
      → writer.halves_of (writer_of mid) ≡ writer.halves_of (writer_of old) → copies_left mid ≤ copies_left old
      → (MayFlip (writer_of old) → mid ≡ old) → unhanded old ≡ [] → WritesGroups (writer_of old) (writer_of mid)
      → WritesByGroups r (writer_of mid) (writer_of new) → IsCopyAnswer failures r mid new → IsCopyAnswer failures r old new
  answer_then (reply.Txn t) first whole was halves left no_group all before then is = absurd is
  answer_then (reply.Rid r) first whole was halves left no_group all before then is = absurd is
  answer_then reply.Stepped first whole was halves left no_group all before then is = absurd is
  answer_then reply.Undone first whole was halves left no_group all before then is = absurd is
  answer_then reply.Empty first whole was halves left no_group all before then is = absurd is
  answer_then reply.Ended first whole was halves left no_group all before then is = absurd is
  answer_then (reply.Ticket t) first whole was halves left no_group all before then is = absurd is
  answer_then (reply.Built b) first whole was halves left no_group all before then is = absurd is
  answer_then (reply.Cleaned c) first whole was halves left no_group all before then is = absurd is
  answer_then (reply.Horizon m) first whole was halves left no_group all before then is = absurd is
  answer_then reply.LogFull first whole was halves left no_group all before then is = absurd is
  answer_then reply.Copied first whole was halves left no_group all before then is = absurd (no_next whole is.1.place is.1.next)
  answer_then (reply.Flipped n) first whole was halves left no_group all before then is = (well_then first is.0, is.1, current is.2)
    where
      not_at_once : old.writer.copying ≡ GivenUp → ⊥
      not_at_once given = cc (was, given)

      flipped_from : mid ≡ old → MayFlip (writer_of old) → (image : NewImage) → writer.image_of (writer_of old) ≡ Some image → IsFlippedAtOnce old new image
      flipped_from same may image there = subst (λ (e : EngineParts D M). IsFlippedAtOnce e new image) same
          (is.2.no-group whole (subst (λ (e : EngineParts D M). MayFlip (writer_of e)) (sym same) may) image
          (ap (λ (e : EngineParts D M). writer.image_of (writer_of e)) same ∙ there))

      current : MakesCurrent mid new → MakesCurrent old new
      current made = record {
        whole = ap next_place was;
        turned = made.turned ∙ ap (λ h. record { geometry = h.geometry; current = other h.current }) halves;
        none = made.none;
        idle = made.idle;
        room = made.room;
        no-group = λ _ may image there. flipped_from (no_group may) may image there;
        emptied = λ given. absurd (not_at_once given);
        all = λ given. absurd (not_at_once given);
      }
  answer_then reply.Again first whole was halves left no_group all before then is = (well_then first is.0, given_up is.1, is.2, omega (arith, is.3, left))
    where
      given_up : CannotTake mid new ⊎ CannotFlip mid new → CannotTake old new ⊎ CannotFlip old new
      given_up why = ⊎_elim (λ piece. absurd (no_next whole piece.place piece.next)) (λ flip.
          inr (record {
            whole = was;
            first = writer_of old;
            all = has_each old all;
            groups = groups_then reply.Again (writer_of old) (writer_of mid) (writer_of new) before then;
          })) why
  answer_then (reply.Row row) first whole was halves left no_group all before then is = absurd is
  answer_then (reply.Found rids) first whole was halves left no_group all before then is = absurd is
  answer_then (reply.Life life) first whole was halves left no_group all before then is = absurd is
  answer_then reply.Skipped first whole was halves left no_group all before then is = absurd is
  answer_then (reply.Refused e) first whole was halves left no_group all before then is = ⊎_elim
      (λ none. inl (none.0, put_off none.1))
      (λ failed. inr (
        failed.0,
        failed.1,
        (λ before. subst (λ n. Rises n (failures (device_of new))) first.quiet (failed.2 first.sound)),
        (λ before. absurd (false≢true (sym first.sound-before ∙ before))),
        keeps_then first.keeps failed.4,
      ))
      is
    where
      put_off : IsPutOff failures mid new → IsPutOff failures old new
      put_off off = record {
        succeeds = well_then first off.succeeds;
        copying = off.copying ∙ whole ∙ sym was;
        left = omega (arith, off.left, left);
        halves = off.halves ∙ halves;
        keeps = λ stepped. absurd (stepped was);
        wants = ⊎_elim (λ some. inl some) (λ rest. ⊎_elim (λ stepped. absurd (stepped whole)) (λ group. inr (inr group)) rest) off.wants;
      }

-- ---- behind a handing over

keeps_none : {D M : Type 0} (failures : D → ℕ) (old : EngineParts D M) → KeepsAll failures old old
keeps_none failures old =
    let none : 0 ≡ horizon_of old - horizon_of old = omega arith in
    record { horizon = omega arith; left = ap (λ n. drop n (unwritten old)) none; core = refl; later = omega arith }

module _ {D M : Type 0} (past_of : D → DevicePast) (failures : D → ℕ) (old mid : EngineParts D M) (over : HandsOver past_of old mid) where
  over_keeps : (new : EngineParts D M) → KeepsAll failures mid new → KeepsAll failures old new
  over_keeps new keeps = record {
    horizon = omega (arith, over.horizon, keeps.horizon);
    left = keeps.left ∙ ap (λ n. drop (horizon_of new - n) (unwritten mid)) over.horizon ∙ ap (drop (horizon_of new - horizon_of old)) over.unwritten-are;
    core = keeps.core ∙ ap (λ (v : CoreValue). record v { outbox = (core_of new).outbox }) over.moves.core;
    later = omega (arith, keeps.later, ap failures over.device);
  }

  over_well : (new : EngineParts D M) → Succeeds failures mid new → Succeeds failures old new
  over_well new well = record {
    keeps = over_keeps new well.keeps;
    sound-before = sym over.failed ∙ well.sound-before;
    sound = well.sound;
    quiet = well.quiet
        ∙ ap failures over.device;
  }

  left_same : copies_left mid ≡ copies_left old
  left_same =
      ap (λ g. left_at g (core_of mid).last (writer.image_of (writer_of mid)) mid.writer.copying) over.geometry
      ∙ ap (λ (v : CoreValue). left_at old.geometry v.last (writer.image_of (writer_of mid)) mid.writer.copying) over.moves.core
      ∙ ap (λ i. left_at old.geometry (core_of old).last i mid.writer.copying) over.image
      ∙ ap (left_at old.geometry (core_of old).last (writer.image_of (writer_of old))) over.copying

  piece_over : (place : CopyPlace) (piece : Piece M) → IsPieceNow (core_of mid) place piece → IsPieceNow (core_of old) place piece
  piece_over place piece is = piece_before (core_of old) (core_of mid).outbox place piece
      (subst (λ (v : CoreValue). IsPieceNow v place piece) over.moves.core is)

  takes_over : (new : EngineParts D M) → TakesPiece mid new → TakesPiece old new
  takes_over new takes = record {
    place = takes.place;
    next = ap next_place (sym over.copying) ∙ takes.next;
    piece = takes.piece;
    piece-is = piece_over takes.place takes.piece takes.piece-is;
    may = λ must. takes.may (must_as takes.piece (writer_of old) (writer_of mid) over.image over.log over.halves must);
    image = takes.image;
    image-is = takes.image-is;
    has = has_as (core_of old).last takes.piece (writer_of mid) (writer_of old) takes.image over.image
        (subst (λ n. HasPiece n takes.piece (writer_of mid) takes.image) (ap (λ (v : CoreValue). v.last) over.moves.core) takes.has);
    behind = takes.behind ∙ ap (λ g. Steps (place_behind g.pages takes.piece)) over.geometry;
    halves = takes.halves ∙ over.halves;
    log = takes.log ∙ over.log;
    horizon = takes.horizon ∙ over.horizon;
  }

  may_over : MayFlip (writer_of old) → MayFlip (writer_of mid)
  may_over (image, there, whole, reached) = (image, over.image ∙ there, whole, subst (λ n. image.number ≤ reach image n) (sym over.horizon) reached)

  given_up_over : (new : EngineParts D M) → CannotTake mid new ⊎ CannotFlip mid new → CannotTake old new ⊎ CannotFlip old new
  given_up_over new why = ⊎_elim
      (λ cannot. inl (record {
        place = cannot.place;
        next = ap next_place (sym over.copying) ∙ cannot.next;
        piece = cannot.piece;
        piece-is = piece_over cannot.place cannot.piece cannot.piece-is;
        must = must_as cannot.piece (writer_of mid) (writer_of old) (sym over.image) (sym over.log) (sym over.halves) cannot.must;
        gone = cannot.gone;
        device = cannot.device ∙ over.device;
        halves = cannot.halves ∙ over.halves;
        log = cannot.log ∙ over.log;
        horizon = cannot.horizon ∙ over.horizon;
      }))
      (λ cannot. inr (record {
        whole = sym over.copying ∙ cannot.whole;
        first = cannot.first;
        all = all_over past_of old mid over cannot.first cannot.all;
        groups = cannot.groups;
      }))
      why

  current_over : (new : EngineParts D M) → MakesCurrent mid new → MakesCurrent old new
  current_over new made = record {
    whole = ap next_place (sym over.copying) ∙ made.whole;
    turned = made.turned ∙ ap (λ h. record { geometry = h.geometry; current = other h.current }) over.halves;
    none = made.none;
    idle = made.idle;
    room = made.room;
    no-group = λ stepped may image there. let at = made.no-group (over.copying ∙ stepped) (may_over may) image (over.image ∙ there) in
        record { log = at.log; reached = at.reached ∙ ap (λ n. reach image n) over.horizon };
    emptied = λ given. made.emptied (over.copying ∙ given);
    all = λ given. made.all (over.copying ∙ given);
  }

  put_off_over : (new : EngineParts D M) → IsPutOff failures mid new → IsPutOff failures old new
  put_off_over new off = record {
    succeeds = over_well new off.succeeds;
    copying = off.copying ∙ over.copying;
    left = omega (arith, off.left, left_same);
    halves = off.halves ∙ over.halves;
    keeps = λ other. keeps_both old mid new (keeps_over past_of old mid over) (off.keeps (λ stepped. other (sym over.copying ∙ stepped)));
    wants = ⊎_elim (λ some. inl some)
        (λ rest. inr (⊎_elim (λ other. inl (λ stepped. other (over.copying ∙ stepped))) (λ group. inr group) rest)) off.wants;
  }

  pub answer_over : (new : EngineParts D M) (r : Reply M) → IsCopyAnswer failures r mid new → has_failed mid ≡ false → IsCopyAnswer failures r old new
  answer_over new (reply.Txn t) is sound = absurd is
  answer_over new (reply.Rid r) is sound = absurd is
  answer_over new reply.Stepped is sound = absurd is
  answer_over new reply.Undone is sound = absurd is
  answer_over new reply.Empty is sound = absurd is
  answer_over new reply.Ended is sound = absurd is
  answer_over new (reply.Ticket t) is sound = absurd is
  answer_over new (reply.Built b) is sound = absurd is
  answer_over new (reply.Cleaned c) is sound = absurd is
  answer_over new (reply.Horizon m) is sound = absurd is
  answer_over new reply.LogFull is sound = absurd is
  answer_over new reply.Copied is sound = (over_well new is.0, takes_over new is.1, omega (arith, is.2, left_same))
  answer_over new (reply.Flipped n) is sound = (over_well new is.0, is.1, current_over new is.2)
  answer_over new reply.Again is sound = (over_well new is.0, given_up_over new is.1, is.2, omega (arith, is.3, left_same))
  answer_over new (reply.Row row) is sound = absurd is
  answer_over new (reply.Found rids) is sound = absurd is
  answer_over new (reply.Life life) is sound = absurd is
  answer_over new reply.Skipped is sound = absurd is
  answer_over new (reply.Refused e) is sound = ⊎_elim
      (λ none. inl (none.0, put_off_over new none.1))
      (λ failed. inr (
        failed.0,
        failed.1,
        (λ before. subst (λ n. Rises n (failures (device_of new))) (ap failures over.device) (failed.2 sound)),
        (λ before. absurd (false≢true (sym sound ∙ over.failed ∙ before))),
        over_keeps new failed.4,
      ))
      is

  -- where not all could be handed over
  pub copy_not_over : has_failed old ≡ false → unhanded mid ≢ [] → IsCopyAnswer failures (reply.Refused NoMemory) old mid
  copy_not_over sound some = inl (
    refl,
    record {
      succeeds = over_well mid (record { keeps = keeps_none failures mid; sound-before = over.failed ∙ sound; sound = over.failed ∙ sound; quiet = refl });
      copying = over.copying;
      left = omega (arith, left_same);
      halves = over.halves;
      keeps = λ _. keeps_over past_of old mid over;
      wants = inl some;
    },
  )

pub copy_failed_before : {D M : Type 0} (failures : D → ℕ) (old : EngineParts D M) → has_failed old ≡ true
    → IsCopyAnswer failures (reply.Refused DeviceFailed) old old
copy_failed_before failures old failed = inr (refl, failed, (λ sound. absurd (false≢true (sym sound ∙ failed))), (λ _. refl), keeps_none failures old)

pub none_well : {D M : Type 0} (failures : D → ℕ) (old : EngineParts D M) → has_failed old ≡ false → Succeeds failures old old
none_well failures old sound = record { keeps = keeps_none failures old; sound-before = sound; sound = sound; quiet = refl }

-- there was no memory, and the writer is as it was
pub put_off_as : {D M : Type 0} (failures : D → ℕ) (old new : EngineParts D M) → Succeeds failures old new → writer_of new ≡ writer_of old
    → core_of new ≡ core_of old
    → new.geometry ≡ old.geometry → WantsMemory old new → IsPutOff failures old new
put_off_as failures old new well same core_is size wants = record {
  succeeds = well;
  copying = copying;
  left = omega (arith, level);
  halves = ap (λ w. writer.halves_of w) same;
  keeps = λ _. keeps_same old new same;
  wants = wants;
}
  where
    copying : new.writer.copying ≡ old.writer.copying
    copying = ap (λ w. writer.copying_of w) same

    level : copies_left new ≡ copies_left old
    level =
        ap (λ g. left_at g (core_of new).last (writer.image_of (writer_of new)) new.writer.copying) size
        ∙ ap (λ (v : CoreValue). left_at old.geometry v.last (writer.image_of (writer_of new)) new.writer.copying) core_is
        ∙ ap (λ w. left_at old.geometry (core_of old).last (writer.image_of w) new.writer.copying) same
        ∙ ap (left_at old.geometry (core_of old).last (writer.image_of (writer_of old))) copying

-- where nothing could be copied
pub none_copied : {D M : Type 0} (failures : D → ℕ) (old : EngineParts D M) (e : Error) → e ≡ NoMemory → has_failed old ≡ false
    → copying_of old ≢ Steps None → IsCopyAnswer failures (reply.Refused e) old old
none_copied failures old e none sound due = inl (none, put_off_as failures old old (none_well failures old sound) refl refl refl (inr (inl due)))

-- where a piece comes next, no whole image waits
pub piece_due : (copying : Copying) (place : CopyPlace) → next_place copying ≡ Some place → copying ≢ Steps None
piece_due copying place next whole = none (sym (ap next_place whole) ∙ next)
  where
    none : None ≡ Some place → ⊥
    none same = cc

-- ---- what a copy tells

module _ {D M : Type 0} (failures : D → ℕ) (old new : EngineParts D M) where
  pub of_copy : (r : Reply M) → IsCopyAnswer failures r old new → IsOfCopy r
  of_copy (reply.Txn t) is = absurd is
  of_copy (reply.Rid r) is = absurd is
  of_copy reply.Stepped is = absurd is
  of_copy reply.Undone is = absurd is
  of_copy reply.Empty is = absurd is
  of_copy reply.Ended is = absurd is
  of_copy (reply.Ticket t) is = absurd is
  of_copy (reply.Built b) is = absurd is
  of_copy (reply.Cleaned c) is = absurd is
  of_copy (reply.Horizon m) is = absurd is
  of_copy reply.LogFull is = absurd is
  of_copy reply.Copied is = tt
  of_copy (reply.Flipped n) is = tt
  of_copy reply.Again is = tt
  of_copy (reply.Row row) is = absurd is
  of_copy (reply.Found rids) is = absurd is
  of_copy (reply.Life life) is = absurd is
  of_copy reply.Skipped is = absurd is
  of_copy (reply.Refused e) is = tt

  pub copy_safe : (r : Reply M) → IsCopyAnswer failures r old new → (m : ℕ) → m ≤ horizon_of new → acknowledged m (r ∷ []) ≤ horizon_of new
  copy_safe (reply.Txn t) is m le = le
  copy_safe (reply.Rid r) is m le = le
  copy_safe reply.Stepped is m le = le
  copy_safe reply.Undone is m le = le
  copy_safe reply.Empty is m le = le
  copy_safe reply.Ended is m le = le
  copy_safe (reply.Ticket t) is m le = le
  copy_safe (reply.Built b) is m le = le
  copy_safe (reply.Cleaned c) is m le = le
  copy_safe (reply.Horizon n) is m le = absurd is
  copy_safe reply.LogFull is m le = le
  copy_safe reply.Copied is m le = le
  copy_safe (reply.Flipped n) is m le = omega (arith, le, is.1)
  copy_safe reply.Again is m le = le
  copy_safe (reply.Row row) is m le = le
  copy_safe (reply.Found rids) is m le = le
  copy_safe (reply.Life life) is m le = le
  copy_safe reply.Skipped is m le = le
  copy_safe (reply.Refused e) is m le = le
