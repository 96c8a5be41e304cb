-- One day more.
use Rattle.std.proofs.Common.{◌≡◌, ℕ, ◌≤◌, ◌-◌, if◌then◌else◌, List, [], ◌∷◌, ◌++◌, length, take, refl, sym, ap, subst, ◌∙◌, arith}
use Rattle.std.specs.List.{All}
use Rattle.record_values.specs.GeometryValue.{GeometryValue}
use Rattle.records.specs.RecordValue.{RecordValue}
use Rattle.model.specs.Given.{Given}
use Rattle.model.specs.History.{AreRising, Item, life_after, table_after, up_to}
use Rattle.core_model.specs.Histories.{no_writes}
use Rattle.core_model.specs.Events as core
use Rattle.core_model.specs.Events.{Standing, standing_at}
use Rattle.core_model.specs.Served.{ServesAll, items_of, nothing, served}
use Rattle.core_model.specs.Histories.{Opened, opened}
use Rattle.core_model.specs.States.{State}
use Rattle.sector_device.specs.Disk.{CrashState}
use Rattle.sector_device.specs.DevicePast.{DevicePast}
use Rattle.restart.specs.declared.event.Reply.{Reply}
use Rattle.restart.specs.declared.parts.EngineParts.{EngineParts}
use Rattle.restart.specs.History.{core_calls, standing_over}
use Rattle.restart.specs.Lawful.{AreLawful}
use Rattle.restart.specs.Parts.{core_of, device_of}
use Rattle.restart.specs.Reopening.{opening}
use Rattle.restart.specs.Store.{IsAt, Survives, and_then, last_made, over}
use Rattle.headline.specs.declared.day.Day.{Day}
use Rattle.headline.specs.Days.{Answer, AreDays, IsDay, IsServed}
use Rattle.headline.specs.Kept.{seen}
use Rattle.headline.specs.AtRest.{AtRest, IsOpenedOver, resting}
use Rattle.headline.specs.Told.{acknowledged, told_over}
use Rattle.headline.proofs.Rising.{IsAbove, all_up_to, split_up}
use Rattle.headline.proofs.Told.{told_is}

-- ---- behind the others

pub day_last : {D M : Type 0} (failures : D → ℕ) (g : GeometryValue) (began : AtRest) (days : List (Day M)) (answers : List (Answer M)) (mid new : AtRest)
    (last : Day M) (answer : Answer M) → AreDays failures g began days answers mid → IsDay failures g mid last answer new
    → AreDays failures g began (days ++ last ∷ []) (answers ++ answer ∷ []) new
day_last failures g began [] [] mid new last answer are day = (new, subst (λ (s : AtRest). IsDay failures g s last answer new) are day, refl)
day_last failures g began [] (a ∷ answers) mid new last answer are day = absurd are
day_last failures g began (d ∷ days) [] mid new last answer are day = absurd are
day_last failures g began (d ∷ days) (a ∷ answers) mid new last answer are day =
    (are.0, are.1, day_last failures g are.0 days answers mid new last answer are.2 day)

-- ---- a day that was served

-- the standing that is told by the replies
stands_over : {s new : State} {k next : Standing} {pairs : List (core.Event × core.Reply)} {made : List RecordValue} → ServesAll s k pairs made new next
    → next ≡ standing_over k pairs
stands_over nothing = refl
stands_over (served e reply step rest later allowed more) = stands_over more

-- the numbers of the items that allowed replies tell rise
abbrev pub Rise : Type 0
Rise = (o : Opened) (last : ℕ) (made : List RecordValue) (pairs : List (core.Event × core.Reply)) (s : State) (k : core.Standing)
    → ServesAll (opened o) (standing_at last) pairs made s k → AreRising last (items_of no_writes pairs)

module _ {D M : Type 0} (past_of : D → DevicePast) (failures : D → ℕ) (g : GeometryValue) (given : Given) (failed : ℕ) (day : Day M)
    (replies : List (Reply M)) (before after : EngineParts D M) (begins : IsOpenedOver failures g (resting given failed) before)
    (lawful : AreLawful failures day.requests.items replies before after) (rise : Rise)
    (at : IsAt past_of (and_then (opening g given) day.requests.items replies) after) (floor : ℕ) (image : CrashState)
    (left : Survives (and_then (opening g given) day.requests.items replies) floor image) (safe : acknowledged (seen day.within replies) ≤ floor)
    (later : given.last ≤ floor) where
  abbrev items : List Item
  items = told_over no_writes day.requests.items replies

  told : items ≡ items_of no_writes (core_calls day.requests.items replies)
  told = told_is no_writes day.requests.items replies at.kinds

  they_rise : AreRising given.last items
  they_rise = subst (AreRising given.last) (sym told)
      (rise (over g given) given.last at.made (core_calls day.requests.items replies) at.state at.standing at.served.served)

  abbrev kept : List Item
  kept = up_to left.given.last items

  split : (lost : List Item) × (items ≡ kept ++ lost) × All (IsAbove left.given.last) lost
  split = split_up left.given.last given.last items they_rise

  reached : floor ≤ left.given.last
  reached = left.beginning.has_floor

  told_safe : acknowledged (if day.within then take (length replies - 1) replies else replies) ≤ floor
  told_safe = safe

  made : left.given.last ≤ (core_of after).last
  made =
      let told_so : at.standing.made ≡ last_made (and_then (opening g given) day.requests.items replies) =
      ap (λ (k : Standing). k.made) (stands_over at.served.served) in
      let has : at.standing.made ≡ (core_of after).last = at.stands.shown.shown.made in
      omega (arith, left.within, told_so, has)

  pub served_day : IsServed failures g (resting given failed) day replies (resting left.given (failures (device_of after)))
  served_day = record {
    opened = before;
    begins = begins;
    closed = after;
    lawful = lawful;
    count = refl;
    kept = kept;
    lost = split.0;
    told = split.1;
    before = all_up_to left.given.last items;
    behind = split.2;
    safe = omega (arith, told_safe, reached);
    later = omega (arith, later, reached);
    made = made;
    rows = left.beginning.table ∙ sym (ap (λ (l : List Item). table_after given.table (up_to left.given.last l)) told);
    life = left.beginning.life ∙ sym (ap (λ (l : List Item). life_after given.life (up_to left.given.last l)) told);
    records = left.records;
  }
