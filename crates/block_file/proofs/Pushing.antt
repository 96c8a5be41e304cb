-- A state is noted, and then it changed.
use Rattle.std.proofs.Common.{◌≡◌, inl, inr, ⊎_elim, ℕ, ◌+◌, ◌<◌, ◌≤◌, List, [], ◌∷◌, ◌++◌, length, slice_index_or, sym, ◌∙◌, ap, subst, arith}
use Rattle.std.proofs.lemmas.Bool.{cases_eq, cases_lt}
use Rattle.std.proofs.lemmas.List.{get_or_past, get_or_push, get_or_append_left, get_or_default, length_push}
use Rattle.sector_device.specs.DevicePast.{Elapses}
use Rattle.block_device.specs.Blocks.{CrashFile, BlockFile, IsCrashFile, block}
use Rattle.block_device.specs.BlocksPast.{BlocksPast, LeavesOnly}
use Rattle.block_file.specs.declared.plan.Plan.{Plan}
use Rattle.block_file.specs.declared.parts.Held.{Held}
use Rattle.block_file.specs.declared.parts.DiskParts.{DiskParts}
use Rattle.block_file.specs.Disks.{BeforeStays, EachOffers, OffersOne, StandsForCrash, disk_of, disk_past, first_content, journal_in, moment_in, state_at}
use Rattle.block_file.specs.Plans.{IsPlan}
use Rattle.block_file.specs.Moves.{IsKept, IsSound}

module _ {H : Type 0} (before after : List H) (was now : H) (is : after ≡ before ++ was ∷ []) where
  longer : length after ≡ length before + 1
  longer = ap length is ∙ length_push before was

  -- what was stays
  earlier : (t : ℕ) → t ≤ length before → slice_index_or after t now ≡ slice_index_or before t was
  earlier t le = ap (λ (l : List H). slice_index_or l t now) is ∙ elim (cases_eq t (length before)) [
    | inl same ↦ get_or_push before was now t (sym same) ∙ sym (get_or_past before t was (omega (arith, same)))
    | inr other ↦
        let below : t < length before = omega (arith, le, other) in
        get_or_append_left before (was ∷ []) now t below ∙ get_or_default before t now was below
  ]

  -- and behind it is what is now
  latest : (t : ℕ) → length after ≤ t → slice_index_or after t now ≡ now
  latest t past = get_or_past after t now past

module _ {B A : Type 0} (past_of : B → BlocksPast) (d n : DiskParts B A) (plan : n.plan ≡ d.plan) (is : n.past.items ≡ d.past.items ++ d.now ∷ []) where
  stays : (t : ℕ) → t ≤ length d.past.items → state_at n t ≡ state_at d t
  stays t le = earlier d.past.items n.past.items d.now n.now is t le

  long : length n.past.items ≡ length d.past.items + 1
  long = longer d.past.items n.past.items d.now n.now is

  disk_stays : (t : ℕ) → t ≤ length d.past.items → disk_of past_of n.plan (state_at n t) ≡ disk_of past_of d.plan (state_at d t)
  disk_stays t le = λ i. disk_of past_of (plan i) (stays t le i)

  -- what the file held first
  pub first_same : first_content past_of n ≡ first_content past_of d
  first_same = ap (λ (s : Held B A). (past_of (journal_in s).below).file.content) (stays 0 (omega arith))

  -- a call of the disk was made
  pub disk_elapses : Elapses (disk_past past_of d) (disk_past past_of n)
  disk_elapses = record {
    later = omega (arith, long);
    kept = λ t le. disk_stays t le;
    during = λ t from to. ⊎_elim
        (λ first. inl (disk_stays t (omega (arith, first)) ∙ ap (disk_of past_of d.plan) (get_or_past d.past.items t d.now from)))
        (λ last. inr (ap (disk_of past_of n.plan) (get_or_past n.past.items t n.now (omega (arith, long, from, last)))))
        (cases_eq t (length d.past.items));
  }

  module _ (sound : IsSound past_of d)
      (leaves : LeavesOnly (past_of (journal_in d.now).below) (past_of (journal_in n.now).below)
      (StandsForCrash d.plan (journal_in n.now).offered (disk_of past_of d.plan d.now))) where
    rising_before : (j : ℕ) → j ≤ length d.past.items → moment_in past_of (state_at n j) ≤ moment_in past_of n.now
    rising_before j le =
        let same : moment_in past_of (state_at n j) ≡ moment_in past_of (state_at d j) = ap (moment_in past_of) (stays j le) in
        omega (arith, same, sound.rising j le, leaves.later)

    rising_now : (j : ℕ) → j ≤ length n.past.items → moment_in past_of (state_at n j) ≤ moment_in past_of n.now
    rising_now j le = elim (cases_eq j (length n.past.items)) [
      | inl same ↦
          let last : moment_in past_of (state_at n j) ≡ moment_in past_of n.now =
          ap (moment_in past_of) (get_or_past n.past.items j n.now (omega (arith, same))) in
          omega (arith, last)
      | inr other ↦ rising_before j (omega (arith, le, other, long))
    ]

    -- an earlier call
    each_before : (j : ℕ) → j < length d.past.items → (t : ℕ) (image : CrashFile) → moment_in past_of (state_at n j) ≤ t
        → t ≤ moment_in past_of (state_at n (j + 1)) → IsCrashFile ((past_of (journal_in n.now).below).file_at t) image
        → StandsForCrash n.plan (journal_in (state_at n (j + 1))).offered (disk_of past_of n.plan (state_at n j)) image
    each_before j below t image from to crash =
        let here = stays j (omega (arith, below)) in
        let next = stays (j + 1) (omega (arith, below)) in
        let low : moment_in past_of (state_at d j) ≤ t = subst (λ (s : Held B A). moment_in past_of s ≤ t) here from in
        let high : t ≤ moment_in past_of (state_at d (j + 1)) = subst (λ (s : Held B A). t ≤ moment_in past_of s) next to in
        let early : t ≤ moment_in past_of d.now = omega (arith, high, sound.rising (j + 1) (omega (arith, below))) in
        let was = sound.each j below t image low high (subst (λ (f : BlockFile). IsCrashFile f image) (leaves.kept t early) crash) in
        subst (λ (p : Plan). StandsForCrash p (journal_in (state_at n (j + 1))).offered (disk_of past_of p (state_at n j)) image) (sym plan)
        (subst (λ (s : Held B A). StandsForCrash d.plan (journal_in s).offered (disk_of past_of d.plan (state_at n j)) image) (sym next)
        (subst (λ (s : Held B A). StandsForCrash d.plan (journal_in (state_at d (j + 1))).offered (disk_of past_of d.plan s) image) (sym here) was))

    -- the last one
    each_now : (j : ℕ) → j ≡ length d.past.items → (t : ℕ) (image : CrashFile) → moment_in past_of (state_at n j) ≤ t
        → t ≤ moment_in past_of (state_at n (j + 1)) → IsCrashFile ((past_of (journal_in n.now).below).file_at t) image
        → StandsForCrash n.plan (journal_in (state_at n (j + 1))).offered (disk_of past_of n.plan (state_at n j)) image
    each_now j same t image from to crash =
        let here : state_at n j ≡ d.now = stays j (omega (arith, same)) ∙ get_or_past d.past.items j d.now (omega (arith, same)) in
        let next : state_at n (j + 1) ≡ n.now = get_or_past n.past.items (j + 1) n.now (omega (arith, same, long)) in
        let low : moment_in past_of d.now ≤ t = subst (λ (s : Held B A). moment_in past_of s ≤ t) here from in
        let high : t ≤ moment_in past_of n.now = subst (λ (s : Held B A). t ≤ moment_in past_of s) next to in
        subst (λ (p : Plan). StandsForCrash p (journal_in (state_at n (j + 1))).offered (disk_of past_of p (state_at n j)) image) (sym plan)
        (subst (λ (s : Held B A). StandsForCrash d.plan (journal_in s).offered (disk_of past_of d.plan (state_at n j)) image) (sym next)
        (subst (λ (s : Held B A). StandsForCrash d.plan (journal_in n.now).offered (disk_of past_of d.plan s) image) (sym here)
        (leaves.each t image low high crash)))

    -- what is handed to be written
    offers_pushed : OffersOne (journal_in d.now) (journal_in n.now) → EachOffers n
    offers_pushed more j below = elim (cases_eq j (length d.past.items)) [
      | inl last ↦
          let here : state_at n j ≡ d.now = stays j (omega (arith, last)) ∙ get_or_past d.past.items j d.now (omega (arith, last)) in
          let next : state_at n (j + 1) ≡ n.now = get_or_past n.past.items (j + 1) n.now (omega (arith, last, long)) in
          subst (λ (s : Held B A). OffersOne (journal_in s) (journal_in (state_at n (j + 1)))) (sym here)
          (subst (λ (s : Held B A). OffersOne (journal_in d.now) (journal_in s)) (sym next) more)
      | inr other ↦
          let under : j < length d.past.items = omega (arith, below, other, long) in
          subst (λ (s : Held B A). OffersOne (journal_in s) (journal_in (state_at n (j + 1)))) (sym (stays j (omega (arith, under))))
          (subst (λ (s : Held B A). OffersOne (journal_in (state_at d j)) (journal_in s)) (sym (stays (j + 1) (omega (arith, under)))) (sound.offers j under))
    ]

    -- the blocks before the journal
    before_pushed : LeavesOnly (past_of (journal_in d.now).below) (past_of (journal_in n.now).below)
        (λ c. (k : ℕ) → k < d.plan.shape.first → block c k ≡ block (first_content past_of d) k) → BeforeStays past_of n
    before_pushed run t image from to crash k below =
        let start : state_at n 0 ≡ state_at d 0 = stays 0 (omega arith) in
        let low : moment_in past_of (state_at d 0) ≤ t = subst (λ (s : Held B A). moment_in past_of s ≤ t) start from in
        let under : k < d.plan.shape.first = subst (λ (p : Plan). k < p.shape.first) plan below in
        let same : block (first_content past_of d) k ≡ block (first_content past_of n) k =
        ap (λ (s : Held B A). block (past_of (journal_in s).below).file.content k) (sym start) in
        ⊎_elim
        (λ early. sound.before t image low (omega (arith, early)) (subst (λ (f : BlockFile). IsCrashFile f image) (leaves.kept t (omega (arith, early))) crash)
        k under ∙ same)
        (λ late. run.each t image late to crash k under ∙ same)
        (cases_lt t (moment_in past_of d.now))

    pub sound_pushed : OffersOne (journal_in d.now) (journal_in n.now) → LeavesOnly (past_of (journal_in d.now).below) (past_of (journal_in n.now).below)
        (λ c. (k : ℕ) → k < d.plan.shape.first → block c k ≡ block (first_content past_of d) k) → IsKept past_of n.plan n.now → IsSound past_of n
    sound_pushed more run kept = record {
      offers = offers_pushed more;
      before = before_pushed run;
      plan = subst IsPlan (sym plan) sound.plan;
      kept = kept;
      rising = rising_now;
      each = λ j below t image from to crash. ⊎_elim
          (λ last. each_now j last t image from to crash)
          (λ other. each_before j (omega (arith, below, other, long)) t image from to crash)
          (cases_eq j (length d.past.items));
    }
