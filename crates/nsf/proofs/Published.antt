-- What is kept since a horizon was published.
use Rattle.std.proofs.Common.{◌≡◌, ◌∙◌, ◌∷◌, ◌≤◌, ℕ, List, Some, subst, sym, arith}
use Rattle.std.proofs.lemmas.List.Elements.{All-cons, All-head, All-pop, All-same}
use Rattle.std.specs.List.{All}
use Rattle.sector_device.specs.Disk.{CrashState, IsCrashState}
use Rattle.sector_device.specs.DevicePast.{DevicePast, LeavesOnly}
use Rattle.threads_flusher.specs.Part.{IsKeptSince, IsNewest, Publication}
use Rattle.nsf.specs.Serving.{IsLaterPast}

pub newest_kept : (P : ℕ → CrashState → Type 0) (now : DevicePast) (publications : List Publication) (horizon : ℕ) → IsNewest publications horizon
    → All (IsKeptSince P now) publications → (image : CrashState) → IsCrashState now.disk image → P horizon image
newest_kept P now publications horizon newest all image crash =
    let kept : IsKeptSince P now newest.1 = (All-pop (IsKeptSince P now) publications newest.0 (Some newest.1) newest.2 all).1 in
    subst (λ h. P h image) newest.3 (kept.each now.moment image kept.later (omega arith) (subst (λ d. IsCrashState d image) (sym now.now) crash))

-- since the first one was
pub since_first : (P : ℕ → CrashState → Type 0) (opened mid now : DevicePast) (publications since : List Publication) (horizon : ℕ)
    → publications ≡ record { horizon = horizon; moment = opened.moment } ∷ since → All (IsKeptSince P now) publications
    → IsLaterPast opened mid → IsLaterPast mid now → LeavesOnly opened now (P horizon)
since_first P opened mid now publications since horizon is all before behind =
    let first : Publication = record { horizon = horizon; moment = opened.moment } in
    let kept : IsKeptSince P now first =
    All-head (IsKeptSince P now) first since (All-same (IsKeptSince P now) (first ∷ since) publications (sym is) all) in
    record {
      later = omega (arith, before.later, behind.later);
      kept = λ t le. behind.kept t (omega (arith, le, before.later)) ∙ before.kept t le;
      each = kept.each;
    }

-- since a moment at which the last one had been
pub since_newest : (P : ℕ → CrashState → Type 0) (mid now : DevicePast) (publications : List Publication) (horizon : ℕ) → IsNewest publications horizon
    → All (λ (p : Publication). p.moment ≤ mid.moment) publications → All (IsKeptSince P now) publications → IsLaterPast mid now
    → LeavesOnly mid now (P horizon)
since_newest P mid now publications horizon newest low all behind =
    let kept : IsKeptSince P now newest.1 = (All-pop (IsKeptSince P now) publications newest.0 (Some newest.1) newest.2 all).1 in
    let le : newest.1.moment ≤ mid.moment =
    (All-pop (λ (p : Publication). p.moment ≤ mid.moment) publications newest.0 (Some newest.1) newest.2 low).1 in
    record {
      later = behind.later;
      kept = behind.kept;
      each = λ t image from to crash. subst (λ h. P h image) newest.3 (kept.each t image (omega (arith, le, from)) to crash);
    }

-- none was published before the first
pub behind_first : (horizon moment : ℕ) (publications since : List Publication) → publications ≡ record { horizon = horizon; moment = moment } ∷ since
    → All (λ (p : Publication). moment ≤ p.moment) since → All (λ (p : Publication). moment ≤ p.moment) publications
behind_first horizon moment publications since is all =
    let first : Publication = record { horizon = horizon; moment = moment } in
    All-same (λ (p : Publication). moment ≤ p.moment) publications (first ∷ since) is
    (All-cons (λ (p : Publication). moment ≤ p.moment) first since (omega arith) all)
