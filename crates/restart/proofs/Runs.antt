-- A run goes on by one request more.
use Rattle.std.proofs.Common.{max, ◌≡◌, ℕ, ◌+◌, ◌<◌, ◌≤◌, List, [], ◌∷◌, ◌++◌, length, take, refl, sym, ◌∙◌, subst, arith, length-append, append_assoc}
use Rattle.std.proofs.Common.{append-nil}
use Rattle.std.proofs.lemmas.List.{take-append-le, take_all, take_at}
use Rattle.sector_device.specs.Disk.{CrashState, Disk}
use Rattle.sector_device.specs.DevicePast.{DevicePast, LeavesOnly, Spans}
use Rattle.sector_device.proofs.Moments.{spans_kept, spans_push}
use Rattle.restart.specs.declared.event.Event.{Event}
use Rattle.restart.specs.declared.event.Reply.{Reply}
use Rattle.restart.specs.declared.parts.EngineParts.{EngineParts}
use Rattle.restart.specs.Lawful.{IsLawful, AreLawful}
use Rattle.restart.specs.Parts.{device_of, horizon_of}
use Rattle.restart.specs.Store.{Past, acknowledged_by, and_then, Survives, IsAt, ServesOn, SurvivesAt, GoesOn, AreServed}
use Rattle.restart.proofs.Stories.{survives_lower}

pub spans_rise : (disk_at : ℕ → Disk) (P : ℕ → CrashState → Type 0) (j from : ℕ) (borders : List ℕ) (to : ℕ) → Spans disk_at P j from borders to → from ≤ to
spans_rise disk_at P j from [] to is = omega (arith, is)
spans_rise disk_at P j from (next ∷ borders) to spans = omega (arith, spans.0, spans_rise disk_at P (j + 1) next borders to spans.2)

spans_map : (disk_at : ℕ → Disk) (P Q : ℕ → CrashState → Type 0) (j from : ℕ) (borders : List ℕ) (to : ℕ)
    → ((i : ℕ) → j ≤ i → i < j + length borders → (c : CrashState) → P i c → Q i c) → Spans disk_at P j from borders to → Spans disk_at Q j from borders to
spans_map disk_at P Q j from [] to f spans = spans
spans_map disk_at P Q j from (next ∷ borders) to f spans = (
  spans.0,
  (λ t c low high crash. f j (omega arith) (omega arith) c (spans.1 t c low high crash)),
  spans_map disk_at P Q (j + 1) next borders to (λ i low high. f i (omega (arith, low)) (omega (arith, high))) spans.2,
)

pub and_then_none : {M : Type 0} (past : Past M) → and_then past [] [] ≡ past
and_then_none past = λ i. record { geometry = past.geometry; given = past.given; events = append-nil past.events i; replies = append-nil past.replies i }

pub and_then_both : {M : Type 0} (past : Past M) (es more : List Event) (rs others : List (Reply M))
    → and_then (and_then past es rs) more others ≡ and_then past (es ++ more) (rs ++ others)
and_then_both past es more rs others = λ i. record {
  geometry = past.geometry;
  given = past.given;
  events = append_assoc past.events es more i;
  replies = append_assoc past.replies rs others i;
}

-- what has been answered earlier stays so
survives_earlier : {M : Type 0} (past : Past M) (horizon : ℕ) (es : List Event) (rs : List (Reply M)) (event : Event) (reply : Reply M) (j : ℕ) (c : CrashState)
    → length rs ≡ length es → j < length es → SurvivesAt past es rs horizon j c → SurvivesAt past (es ++ event ∷ []) (rs ++ reply ∷ []) horizon j c
survives_earlier past horizon es rs event reply j c even below was =
    subst (λ (xs : List Event). Survives (and_then past xs (take (j + 1) (rs ++ reply ∷ [])))
    (max horizon (acknowledged_by (and_then past (take j (es ++ event ∷ [])) (take j (rs ++ reply ∷ []))))) c)
    (sym (take-append-le (j + 1) es (event ∷ []) (omega (arith, below))))
    (subst (λ (xs : List (Reply _)). Survives (and_then past (take (j + 1) es) xs)
    (max horizon (acknowledged_by (and_then past (take j (es ++ event ∷ [])) (take j (rs ++ reply ∷ []))))) c)
    (sym (take-append-le (j + 1) rs (reply ∷ []) (omega (arith, below, even))))
    (subst (λ (xs : List (Reply _)). Survives (and_then past (take (j + 1) es) (take (j + 1) rs))
    (max horizon (acknowledged_by (and_then past (take j (es ++ event ∷ [])) xs))) c)
    (sym (take-append-le j rs (reply ∷ []) (omega (arith, below, even)))) was))

-- and what is answered now
survives_last : {M : Type 0} (past : Past M) (horizon : ℕ) (es : List Event) (rs : List (Reply M)) (event : Event) (reply : Reply M) (j : ℕ) (c : CrashState)
    → length rs ≡ length es → j ≡ length es
    → Survives (and_then (and_then past es rs) (event ∷ []) (reply ∷ [])) (max horizon (acknowledged_by (and_then past es rs))) c
    → SurvivesAt past (es ++ event ∷ []) (rs ++ reply ∷ []) horizon j c
survives_last past horizon es rs event reply j c even last was =
    subst (λ (xs : List Event). Survives (and_then past xs (take (j + 1) (rs ++ reply ∷ [])))
    (max horizon (acknowledged_by (and_then past (take j (es ++ event ∷ [])) (take j (rs ++ reply ∷ []))))) c)
    (sym (take_all (j + 1) (es ++ event ∷ []) (omega (arith, last, length-append es (event ∷ [])))))
    (subst (λ (xs : List (Reply _)). Survives (and_then past (es ++ event ∷ []) xs)
    (max horizon (acknowledged_by (and_then past (take j (es ++ event ∷ [])) (take j (rs ++ reply ∷ []))))) c)
    (sym (take_all (j + 1) (rs ++ reply ∷ []) (omega (arith, last, even, length-append rs (reply ∷ [])))))
    (subst (λ (xs : List (Reply _)). Survives (and_then past (es ++ event ∷ []) (rs ++ reply ∷ []))
    (max horizon (acknowledged_by (and_then past (take j (es ++ event ∷ [])) xs))) c) (sym (take_at rs (reply ∷ []) j (omega (arith, last, even))))
    (subst (λ (p : Past _). Survives p (max horizon (acknowledged_by (and_then past es rs))) c) (and_then_both past es (event ∷ []) rs (reply ∷ [])) was)))

module _ {D M : Type 0} (past_of : D → DevicePast) (past : Past M) where
  pub goes_nowhere : (old : EngineParts D M) → IsAt past_of past old → GoesOn past_of past [] [] old old
  goes_nowhere old is = record {
    at = subst (λ (p : Past _). IsAt past_of p old) (sym (and_then_none past)) is;
    kept = λ t le. refl;
    borders = [];
    one_each = refl;
    spans = refl;
    grows = omega arith;
  }

  pub goes_further : (es : List Event) (rs : List (Reply M)) (old mid new : EngineParts D M) (event : Event) (reply : Reply M) → length rs ≡ length es
      → GoesOn past_of past es rs old mid → ServesOn past_of event reply mid new → GoesOn past_of past (es ++ event ∷ []) (rs ++ reply ∷ []) old new
  goes_further es rs old mid new event reply even ran serves = record {
    at = subst (λ (p : Past _). IsAt past_of p new) (and_then_both past es (event ∷ []) rs (reply ∷ [])) served.0;
    kept = λ t le. served.1.kept t
        (omega (
          arith,
          le,
          spans_rise (past_of (device_of mid)).disk_at (SurvivesAt past es rs (horizon_of old)) 0 (past_of (device_of old)).moment ran.borders
              (past_of (device_of mid)).moment ran.spans,
        )) ∙ ran.kept t le;
    borders = ran.borders ++ (past_of (device_of new)).moment ∷ [];
    one_each = omega (arith, ran.one_each, length-append ran.borders ((past_of (device_of new)).moment ∷ []), length-append es (event ∷ []));
    spans = spans_push (past_of (device_of new)).disk_at after 0 (past_of (device_of old)).moment ran.borders (past_of (device_of mid)).moment
        (past_of (device_of new)).moment
        (spans_kept (past_of (device_of mid)).disk_at (past_of (device_of new)).disk_at after 0 (past_of (device_of old)).moment ran.borders
        (past_of (device_of mid)).moment served.1.kept
        (spans_map (past_of (device_of mid)).disk_at (SurvivesAt past es rs (horizon_of old)) after 0 (past_of (device_of old)).moment ran.borders
        (past_of (device_of mid)).moment
        (λ i low high c was. survives_earlier past (horizon_of old) es rs event reply i c even (omega (arith, high, ran.one_each)) was) ran.spans))
        served.1.later
        (λ t c low high crash. survives_last past (horizon_of old) es rs event reply (0 + length ran.borders) c even (omega (arith, ran.one_each))
        (survives_lower (and_then (and_then past es rs) (event ∷ []) (reply ∷ [])) (horizon_of mid)
        (max (horizon_of old) (acknowledged_by (and_then past es rs))) c (served.1.each t c low high crash) (omega (arith, ran.grows, ran.at.safe))));
    grows = omega (arith, ran.grows, served.2);
  }
    where
      after : ℕ → CrashState → Type 0
      after = SurvivesAt past (es ++ event ∷ []) (rs ++ reply ∷ []) (horizon_of old)

      served : IsAt past_of (and_then (and_then past es rs) (event ∷ []) (reply ∷ [])) new
          × LeavesOnly (past_of (device_of mid)) (past_of (device_of new))
          (Survives (and_then (and_then past es rs) (event ∷ []) (reply ∷ [])) (horizon_of mid)) × (horizon_of mid ≤ horizon_of new)
      served = serves (and_then past es rs) ran.at

pub lawful_last : {D M : Type 0} (failures : D → ℕ) (es : List Event) (rs : List (Reply M)) (event : Event) (reply : Reply M) (old mid new : EngineParts D M)
    → AreLawful failures es rs old mid → IsLawful failures event reply mid new → AreLawful failures (es ++ event ∷ []) (rs ++ reply ∷ []) old new
lawful_last failures [] [] event reply old mid new so_far lawful = (new, subst (λ e. IsLawful failures event reply e new) so_far lawful, refl)
lawful_last failures [] (r ∷ rs) event reply old mid new so_far lawful = absurd so_far
lawful_last failures (e ∷ es) [] event reply old mid new so_far lawful = absurd so_far
lawful_last failures (e ∷ es) (r ∷ rs) event reply old mid new so_far lawful =
    (so_far.0, so_far.1, lawful_last failures es rs event reply so_far.0 mid new so_far.2 lawful)

pub served_last : {D M : Type 0} (past_of : D → DevicePast) (failures : D
    → ℕ) (past : Past M) (es : List Event) (rs : List (Reply M)) (event : Event) (reply : Reply M) (old mid new : EngineParts D M) → IsAt past_of past old
    → AreServed past_of failures past es rs old mid → IsLawful failures event reply mid new → ServesOn past_of event reply mid new
    → AreServed past_of failures past (es ++ event ∷ []) (rs ++ reply ∷ []) old new
served_last past_of failures past [] [] event reply old mid new at so_far lawful serves =
    let first = subst (λ e. ServesOn past_of event reply e new) so_far serves past at in
    (new, subst (λ e. IsLawful failures event reply e new) so_far lawful, first.0, first.1, refl)
served_last past_of failures past [] (r ∷ rs) event reply old mid new at so_far lawful serves = absurd so_far
served_last past_of failures past (e ∷ es) [] event reply old mid new at so_far lawful serves = absurd so_far
served_last past_of failures past (e ∷ es) (r ∷ rs) event reply old mid new at so_far lawful serves = (
  so_far.0,
  so_far.1,
  so_far.2,
  so_far.3,
  served_last past_of failures
      (and_then past (e ∷ []) (r ∷ [])) es rs event reply so_far.0 mid new so_far.2 so_far.4 lawful serves,
)
