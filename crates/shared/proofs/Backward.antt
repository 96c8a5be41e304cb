-- A transaction that is taken back.
use Rattle.std.proofs.Common.{◌≡◌, ◌⊎◌, ◌∷◌, [], List, ℕ, Bool, true, false, cond, Option, Some, None, is_some, inl, inr, refl, sym, ap, ◌∙◌, subst}
use Rattle.std.specs.Option.{option_map}
use Rattle.std.specs.Prelude.{unwrap_or}
use Rattle.record_values.specs.Values.{Place}
use Rattle.model.specs.declared.write.Write.{Write}
use Rattle.core_parts.specs.View.{CoreValue}
use Rattle.threads_register.specs.Agreement.{row_at}
use Rattle.threads_sessions.specs.Steps.{ended, rolling_back, row_now, rows_now, taken_back}
use Rattle.threads_sessions.specs.Values.{active_of, ActiveValue, is_active, is_at, SessionValue}
use Rattle.shared.specs.Changed.{goes_back, IsGoingBack}
use Rattle.shared.proofs.Lookups.{others_stay, still_active}
use Rattle.threads_register.proofs.Laws.{with_own}

-- the places stay, whatever rows are there now
same_places : (core : CoreValue) (q : Place) (rows : List Write) → is_some (row_at q (rows_now core rows)) ≡ is_some (row_at q rows)
same_places core q [] = refl
same_places core q (w ∷ ws) = by (is_at q w) (same_places core q ws)
  where
    by : (b : Bool) → is_some (row_at q (rows_now core ws)) ≡ is_some (row_at q ws)
        → is_some (cond b (Some (row_now core w.rid).row) (row_at q (rows_now core ws))) ≡ is_some (cond b (Some w.row) (row_at q ws))
    by true rest = refl
    by false rest = rest

module _ (t : ℕ) where
  pub back_step : (p : SessionValue) (core : CoreValue) → is_active p t ≡ true → IsGoingBack p t (rolling_back p core t)
  back_step p core own = record {
    others = others_stay (taken_back core) (λ a. refl) t p;
    active = still_active (taken_back core) (λ a. refl) t p.active own;
    rolling = ap goes_back (with_own (taken_back core) (λ a. refl) t p.active) ∙ rolls (active_of t p.active) own;
    places = λ q. ap (λ (o : Option ActiveValue). is_some (row_at q (unwrap_or (option_map (λ (a : ActiveValue). a.rows) o) [])))
        (with_own (taken_back core) (λ a. refl) t p.active) ∙ stay q (active_of t p.active);
  }
    where
      rolls : (o : Option ActiveValue) → is_some o ≡ true → goes_back (option_map (taken_back core) o) ≡ true
      rolls None e = absurd cc
      rolls (Some a) e = refl

      stay : (q : Place) (o : Option ActiveValue)
          → is_some (row_at q (unwrap_or (option_map (λ (a : ActiveValue). a.rows) (option_map (taken_back core) o)) []))
          ≡ is_some (row_at q (unwrap_or (option_map (λ (a : ActiveValue). a.rows) o) []))
      stay q None = refl
      stay q (Some a) = same_places core q a.rows

  abbrev pub IsBackFrom : SessionValue → SessionValue → Type 0
  IsBackFrom p q = (q ≡ p) ⊎ IsGoingBack p t q

  pub back_more : (p q r : SessionValue) → IsBackFrom p q → IsGoingBack q t r → IsBackFrom p r
  back_more p q r (inl same) b = inr (subst (λ v. IsGoingBack v t r) same b)
  back_more p q r (inr a) b = inr (record { others = b.others ∙ a.others; active = b.active; rolling = b.rolling; places = λ x. b.places x ∙ a.places x })

  pub back_joined : (p q r : SessionValue) → IsBackFrom p q → IsBackFrom q r → IsBackFrom p r
  back_joined p q r a (inl same) = subst (IsBackFrom p) (sym same) a
  back_joined p q r a (inr b) = back_more p q r a b

  pub back_stays : (p q r : SessionValue) → IsBackFrom p q → r ≡ q → IsBackFrom p r
  back_stays p q r back is = subst (IsBackFrom p) (sym is) back

  pub back_ended : (p q r : SessionValue) → IsBackFrom p q → r ≡ ended q t → r ≡ ended p t
  back_ended p q r (inl same) is = is ∙ ap (λ v. ended v t) same
  back_ended p q r (inr a) is = is ∙ a.others
