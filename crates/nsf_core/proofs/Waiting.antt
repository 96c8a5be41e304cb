-- Records that are handed on.
use Rattle.std.proofs.Common.{◌≡◌, ◌<◌, List, [], ◌∷◌, ◌++◌, Result, Ok, Err, false, length, drop, sym, ap, ◌∙◌, append_assoc, arith, subst}
use Rattle.std.specs.Prelude.{slice_index_or, MatchResult, is_err}
use Rattle.records.specs.RecordValue.{RecordValue}
use Rattle.core_parts.specs.View.{CoreValue, IsSafe, Shows}
use Rattle.nsf_core.specs.Outbox.{HandsOn}

head_is : (xs : List RecordValue) (x : RecordValue) → 0 < length xs → x ≡ slice_index_or xs 0 x → xs ≡ x ∷ drop 1 xs
head_is [] x some is = absurd (omega (arith, some))
head_is (y ∷ xs) x some is = ap (λ z. z ∷ xs) (sym is)

-- what holds after a call that did not fail
pub on_success : {T E : Type 0} (P : Type 0) (Q : E → Type 0) (r : Result T E) → is_err r ≡ false → MatchResult r (λ _. P) Q → P
on_success P Q (Ok x) is h = h
on_success P Q (Err e) is h = absurd cc

-- one record more
pub one_more : (old mid : CoreValue) (before taken after rest : List RecordValue) (x : RecordValue) → HandsOn old mid before taken → 0 < length mid.outbox
    → x ≡ slice_index_or mid.outbox 0 x → rest ≡ drop 1 mid.outbox → after ≡ taken ++ x ∷ []
    → HandsOn old (record mid { outbox = rest }) before after
one_more old mid before taken after rest x on some first others more = record {
  handed = on.handed ++ x ∷ [];
  split = on.split ∙ ap (λ xs. on.handed ++ xs) whole ∙ sym (append_assoc on.handed (x ∷ []) rest);
  taken = more ∙ ap (λ xs. xs ++ x ∷ []) on.taken ∙ append_assoc before on.handed (x ∷ []);
  others = ap (λ (v : CoreValue). record v { outbox = rest }) on.others;
}
  where
    whole : mid.outbox ≡ x ∷ rest
    whole = head_is mid.outbox x some first ∙ ap (λ xs. x ∷ xs) (sym others)

-- a core stays one, whatever waits
other_outbox : (v : CoreValue) (waiting : List RecordValue) → IsSafe v → IsSafe (record v { outbox = waiting })
other_outbox v waiting safe = record {
  state = safe.state;
  standing = safe.standing;
  is = record { shown = shown; fit = safe.is.fit; standing = safe.is.standing; counted = safe.is.counted };
}
  where
    h : Shows v safe.state safe.standing
    h = safe.is.shown

    shown : Shows (record v { outbox = waiting }) safe.state safe.standing
    shown = record {
      rows = h.rows;
      entries = h.entries;
      txns = h.txns;
      holder = h.holder;
      pledges = h.pledges;
      pledged = h.pledged;
      life = h.life;
      pages = h.pages;
      scan_pages = h.scan_pages;
      places = h.places;
      cleaned = h.cleaned;
      bound = h.bound;
      scan = record {
        run = h.scan.run;
        made = h.scan.made;
        given = h.scan.given;
        missed = h.scan.missed;
        taken = h.scan.taken;
        in_a_row = h.scan.in_a_row;
        untaken = h.scan.untaken;
      };
      made = h.made;
      begun = h.begun;
      active = h.active;
      attempts = h.attempts;
      all_attempts = h.all_attempts;
      commits = h.commits;
    }

pub handed_safe : (old new : CoreValue) (before after : List RecordValue) → HandsOn old new before after → IsSafe old → IsSafe new
handed_safe old new before after on safe = subst IsSafe (sym on.others) (other_outbox old new.outbox safe)
