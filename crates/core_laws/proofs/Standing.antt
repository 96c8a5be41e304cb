-- A core stands for the abstract one from call to call.
use Rattle.std.proofs.Common.{List, [], ap, append-nil, append_assoc, subst, sym, ◌++◌, ◌∙◌, ◌∷◌, ◌≤◌}
use Rattle.records.specs.RecordValue.{RecordValue}
use Rattle.record_values.specs.declared.number.TheConstants.{LAST_NUMBER}
use Rattle.core_model.specs.Histories.{CanOpen, Opened, opened}
use Rattle.core_model.specs.States.{State}
use Rattle.core_model.proofs.ReplyLaws.{served_allowed, served_nothing}
use Rattle.core_model.specs.Events.{Event, Reply, Standing, standing_after, standing_at}
use Rattle.core_model.specs.Replies.{after_any}
use Rattle.core_model.specs.Served.{HasServed, records_by}
use Rattle.core_copies.proofs.Offered.{stands}
use Rattle.core_copies.specs.Outbox.{HandsOn}
use Rattle.core_parts.specs.View.{Answers, CoreValue, IsState, Serves, Shows}
use Rattle.core_laws.specs.Calls.{BeginsWith, Calls, HasReplied, no_call, served, taken}

-- whatever waits, the core stands for the same
module _ (v : CoreValue) (waiting : List RecordValue) (s : State) (k : Standing) (is : IsState v s k) where
  abbrev h : Shows v s k
  h = is.shown

  other_outbox : IsState (record v { outbox = waiting }) s k
  other_outbox = record {
    shown = record {
      rows = h.rows;
      entries = h.entries;
      txns = h.txns;
      holder = h.holder;
      pledges = h.pledges;
      pledged = h.pledged;
      life = h.life;
      pages = h.pages;
      scan_pages = h.scan_pages;
      places = h.places;
      cleaned = h.cleaned;
      bound = h.bound;
      scan = record {
        run = h.scan.run;
        made = h.scan.made;
        given = h.scan.given;
        missed = h.scan.missed;
        taken = h.scan.taken;
        in_a_row = h.scan.in_a_row;
        untaken = h.scan.untaken;
      };
      made = h.made;
      begun = h.begun;
      active = h.active;
      attempts = h.attempts;
      all_attempts = h.all_attempts;
      commits = h.commits;
    };
    fit = is.fit;
    standing = is.standing;
    counted = is.counted;
  }

pub begins : (o : Opened) (v : CoreValue) → BeginsWith o v → HasReplied o [] [] v
begins o v b = record {
  state = opened o;
  standing = standing_at o.given.last;
  stands = b.stands;
  served = subst (λ made. HasServed o made [] (opened o) (standing_at o.given.last)) (sym b.none_waits) (served_nothing o within);
}
  where
    within : o.given.last ≤ LAST_NUMBER
    within = b.stands.standing.within

pub replies : (o : Opened) → CanOpen o → (pairs : List (Event × Reply)) (handed : List RecordValue) (v : CoreValue) → HasReplied o pairs handed v
    → (e : Event) (reply : Reply) (new : CoreValue) → Serves v e reply new
    → HasReplied o (pairs ++ (e, reply) ∷ []) handed new
replies o can pairs handed v so e reply new serves =
    let s : State = so.state in
    let k : Standing = so.standing in
    let a : Answers v s k e reply new = serves s k so.stands in
    record {
      state = after_any s a.step;
      standing = standing_after k reply;
      stands = stands v new s k e reply so.stands a;
      served = subst (λ made. HasServed o made (pairs ++ (e, reply) ∷ []) (after_any s a.step) (standing_after k reply))
          (append_assoc handed v.outbox (records_by s k.made a.step) ∙ ap (λ rs. handed ++ rs) (sym a.outbox))
          (served_allowed o can (handed ++ v.outbox) pairs s k so.served e reply a.step a.allowed);
    }

pub hands_on : (o : Opened) (pairs : List (Event × Reply)) (handed : List RecordValue) (v : CoreValue) → HasReplied o pairs handed v
    → (new : CoreValue) (before after : List RecordValue) (on : HandsOn v new before after)
    → HasReplied o pairs (handed ++ on.handed) new
hands_on o pairs handed v so new before after on = record {
  state = so.state;
  standing = so.standing;
  stands = subst (λ w. IsState w so.state so.standing) (sym on.others) (other_outbox v new.outbox so.state so.standing so.stands);
  served = subst (λ made. HasServed o made pairs so.state so.standing) (ap (λ rs. handed ++ rs) on.split
      ∙ sym (append_assoc handed on.handed new.outbox)) so.served;
}

-- from any call on
module _ (o : Opened) (can : CanOpen o) where
  goes_on : (v : CoreValue) (pairs : List (Event × Reply)) (handed : List RecordValue) (new : CoreValue) → Calls v pairs handed new
      → (earlier : List (Event × Reply)) (gone : List RecordValue) → HasReplied o earlier gone v
      → HasReplied o (earlier ++ pairs) (gone ++ handed) new
  goes_on v pairs handed new no_call earlier gone so =
      subst (λ ps. HasReplied o ps (gone ++ []) v) (sym (append-nil earlier)) (subst (λ rs. HasReplied o earlier rs v) (sym (append-nil gone)) so)
  goes_on v pairs handed new (served {now = now} e reply rest _ serves later) earlier gone so =
      subst (λ ps. HasReplied o ps (gone ++ handed) new) (append_assoc earlier ((e, reply) ∷ []) rest)
      (goes_on now rest handed new later (earlier ++ (e, reply) ∷ []) gone (replies o can earlier gone v so e reply now serves))
  goes_on v pairs handed new (taken {now = now} before after rest more on later) earlier gone so =
      subst (λ rs. HasReplied o (earlier ++ rest) rs new) (append_assoc gone on.handed more)
      (goes_on now rest more new later earlier (gone ++ on.handed) (hands_on o earlier gone v so now before after on))

  pub all_calls : (v : CoreValue) → BeginsWith o v → (pairs : List (Event × Reply)) (handed : List RecordValue) (new : CoreValue) → Calls v pairs handed new
      → HasReplied o pairs handed new
  all_calls v b pairs handed new calls = goes_on v pairs handed new calls [] [] (begins o v b)
