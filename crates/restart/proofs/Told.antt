-- A run goes on by a request and its reply.
use Rattle.std.proofs.Common.{◌≡◌, ℕ, max, List, [], ◌∷◌, ◌++◌, length, refl, sym, ap, ◌∙◌, append-nil, append_assoc, arith}
use Rattle.records.specs.RecordValue.{RecordValue}
use Rattle.core_model.specs.Events as core
use Rattle.core_model.specs.Events.{Standing, standing_after}
use Rattle.core_model.specs.Replies.{after_any}
use Rattle.core_model.specs.Served.{ServesAll, nothing, served}
use Rattle.core_model.specs.States.{State}
use Rattle.restart.specs.declared.event.Event.{Event}
use Rattle.restart.specs.declared.event.Reply.{Reply}
use Rattle.restart.specs.declared.event.Reply.TheVariants as reply
use Rattle.restart.specs.History.{AreOfKind, IsOfKind, acknowledged, answered, asked, both, core_calls, standing_over}

pub pairs_last : {M : Type 0} (events : List Event) (replies : List (Reply M)) (e : Event) (r : Reply M) → length replies ≡ length events
    → core_calls (events ++ e ∷ []) (replies ++ r ∷ []) ≡ core_calls events replies ++ both (asked e) (answered r)
pairs_last [] [] e r even = append-nil (both (asked e) (answered r))
pairs_last [] (x ∷ replies) e r even = absurd (omega (arith, even))
pairs_last (x ∷ events) [] e r even = absurd (omega (arith, even))
pairs_last (x ∷ events) (y ∷ replies) e r even =
    ap (λ (l : List (core.Event × core.Reply)). both (asked x) (answered y) ++ l) (pairs_last events replies e r (omega (arith, even)))
    ∙ sym (append_assoc (both (asked x) (answered y)) (core_calls events replies) (both (asked e) (answered r)))

-- a reply more that is of its request's kind
pub kinds_last : {M : Type 0} (events : List Event) (replies : List (Reply M)) (e : Event) (r : Reply M) → AreOfKind events replies → IsOfKind e r
    → AreOfKind (events ++ e ∷ []) (replies ++ r ∷ [])
kinds_last [] [] e r so_far is = (is, tt)
kinds_last [] (x ∷ replies) e r so_far is = absurd so_far
kinds_last (x ∷ events) [] e r so_far is = absurd so_far
kinds_last (x ∷ events) (y ∷ replies) e r so_far is = (so_far.0, kinds_last events replies e r so_far.1 is)

pub acknowledged_both : {M : Type 0} (n : ℕ) (replies more : List (Reply M)) → acknowledged n (replies ++ more) ≡ acknowledged (acknowledged n replies) more
acknowledged_both n [] more = refl
acknowledged_both n (reply.Txn t ∷ replies) more = acknowledged_both n replies more
acknowledged_both n (reply.Rid r ∷ replies) more = acknowledged_both n replies more
acknowledged_both n (reply.Stepped ∷ replies) more = acknowledged_both n replies more
acknowledged_both n (reply.Undone ∷ replies) more = acknowledged_both n replies more
acknowledged_both n (reply.Empty ∷ replies) more = acknowledged_both n replies more
acknowledged_both n (reply.Ended ∷ replies) more = acknowledged_both n replies more
acknowledged_both n (reply.Ticket t ∷ replies) more = acknowledged_both n replies more
acknowledged_both n (reply.Built b ∷ replies) more = acknowledged_both n replies more
acknowledged_both n (reply.Cleaned c ∷ replies) more = acknowledged_both n replies more
acknowledged_both n (reply.Horizon m ∷ replies) more = acknowledged_both (max n m) replies more
acknowledged_both n (reply.LogFull ∷ replies) more = acknowledged_both n replies more
acknowledged_both n (reply.Copied ∷ replies) more = acknowledged_both n replies more
acknowledged_both n (reply.Flipped m ∷ replies) more = acknowledged_both (max n m) replies more
acknowledged_both n (reply.Again ∷ replies) more = acknowledged_both n replies more
acknowledged_both n (reply.Row row ∷ replies) more = acknowledged_both n replies more
acknowledged_both n (reply.Found rids ∷ replies) more = acknowledged_both n replies more
acknowledged_both n (reply.Life life ∷ replies) more = acknowledged_both n replies more
acknowledged_both n (reply.Skipped ∷ replies) more = acknowledged_both n replies more
acknowledged_both n (reply.Refused e ∷ replies) more = acknowledged_both n replies more

-- the standing is what the replies leave
pub stands_over : (s : State) (k : Standing) (calls : List (core.Event × core.Reply)) (made : List RecordValue) (s' : State) (k' : Standing)
    → ServesAll s k calls made s' k' → k' ≡ standing_over k calls
stands_over s k calls made s' k' nothing = refl
stands_over s k calls made s' k' (served e reply step rest later allowed more) =
    stands_over (after_any s step) (standing_after k reply) rest later s' k' more
