-- What requests and their replies tell is the history that the core's calls tell.
use Rattle.std.proofs.Common.{◌≡◌, ◌≢◌, ℕ, ◌≤◌, List, [], ◌∷◌, ◌++◌, None, Option, Some, map, max, refl, sym, ap, ◌∙◌, arith}
use Rattle.record_values.specs.Values.{Place}
use Rattle.model.specs.History.{Checkpointed, Completed, Deed, Item}
use Rattle.core_model.specs.Events as core
use Rattle.core_model.specs.Served as served
use Rattle.core_model.specs.Served.{asked_after, asked_by, commit_of, items_at, items_of}
use Rattle.core_parts.specs.Replies.{ticket_by}
use Rattle.core_parts.specs.declared.reply.BuildReply.TheVariants as build
use Rattle.core_parts.specs.declared.reply.CleanReply.TheVariants as clean
use Rattle.restart.specs.declared.event.Event.{Event}
use Rattle.restart.specs.declared.event.Event.TheVariants as event
use Rattle.restart.specs.declared.event.Reply.{Reply}
use Rattle.restart.specs.declared.event.Reply.TheVariants as reply
use Rattle.restart.specs.History as restart
use Rattle.restart.specs.History.{AreOfKind, IsOfKind, answered, asked, both, core_calls}
use Rattle.headline.specs.Told.{Writes, acknowledged, deeds_told, told_by, told_over, turn_of, written, written_by}

-- a request and the core's event for it write, commit and turn the same
record Same (e : Event) (x : core.Event) : Type 0 where
  pub writes : (w : Writes) (place : Option Place) → written_by w e place ≡ asked_by w place x
  pub commits : (w : Writes) (deeds : List Deed) (c : ℕ) → deeds_told w e deeds (Some c) ≡ commit_of w x
  pub turns : turn_of e ≡ served.turn_of x

-- these deeds as items of one log record
abbrev numbered : ℕ → List Deed → List Item
numbered number deeds = map (λ (deed : Deed). record { number = number; deed = deed }) deeds

-- a reply with a ticket
ticket : (w : Writes) (e : Event) (x : core.Event) (same : Same e x) (rest : List (core.Event × core.Reply)) (deeds : List Deed) (other : ℕ
    → core.Reply) (n : ℕ) (commit : Option ℕ)
    → items_at w (other n) x ≡ numbered n deeds → asked_after w (other n) x ≡ asked_by w None x
    → items_of w ((x, ticket_by other n commit) ∷ rest) ≡ numbered n (deeds_told w e deeds commit) ++ items_of (written_by w e None) rest
ticket w e x same rest deeds other n None items after =
    ap (λ (l : List Item). l ++ items_of (asked_after w (other n) x) rest) items
    ∙ ap (λ (v : Writes). numbered n deeds ++ items_of v rest) (after ∙ sym (same.writes w None))
ticket w e x same rest deeds other n (Some c) items after =
    ap (λ (l : List Deed). numbered n l ++ items_of (asked_by w None x) rest) (sym (same.commits w deeds c))
    ∙ ap (λ (v : Writes). numbered n (deeds_told w e deeds (Some c)) ++ items_of v rest) (sym (same.writes w None))

module _ (w : Writes) (e : Event) (x : core.Event) (same : Same e x) (rest : List (core.Event × core.Reply)) where
  on : (place : Option Place) → items_of (asked_by w place x) rest ≡ items_of (written_by w e place) rest
  on place = ap (λ (v : Writes). items_of v rest) (sym (same.writes w place))

  -- a reply to what is asked of the core
  in_core : {M : Type 0} (r : Reply M) → answered r ≢ None → items_of w (both (Some x) (answered r) ++ rest) ≡ told_by w e r ++ items_of (written w e r) rest
  in_core (reply.Txn n) kind = on None
  in_core (reply.Rid rid) kind = on (Some rid)
  in_core reply.Stepped kind = on None
  in_core reply.Undone kind = on None
  in_core reply.Empty kind = on None
  in_core reply.Ended kind = on None
  in_core (reply.Ticket t) kind = ticket w e x same rest (turn_of e) core.Reply.Ticketed t.record t.commit (ap (numbered t.record) (sym same.turns)) refl
  in_core (reply.Built (build.Scanned page)) kind = on None
  in_core (reply.Built (build.Placed pair)) kind = on None
  in_core (reply.Built (build.Rejected pair)) kind = on None
  in_core (reply.Built (build.Marked pair t)) kind =
      ticket w e x same rest (Checkpointed pair ∷ []) (λ n. core.Built (core.BuildReply.Marked pair n)) t.record t.commit refl refl
  in_core (reply.Built (build.Done t)) kind = ticket w e x same rest (Completed ∷ []) (λ n. core.Built (core.Done n)) t.record t.commit refl refl
  in_core (reply.Built build.Idle) kind = on None
  in_core (reply.Cleaned (clean.Cleaned pair)) kind = on None
  in_core (reply.Cleaned (clean.Kept pair)) kind = on None
  in_core (reply.Cleaned clean.Wrapped) kind = on None
  in_core (reply.Horizon n) kind = absurd (kind refl)
  in_core reply.LogFull kind = absurd (kind refl)
  in_core reply.Copied kind = absurd (kind refl)
  in_core (reply.Flipped n) kind = absurd (kind refl)
  in_core reply.Again kind = absurd (kind refl)
  in_core (reply.Row row) kind = on None
  in_core (reply.Found rids) kind = on None
  in_core (reply.Life life) kind = on None
  in_core reply.Skipped kind = refl
  in_core (reply.Refused error) kind = refl

-- a reply of its request's kind
one_told : {M : Type 0} (w : Writes) (e : Event) (r : Reply M) (rest : List (core.Event × core.Reply)) → IsOfKind e r
    → items_of w (both (asked e) (answered r) ++ rest) ≡ told_by w e r ++ items_of (written w e r) rest
one_told w event.Begin r rest kind = in_core w event.Begin core.Begin
    (record { writes = λ v place. refl; commits = λ v deeds c. refl; turns = refl }) rest r kind
one_told w (event.Insert txn key body) r rest kind =
    in_core w (event.Insert txn key body) (core.Insert txn (record { key = key; body = body }))
    (record { writes = λ v. elim [ None ↦ refl | Some place ↦ refl ]; commits = λ v deeds c. refl; turns = refl }) rest r kind
one_told w (event.Delete txn rid) r rest kind = in_core w (event.Delete txn rid) (core.Delete txn rid)
    (record { writes = λ v place. refl; commits = λ v deeds c. refl; turns = refl }) rest r kind
one_told w (event.Update txn rid key body) r rest kind =
    in_core w (event.Update txn rid key body) (core.Update txn rid (record { key = key; body = body }))
    (record { writes = λ v place. refl; commits = λ v deeds c. refl; turns = refl }) rest r kind
one_told w (event.Step txn) r rest kind = in_core w (event.Step txn) (core.Step txn)
    (record { writes = λ v place. refl; commits = λ v deeds c. refl; turns = refl }) rest r kind
one_told w (event.Undo txn) r rest kind = in_core w (event.Undo txn) (core.Undo txn)
    (record { writes = λ v place. refl; commits = λ v deeds c. refl; turns = refl }) rest r kind
one_told w (event.End txn) r rest kind = in_core w (event.End txn) (core.End txn)
    (record { writes = λ v place. refl; commits = λ v deeds c. refl; turns = refl }) rest r kind
one_told w (event.Commit txn) r rest kind = in_core w (event.Commit txn) (core.Commit txn)
    (record { writes = λ v place. refl; commits = λ v deeds c. refl; turns = refl }) rest r kind
one_told w event.Create r rest kind = in_core w event.Create core.Create
    (record { writes = λ v place. refl; commits = λ v deeds c. refl; turns = refl }) rest r kind
one_told w event.Drop r rest kind = in_core w event.Drop core.Drop (record { writes = λ v place. refl; commits = λ v deeds c. refl; turns = refl }) rest r kind
one_told w event.Build r rest kind = in_core w event.Build core.Build
    (record { writes = λ v place. refl; commits = λ v deeds c. refl; turns = refl }) rest r kind
one_told w event.Clean r rest kind = in_core w event.Clean core.Clean
    (record { writes = λ v place. refl; commits = λ v deeds c. refl; turns = refl }) rest r kind
one_told w (event.Get rid) r rest kind = in_core w (event.Get rid) (core.Get rid)
    (record { writes = λ v place. refl; commits = λ v deeds c. refl; turns = refl }) rest r kind
one_told w (event.Find key) r rest kind = in_core w (event.Find key) (core.Find key)
    (record { writes = λ v place. refl; commits = λ v deeds c. refl; turns = refl }) rest r kind
one_told w event.Life r rest kind = in_core w event.Life core.Life (record { writes = λ v place. refl; commits = λ v deeds c. refl; turns = refl }) rest r kind
one_told w event.Flush (reply.Horizon n) rest kind = refl
one_told w event.Flush reply.LogFull rest kind = refl
one_told w event.Flush (reply.Refused error) rest kind = refl
one_told w event.Flush r rest kind = absurd kind
one_told w event.Copy reply.Copied rest kind = refl
one_told w event.Copy (reply.Flipped n) rest kind = refl
one_told w event.Copy reply.Again rest kind = refl
one_told w event.Copy (reply.Refused error) rest kind = refl
one_told w event.Copy r rest kind = absurd kind

pub told_is : {M : Type 0} (w : Writes) (events : List Event) (replies : List (Reply M)) → AreOfKind events replies
    → told_over w events replies ≡ items_of w (core_calls events replies)
told_is w [] [] kinds = refl
told_is w [] (r ∷ replies) kinds = absurd kinds
told_is w (e ∷ events) [] kinds = absurd kinds
told_is w (e ∷ events) (r ∷ replies) kinds =
    ap (λ (l : List Item). told_by w e r ++ l) (told_is (written w e r) events replies kinds.1) ∙ sym (one_told w e r (core_calls events replies) kinds.0)

-- ---- what is safe

-- what the replies tell to be safe is safe to the store, and so is what was before them
pub safe_both : {M : Type 0} (n : ℕ) (replies : List (Reply M)) → (n ≤ restart.acknowledged n replies) × (acknowledged replies ≤ restart.acknowledged n replies)
safe_both n [] = (omega arith, omega arith)
safe_both n (reply.Txn t ∷ replies) = safe_both n replies
safe_both n (reply.Rid r ∷ replies) = safe_both n replies
safe_both n (reply.Stepped ∷ replies) = safe_both n replies
safe_both n (reply.Undone ∷ replies) = safe_both n replies
safe_both n (reply.Empty ∷ replies) = safe_both n replies
safe_both n (reply.Ended ∷ replies) = safe_both n replies
safe_both n (reply.Ticket t ∷ replies) = safe_both n replies
safe_both n (reply.Built b ∷ replies) = safe_both n replies
safe_both n (reply.Cleaned c ∷ replies) = safe_both n replies
safe_both n (reply.Horizon m ∷ replies) = let rest = safe_both (max n m) replies in (omega (arith, rest.0), omega (arith, rest.0, rest.1))
safe_both n (reply.LogFull ∷ replies) = safe_both n replies
safe_both n (reply.Copied ∷ replies) = safe_both n replies
safe_both n (reply.Flipped m ∷ replies) = let rest = safe_both (max n m) replies in (omega (arith, rest.0), omega (arith, rest.0, rest.1))
safe_both n (reply.Again ∷ replies) = safe_both n replies
safe_both n (reply.Row row ∷ replies) = safe_both n replies
safe_both n (reply.Found rids ∷ replies) = safe_both n replies
safe_both n (reply.Life life ∷ replies) = safe_both n replies
safe_both n (reply.Skipped ∷ replies) = safe_both n replies
safe_both n (reply.Refused e ∷ replies) = safe_both n replies
