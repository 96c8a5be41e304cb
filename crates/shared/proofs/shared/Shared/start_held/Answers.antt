use Rattle.std.proofs.Common.{◌≡◌, None, Some, map, true}
use Rattle.std.proofs.lemmas.Result.{err_from_is_err_and}
use Rattle.record_values.specs.Values.{Place}
use Rattle.locked_core.specs.Locked.{locked_of}
use Rattle.nsf_core.specs.Value.{value_of}
use Rattle.threads_sessions.specs.Halves.{shown}
use Rattle.threads_sessions.specs.Values.{is_active}
use Rattle.shared.proofs.AtOnce.{left_by, left_changed, left_same, put_started, remove_started, replace_started}
use Rattle.shared.proofs.Ready.{ready_active}
use Rattle.shared.proofs.shared.Shared.start_held.Goals as goal

pub insert-requires-clause-ready : goal.insert-requires-clause-ready
insert-requires-clause-ready g c = λ _. c.requires.ready

pub delete-requires-clause-ready : goal.delete-requires-clause-ready
delete-requires-clause-ready g c = λ _. c.requires.ready

pub update-requires-clause-ready : goal.update-requires-clause-ready
update-requires-clause-ready g c = λ _. c.requires.ready

pub returns-in-Put : goal.returns-in-Put
returns-in-Put g c =
    let was = c.args.locked.now in
    let t = c.args.txn in
    let part = c.args.part.now in
    let step = c.insert in
    let own : is_active part.session t ≡ true = ready_active part.session t c.requires.ready in
    rw c.in-Put.is (record {
      served = step.ensures.served own;
      changing = put_started g.B.Group.site.opened (value_of was.core) (value_of step.new.self.core) was.pusher.records (map shown was.book.items) was.shared
          part.number part.session step.new.seat.session step.ensures.before t own c.requires.ready c.requires.empty
          (record { key = c.in-Put.key; body = c.in-Put.body }) step.result (step.ensures.served own) step.ensures.ok;
      left = left_by t part.session step.new.seat.session step.result (λ (rid : Place).
          record { rid = rid; row = Some (record { key = c.in-Put.key; body = c.in-Put.body }) }) (locked_of step.new.self).core own
          step.ensures.ok step.ensures.refused;
      number = step.ensures.number;
    })

pub returns-in_err-delete-in-Remove : goal.returns-in_err-delete-in-Remove
returns-in_err-delete-in-Remove g c =
    let p = err_from_is_err_and c.from_residual.result c.from_residual.ensures.1 in
    let t = c.args.txn in
    let part = c.args.part.now in
    let own : is_active part.session t ≡ true = ready_active part.session t c.requires.ready in
    rw c.in-Remove.is (rw (p.1, p.2) (record {
      served = c.in_err-delete-in-Remove.ensures.served own;
      changing = tt;
      left = left_same t part.session c.delete.new.seat.session own c.in_err-delete-in-Remove.ensures.refused;
      number = c.delete.ensures.number;
    }))

pub returns-in_ok-delete-in-Remove : goal.returns-in_ok-delete-in-Remove
returns-in_ok-delete-in-Remove g c =
    let was = c.args.locked.now in
    let t = c.args.txn in
    let part = c.args.part.now in
    let step = c.delete in
    let own : is_active part.session t ≡ true = ready_active part.session t c.requires.ready in
    rw c.in-Remove.is (record {
      served = c.in_ok-delete-in-Remove.ensures.served own;
      changing = remove_started g.B.Group.site.opened (value_of was.core) (value_of step.new.self.core) was.pusher.records (map shown was.book.items) was.shared
          part.number part.session step.new.seat.session step.ensures.before t own c.requires.ready c.requires.empty
          c.in-Remove.rid (c.in_ok-delete-in-Remove.ensures.served own) c.in_ok-delete-in-Remove.ensures.ok;
      left = left_changed t part.session step.new.seat.session own (locked_of step.new.self).core (record { rid = c.in-Remove.rid; row = None })
          c.in_ok-delete-in-Remove.ensures.ok;
      number = step.ensures.number;
    })

pub returns-in_err-update-in-Replace : goal.returns-in_err-update-in-Replace
returns-in_err-update-in-Replace g c =
    let p = err_from_is_err_and c.from_residual-in_err-update-in-Replace.result c.from_residual-in_err-update-in-Replace.ensures.1 in
    let t = c.args.txn in
    let part = c.args.part.now in
    let own : is_active part.session t ≡ true = ready_active part.session t c.requires.ready in
    rw c.in-Replace.is (rw (p.1, p.2) (record {
      served = c.in_err-update-in-Replace.ensures.served own;
      changing = tt;
      left = left_same t part.session c.update.new.seat.session own c.in_err-update-in-Replace.ensures.refused;
      number = c.update.ensures.number;
    }))

pub returns-in_ok-update-in-Replace : goal.returns-in_ok-update-in-Replace
returns-in_ok-update-in-Replace g c =
    let was = c.args.locked.now in
    let t = c.args.txn in
    let part = c.args.part.now in
    let step = c.update in
    let own : is_active part.session t ≡ true = ready_active part.session t c.requires.ready in
    rw c.in-Replace.is (record {
      served = c.in_ok-update-in-Replace.ensures.served own;
      changing = replace_started g.B.Group.site.opened (value_of was.core) (value_of step.new.self.core) was.pusher.records
          (map shown was.book.items) was.shared part.number part.session step.new.seat.session step.ensures.before t own c.requires.ready c.requires.empty
          c.in-Replace.rid (record { key = c.in-Replace.key; body = c.in-Replace.body }) (c.in_ok-update-in-Replace.ensures.served own)
          c.in_ok-update-in-Replace.ensures.ok;
      left = left_changed t part.session step.new.seat.session own (locked_of step.new.self).core
          (record { rid = c.in-Replace.rid; row = Some (record { key = c.in-Replace.key; body = c.in-Replace.body }) }) c.in_ok-update-in-Replace.ensures.ok;
      number = step.ensures.number;
    })
