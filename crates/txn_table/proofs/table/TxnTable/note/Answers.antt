use Rattle.std.proofs.Common.{◌≡◌, Err, Some, None, is_some, take, refl, sym, ap, ◌∙◌}
use Rattle.std.proofs.lemmas.Result.{err_from_is_err_and}
use Rattle.record_values.specs.declared.error.Error.{Error}
use Rattle.records.specs.ChangeValue.{ChangeValue}
use Rattle.txn_table.specs.Table.{TableValue, with_rid, change_noted, touch_refusal}
use Rattle.txn_table.proofs.Noted.{held_is_own, unknown_refused, kept_after_note, kept_as_before, after_write, after_same, take_with_rid}
use Rattle.std.proofs.Common.{subst}
use Rattle.txn_table.specs.Table.{state_of, holder_of}
use Rattle.txn_table.specs.Sound.{OneHolder, IsSoundTable}
use Rattle.txn_table.proofs.TableLaws.{holder_of-noted, holder_of-noted_other}
use Rattle.txn_table.proofs.Lookups.{found_at, written_at}
use Rattle.txn_table.proofs.table.TxnTable.note.Goals as goal

same_error : (f e : Error) → Some f ≡ Some e → f ≡ e
same_error f e is = cc

no_error : (e : Error) → Some e ≡ None → ⊥
no_error e is = cc

pub invariant_of-self-in-Err : goal.invariant_of-self-in-Err
invariant_of-self-in-Err g c =
    let es = c.self.inside.active.entries in
    let rows = c.self.inside.held in
    let before = c.cut.ensures ∙ (λ i. take (c.len-rows.ensures i) (c.in_ok-hold.ensures.ok i))
    ∙ take_with_rid c.change.inside.rid rows in
    kept_as_before es _ rows c.cut.new.self c.self.inside.begun c.args.txn c.in-Some.active.now c.note.new.self
    (found_at c.args.txn _ c.self.inside.active.entries _ c.place_of-i.ensures c.in-Some.ensures.value)
    (written_at c.args.txn _ c.self.inside.active.entries c.note.new.self c.place_of-i.ensures) c.in-Err.ensures.err before c.self.invariant

pub returns-in-Err-clause-err : goal.returns-in-Err-clause-err
returns-in-Err-clause-err g c =
    after_same c.self.inside.active.entries _ c.self.inside.begun c.args.txn c.in-Some.active.now c.note.new.self c.args.self.now c.self.view_is
    (found_at c.args.txn _ c.self.inside.active.entries _ c.place_of-i.ensures c.in-Some.ensures.value)
    (written_at c.args.txn _ c.self.inside.active.entries c.note.new.self c.place_of-i.ensures) c.in-Err.ensures.err

pub note-requires : goal.note-requires
note-requires g c =
    let es = c.self.inside.active.entries in
    let row = ap (λ (x : ChangeValue). x.rid) c.change.view_is in
    let accepted : touch_refusal c.args.txn c.args.change.rid es ≡ None =
    ap (λ (v : TableValue). touch_refusal c.args.txn c.args.change.rid v.active) c.self.view_is
    ∙ ap (λ r. touch_refusal c.args.txn r c.args.self.now.active) (sym row)
    ∙ sym c.in_ok-is_held.ensures.refusal in
    let held = c.in_ok-is_held.ensures.held
    ∙ ap (λ r. is_some (holder_of r c.args.self.now.active)) row
    ∙ ap (λ (v : TableValue). is_some (holder_of c.args.change.rid v.active)) (sym c.self.view_is) in
    held_is_own 0 c.self.inside.begun c.args.txn c.args.change.rid es c.in-Some.active.now c.in_ok-is_held.is_held c.self.invariant.sound.rising
    (found_at c.args.txn _ c.self.inside.active.entries _ c.place_of-i.ensures c.in-Some.ensures.value) accepted held

pub invariant_of-self-in_default-note : goal.invariant_of-self-in_default-note
invariant_of-self-in_default-note g c =
    let es = c.self.inside.active.entries in
    let accepted : touch_refusal c.args.txn c.args.change.rid es ≡ None =
    ap (λ (v : TableValue). touch_refusal c.args.txn c.args.change.rid v.active) c.self.view_is
    ∙ ap (λ r. touch_refusal c.args.txn r c.args.self.now.active) (sym (ap (λ (x : ChangeValue). x.rid) c.change.view_is))
    ∙ sym c.in_ok-is_held.ensures.refusal in
    let rows = c.in_ok-hold.ensures.ok ∙ ap (λ (x : ChangeValue). with_rid x.rid c.self.inside.held) c.change.view_is in
    kept_after_note es _ c.self.inside.held c.hold.new.self c.self.inside.begun c.args.txn c.args.change c.in-Some.active.now c.note.new.self
    (found_at c.args.txn _ c.self.inside.active.entries _ c.place_of-i.ensures c.in-Some.ensures.value)
    (written_at c.args.txn _ c.self.inside.active.entries c.note.new.self c.place_of-i.ensures) c.in_default-note.ensures.ok rows accepted c.self.invariant

pub returns-clause-ok : goal.returns-clause-ok
returns-clause-ok g c =
    after_write (change_noted c.args.change) c.self.inside.active.entries _ c.self.inside.begun c.args.txn c.in-Some.active.now c.note.new.self c.args.self.now
    c.self.view_is (found_at c.args.txn _ c.self.inside.active.entries _ c.place_of-i.ensures c.in-Some.ensures.value)
    (written_at c.args.txn _ c.self.inside.active.entries c.note.new.self c.place_of-i.ensures) c.in_default-note.ensures.ok

pub returns-clause-held : goal.returns-clause-held
returns-clause-held g c =
    let is = ap (λ (v : TableValue). v.active) (returns-clause-ok g c) in
    let here = ap (λ (v : TableValue). state_of c.args.txn v.active) (sym c.self.view_is) ∙
    (found_at c.args.txn _ c.self.inside.active.entries _ c.place_of-i.ensures c.in-Some.ensures.value) in
    let kept = invariant_of-self-in_default-note g c in
    ap (holder_of c.args.change.rid) is
    ∙ holder_of-noted c.args.txn c.args.change c.args.self.now.active c.in-Some.active.now here (subst OneHolder is kept.sound.one_holder)

pub returns-clause-others : goal.returns-clause-others
returns-clause-others g c = λ r other.
    ap (λ (v : TableValue). holder_of r v.active) (returns-clause-ok g c) ∙ holder_of-noted_other c.args.txn c.args.change r c.args.self.now.active other

pub unreachable-requires : goal.unreachable-requires
unreachable-requires g c =
    let es = c.self.inside.active.entries in
    let none = found_at c.args.txn _ es _ c.place_of-i.ensures c.in_default.ensures.value in
    unknown_refused c.args.txn c.args.change.rid es none
    (ap (λ (v : TableValue). touch_refusal c.args.txn c.args.change.rid v.active) c.self.view_is
    ∙ ap (λ r. touch_refusal c.args.txn r c.args.self.now.active) (sym (ap (λ (x : ChangeValue). x.rid) c.change.view_is))
    ∙ sym c.in_ok-is_held.ensures.refusal)

pub returns-in_err-is_held : goal.returns-in_err-is_held
returns-in_err-is_held g c =
    let p = err_from_is_err_and c.from_residual.result c.from_residual.ensures.1 in
    let row = ap (λ (x : ChangeValue). x.rid) c.change.view_is in
    let told = c.in_err-is_held.ensures.refusal ∙ ap (λ r. touch_refusal c.args.txn r c.args.self.now.active) row in
    rw (p.1, p.2) (record {
      refused = λ e is. ap Err (same_error _ e (told ∙ is));
      accepted = λ is. absurd (no_error _ (told ∙ is));
      ok = tt;
      err = refl;
      held = tt;
      sound = subst IsSoundTable c.self.view_is c.self.invariant.sound;
      others = tt;
    })

pub returns-in_err-hold : goal.returns-in_err-hold
returns-in_err-hold g c =
    let p = err_from_is_err_and c.from_residual-in_err-hold.result c.from_residual-in_err-hold.ensures.1 in
    let none = ap (λ r. touch_refusal c.args.txn r c.args.self.now.active) (sym (ap (λ (x : ChangeValue). x.rid) c.change.view_is))
    ∙ sym c.in_ok-is_held.ensures.refusal in
    rw (p.1, p.2) (record {
      refused = λ e is. absurd (no_error e (sym is ∙ none));
      accepted = λ _. c.in_err-hold.ensures.no_memory;
      ok = tt;
      err = c.self.view_is;
      held = tt;
      sound = subst IsSoundTable c.self.view_is c.self.invariant.sound;
      others = tt;
    })

pub returns-in-Err-clause-refused : goal.returns-in-Err-clause-refused
returns-in-Err-clause-refused g c = λ e is.
    let none = ap (λ r. touch_refusal c.args.txn r c.args.self.now.active) (sym (ap (λ (x : ChangeValue). x.rid) c.change.view_is))
    ∙ sym c.in_ok-is_held.ensures.refusal in
    absurd (no_error e (sym is ∙ none))

pub returns-in-Err-clause-accepted : goal.returns-in-Err-clause-accepted
returns-in-Err-clause-accepted g c = λ _. c.in-Err.ensures.no_memory

pub returns-in-Err-clause-sound : goal.returns-in-Err-clause-sound
returns-in-Err-clause-sound g c = subst IsSoundTable c.self.view_is c.self.invariant.sound

pub returns-clause-refused : goal.returns-clause-refused
returns-clause-refused g c = λ e is.
    let none = ap (λ r. touch_refusal c.args.txn r c.args.self.now.active) (sym (ap (λ (x : ChangeValue). x.rid) c.change.view_is))
    ∙ sym c.in_ok-is_held.ensures.refusal in
    absurd (no_error e (sym is ∙ none))

pub returns-clause-sound : goal.returns-clause-sound
returns-clause-sound g c = subst IsSoundTable c.self.view_is c.self.invariant.sound
