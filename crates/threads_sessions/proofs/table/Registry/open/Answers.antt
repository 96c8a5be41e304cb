use Rattle.threads_sessions.specs.Values.{empty_session}
use Rattle.std.proofs.Common.{rules, ◌≡◌, ℕ, length, ap, ◌∙◌, sym, subst, arith}
use Rattle.std.proofs.lemmas.Grind.{common_steps}
use Rattle.std.proofs.lemmas.Result.{err_from_is_err_and}
use Rattle.atomic_table.specs.Seated.{TableId}
use Rattle.threads_sessions.specs.Halves.{HalfValue, IsNew, MakerValue}
use Rattle.threads_sessions.proofs.Keeps.{IsNew-push, IsNew-nil}
use Rattle.threads_sessions.proofs.table.Registry.open.Goals as goal

pub returns-in_err-registry : goal.returns-in_err-registry
returns-in_err-registry g c =
    let p = err_from_is_err_and c.from_residual.result c.from_residual.ensures.1 in
    rw p.1 (record { book = tt; seats = tt })

pub make-one-requires : goal.make-one-requires
make-one-requires g c = ap (λ (m : MakerValue). m.table) c.loop-number.invariant.next ∙ c.registry.view_is

pub returns-in_err-push : goal.returns-in_err-push
returns-in_err-push g c =
    let p = err_from_is_err_and c.from_residual-in_err-push.result c.from_residual-in_err-push.ensures.1 in
    rw p.1 (record { book = tt; seats = tt })

pub returns-in_err-push-2 : goal.returns-in_err-push-2
returns-in_err-push-2 g c =
    let p = err_from_is_err_and c.from_residual-in_err-push-2.result c.from_residual-in_err-push-2.ensures.1 in
    rw p.1 (record { book = tt; seats = tt })

pub loop-number-init : goal.loop-number-init
loop-number-init g c =
    let z : TableId = c.registry.inside.table.shared.table_id in record {
      next = search rules;
      books = ap length c.new-book.ensures.items;
      book = subst (IsNew z) (sym c.new-book.ensures.items) (IsNew-nil z);
      seated = ap length c.new-seats.ensures.items;
      seats = subst (IsNew z) (sym c.new-seats.ensures.items) (IsNew-nil z);
    }

pub loop-number-preserved : goal.loop-number-preserved
loop-number-preserved g c =
    let z : TableId = c.registry.inside.table.shared.table_id in
    let before = c.loop-number.invariant in
    let number : c.loop-number.maker.next ≡ c.loop-number._number = ap (λ (m : MakerValue). m.next) before.next in
    let half : ℕ → HalfValue = λ n. record { table = z; number = n; session = empty_session } in
    let at : TableId → HalfValue = λ w. record { table = w; number = c.loop-number.maker.next; session = empty_session } in
    let one : c.make-one.result.0 ≡ half (length c.loop-number.book.items) = c.make-one.ensures.one
    ∙ (ap at (sym c.registry.view_is) ∙ ap half (number ∙ sym before.books)) in
    let other : c.make-one.result.1 ≡ half (length c.loop-number.seats.items) = c.make-one.ensures.other
    ∙ (c.make-one.ensures.one ∙ (ap at (sym c.registry.view_is) ∙ ap half (number ∙ sym before.seated))) in record {
      next = search rules;
      books = grind (arith, common_steps);
      book = subst (IsNew z) (sym c.in_ok-push.ensures.items) (IsNew-push z c.loop-number.book.items c.make-one.result.0 before.book one);
      seated = grind (arith, common_steps);
      seats = subst (IsNew z) (sym c.in_ok-push-2.ensures.items) (IsNew-push z c.loop-number.seats.items c.make-one.result.1 before.seats other);
    }
