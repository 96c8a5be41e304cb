use Rattle.std.proofs.Common.{refl}
use Rattle.std.proofs.lemmas.Result.{err_from_is_err_and}
use Rattle.threads_flusher.proofs.Taking.{took_more, took_none, took_then}
use Rattle.threads_loops.proofs.flush.take_records.Goals as goal

pub returns-then-passes-clause-takes : goal.returns-then-passes-clause-takes
returns-then-passes-clause-takes g c = took_none _

pub returns-in_err-take : goal.returns-in_err-take
returns-in_err-take g c =
    let p = err_from_is_err_and c.from_residual.result c.from_residual.ensures.1 in
    rw p.1 (record {
      takes = took_more _ _ c.take.ensures.takes.0 c.take.ensures.takes.1;
      looks = λ _ _ _. tt;
    })

pub returns-then-not-wanted-clause-takes : goal.returns-then-not-wanted-clause-takes
returns-then-not-wanted-clause-takes g c = took_more _ _ c.take.ensures.takes.0 c.take.ensures.takes.1

pub returns-in_err-looked : goal.returns-in_err-looked
returns-in_err-looked g c =
    let p = err_from_is_err_and c.from_residual-in_err-looked.result c.from_residual-in_err-looked.ensures.1 in
    rw p.1 (record {
      takes = took_then _ _ _ (took_more _ _ c.take.ensures.takes.0 c.take.ensures.takes.1) c.look-looked.ensures.takes;
      looks = λ _ _ _. tt;
    })

pub returns : goal.returns
returns g c = record {
  takes = took_then _ _ _ (took_more _ _ c.take.ensures.takes.0 c.take.ensures.takes.1) c.look-looked.ensures.takes;
  looks = λ _ _ _. refl;
}
