use Rattle.std.proofs.Common.{◌≡◌, inl, ℕ, List, Err, IfOk, MatchOption, length, ap, ◌∙◌, subst}
use Rattle.std.proofs.lemmas.Result.{err_from_is_err_and, IfErr-weaker}
use Rattle.records.specs.RecordValue.{RecordValue}
use Rattle.gate_log.specs.Group.{IsGroupIn}
use Rattle.gate_log.specs.Area.{body}
use Rattle.gate_log.proofs.Runs.{on_err_always, on_ok_always}
use Rattle.gate_log.proofs.slot.read_group.Goals as goal

pub returns-in_err-bytes : goal.returns-in_err-bytes
returns-in_err-bytes g c =
    let p = err_from_is_err_and c.from_residual.result c.from_residual.ensures.1 in
    rw (p.1 ∙ ap Err p.2) (record {
      found = tt;
      reads = c.read_body.ensures.reads;
      quiet = tt;
      told = c.in_err-bytes.ensures.told;
      later = c.read_body.ensures.later;
      refused = c.in_err-bytes.ensures.refused;
    })

pub group_records-requires : goal.group_records-requires
group_records-requires g c = ap length c.deref.ensures.value ∙ c.in_ok-bytes.ensures.size

pub returns : goal.returns
returns g c =
    let there : c.deref.result.now ≡ body (g.D.Device.past_of c.args.device.now).disk.content c.args.gate = c.deref.ensures.value
    ∙ c.in_ok-bytes.ensures.value in
    record {
      found = subst (λ (b : List ℕ). IfOk c.group_records.result (λ found. MatchOption found
          ((records : List RecordValue) → ¬ IsGroupIn c.args.version records b) (λ records. IsGroupIn c.args.version records.items b)))
          there c.group_records.ensures.found;
      reads = c.read_body.ensures.reads;
      quiet = on_ok_always _ c.group_records.result c.in_ok-bytes.ensures.quiet;
      told = on_err_always _ c.group_records.result (λ e other. c.in_ok-bytes.ensures.quiet);
      later = c.read_body.ensures.later;
      refused = IfErr-weaker c.group_records.result _ _ (λ e is. inl is) c.group_records.ensures.no_memory;
    }
