use Rattle.std.proofs.Common.{ap, append_assoc, arith, length, rules, subst, ◌<◌}
use Rattle.online_notes.proofs.Bytes.{pair_length}
use Rattle.online_notes.proofs.writing.append_pair.Goals as goal
use Rattle.online_notes.specs.Spelling.{page_bytes, slot_bytes}
use Rattle.record_values.specs.Values.{Place}
use Rattle.record_values.specs.declared.rid.TheConstants.{SLOTS_PER_PAGE}

pub returns-clause-items : goal.returns-clause-items
unfolding page_bytes slot_bytes
returns-clause-items g c = search (rules, append_assoc)

pub returns-clause-few : goal.returns-clause-few
returns-clause-few g c = omega (arith, pair_length c.args.pair.now, c.as_slice.ensures.fits, ap length c.as_slice.ensures.value)

pub returns-clause-writable : goal.returns-clause-writable
returns-clause-writable g c = record {
  page = c.page_in.ensures.small;
  slot = subst (λ (r : Place). r.slot < SLOTS_PER_PAGE) c.rid.view_is c.rid.invariant;
  key = omega (arith, c.as_slice.ensures.fits, ap length c.as_slice.ensures.value);
}
