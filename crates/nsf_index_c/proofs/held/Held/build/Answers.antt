use Rattle.std.proofs.Common.{inr, refl, rules, subst}
use Rattle.nsf_index_c.specs.Building.{Builds}
use Rattle.nsf_index_c.specs.Seen.{Seen}
use Rattle.nsf_index_c.proofs.held.Held.build.Goals as goal

pub returns : goal.returns
returns c =
    let w : Seen = record {
      index = c.build_many.new.self;
      most = c.self.inside.most;
      waiting = c.build_many.new.notes.items;
      is_redone = c.self.inside.is_redone;
    } in
    subst (λ (v : Seen). Builds c.args.most c.told_built.result v w) c.self.view_is (inr (
      search rules,
      (
        c.build_many.result,
        c.told_built.ensures,
        record {
          made = c.build_many.ensures.made;
          due = c.build_many.ensures.due;
          stop = c.build_many.ensures.stop;
          refused = c.build_many.ensures.refused;
          rest = refl;
        },
      ),
    ))
