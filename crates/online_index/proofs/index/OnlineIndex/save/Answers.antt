use Rattle.std.proofs.Common.{Some, [], ap, arith, ◌+◌, ◌++◌, ◌∙◌, ◌∷◌}
use Rattle.std.proofs.lemmas.List.{length_push}
use Rattle.online_index.proofs.PieceLemmas.{appended_one, piece_more}
use Rattle.online_index.proofs.index.OnlineIndex.save.Goals as goal
use Rattle.online_model.specs.declared.note.Note.TheVariants.{EntryIs}

pub loop-count-preserved : goal.loop-count-preserved
loop-count-preserved g c =
    let before = c.loop-count.invariant.1 in
    let note = EntryIs c.in-Some.pair (Some c.in-Some.mark) in (
      omega arith,
      (
        before.0 ++ note ∷ [],
        appended_one c.args.notes.now.items before.0 c.loop-count.notes.items c.push_reserved.new.self.items c.note_of_entry.result note
            c.push_reserved.ensures.items c.note_of_entry.ensures before.1,
        piece_more c.args.self.now.entries c.args.above c.loop-count.passed _ before.0 c.in-Some.pair c.in-Some.mark before.2
            c.as_ref.ensures.value c.in-Some.ensures,
        length_push before.0 note ∙ ap (λ n. n + 1) before.3,
      ),
    )
