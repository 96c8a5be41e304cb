use Rattle.std.proofs.Common.{rules, sym, ◌∙◌}
use Rattle.threads_flusher.proofs.Notes.{told_failed, told_sound}
use Rattle.threads_flusher.proofs.part.tell.Goals as goal

pub publish-requires : goal.publish-requires
publish-requires g c = search rules

pub returns-then-has_failed : goal.returns-then-has_failed
returns-then-has_failed g c =
    told_failed c.args.view.now c.args.writer.now c.synced.result c.args.mark c.synced.ensures c.requires.horizon c.publish.new.view c.fail.new.view
    c.publish.ensures c.fail.ensures (sym c.has_failed.ensures ∙ c.if-has_failed.true)

pub returns-else-has_failed : goal.returns-else-has_failed
returns-else-has_failed g c =
    let sound = sym c.has_failed.ensures ∙ c.if-has_failed.false in
    told_sound c.args.view.now c.args.writer.now c.synced.result c.args.mark c.synced.ensures c.requires.horizon c.publish.new.view c.publish.ensures
    (c.requires.failed sound) sound
