use Rattle.std.proofs.Common.{◌≡◌, ◌+◌, ◌++◌, ◌≤◌, ◌∙◌, ap, arith, length, sym}
use Rattle.std.proofs.lemmas.List.{take_rest}
use Rattle.online_notes.specs.Spelling.{bytes_of}
use Rattle.nsf_index_c.proofs.Frames.{as_many, frame_more}
use Rattle.nsf_index_c.proofs.recording.spell.Goals as goal

pub loop-note-preserved : goal.loop-note-preserved
loop-note-preserved c =
    let n = c.note-item.result in let used = c.loop-note.used in let bytes = c.loop-note.bytes in
    let is : c.deref.result.now ≡ bytes_of n =
    c.deref.ensures.value ∙ c.in_ok-encode.ensures.ok ∙ ap (λ bs. bs ++ bytes_of n) c.clear.ensures.items in
    let long : c.len.result ≡ length c.deref.result.now = c.len.ensures ∙ sym c.deref.ensures.len in
    let few : length (bytes_of n) ≤ 63 = c.in_ok-encode.ensures.few in
    let next = frame_more c.args.notes.now c.loop-note.note-index n used c.len.result c.args.bytes.now bytes c.deref.result.now _
    c.put_frame.new.bytes c.loop-note-test.true c.note-item.is c.loop-note.invariant.0 is long (take_rest bytes used) c.put_frame.ensures in
    let fits : used + (c.len.result + 1) ≤ length c.args.bytes.now =
    omega (arith, c.loop-note.invariant.1, c.loop-note-test.true, long, ap length is, few, c.loop-note.auto.bytes) in (
      next,
      omega (arith, as_many _ _ _ _ next fits, c.loop-note.invariant.1, c.loop-note-test.true, long, ap length is, few, c.loop-note.auto.bytes),
    )
