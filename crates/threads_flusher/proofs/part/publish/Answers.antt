use Rattle.threads_flusher.proofs.part.publish.Goals as goal

pub returns : goal.returns
returns g c = record {
  published = (c.mark_of-mark.result, c.mark_of-mark.ensures, c.tell.ensures);
  noted = c.and.ensures;
}
