use Rattle.std.proofs.Common.{◌≡◌, ◌++◌, List, map}
use Rattle.records.specs.RecordValue.{RecordValue}
use Rattle.threads_flusher.specs.Part.{IsFlusher, last_handed, publication_of}
use Rattle.threads_flusher.proofs.part.FlushPart.take.Given as goal

abbrev pub invariant-loop : goal.invariant-loop
invariant-loop g l =
    (l.self-inside.popper.queue ≡ g.B.Group.site.queue)
    × (l.self-inside.view.board ≡ g.B.Group.site.board)
    × (l.self-inside.writer ≡ l.fn.self.writer)
    × (l.self-inside.view ≡ l.fn.self.published)
    × (map (publication_of g.D.Device.past_of) l.self-inside.publications.items ≡ l.fn.self.publications)
    × IsFlusher g.D.Device.past_of g.D.Device.marks g.B.Group.site.opened l.fn.self
    × (l.self-inside.last ≡ last_handed g.B.Group.site.opened l.fn.self)
    × ((more : List RecordValue) × (l.self-inside.popper.records ≡ l.fn.self.handed ++ (l.fn.self.held ++ more))
    × (l.self-inside.held.items ≡ l.fn.self.held ++ more))
